-- The least ratio of a step, forward on the scale: every step has one, and reading it gives the step back. By every law a step's ratio is at most 4.4.
use mathlib.Core.Path.{◌≡◌, refl, sym, subst}
use mathlib.Core.Bool.{true, ◌&&◌}
use mathlib.Core.List.{[], ◌∷◌, ◌++◌}
use Rattle.std.specs.Prelude.{Option, Some}
use Prim.Native.Nat.{ℕ, zero, suc, ◌+◌, ◌<◌, ◌≤◌}
use native.Mathlib.Decide.{dec_lt}
use native.Mathlib.Omega.{arith}
use borrow.Author.Tests.{le-ltb}
use lib.IntN.{ℤ, pos, ◌+ℤ◌}
use lib.Signed.{lt_z, ◌≤ℤ◌, ◌<ℤ◌}
use Rattle.whole.proofs.Machine.{lt_no}
use Rattle.whole.proofs.Parts.{up, dn, ints, add_parts}
use Rattle.quantity.specs.Quantities.{largest_resistance, is_reading, is_divisor, ratio_of, largest_ratio}
use Rattle.quantity.specs.Outcomes.{Outcome, answered, ◌gives◌, number_given, Follows, if_named}
use Rattle.quantity.specs.Ratios.{ratio_tests}
use Rattle.quantity.proofs.Outcomes.{passed}
use Rattle.quantity.proofs.Ratios.{set_has_ratio}
use Rattle.law.specs.declared.subrange.Subrange.{Subrange}
use Rattle.law.specs.declared.laws.Law.{Law}
use Rattle.law.specs.declared.laws.Law.TheVariants.{Curve, Scale}
use Rattle.law.specs.Subranges.{carried}
use Rattle.law.specs.Ranges.{step_tests}
use Rattle.law.specs.Answers.{LawAndStep, no_step}
use Rattle.law.proofs.Answers.{read_after}
use Rattle.reference.specs.Reference.{working, last}
use Rattle.reference.proofs.Rising.{climb}
use Rattle.curve.specs.Curve as curve
use Rattle.curve.proofs.Back as curve-back
use Rattle.deviation.specs.declared.places.Places.{Places}
use Rattle.deviation.specs.Limits.{Limited}
use Rattle.deviation.specs.Working.{Wr}
use Rattle.deviation.proofs.Rising.{step-up, not_falling as not-falling-Wr}
use Rattle.certificate.specs.declared.soundness.Certificate.{Certificate}
use Rattle.certificate.specs.Certificate.{certificate_of, sound, sound_tests}
use Rattle.reading.specs.Laws.{value_of, range_of}
use Rattle.reading.specs.Reading.{read_ratio, read_certificate}
use Rattle.reading.specs.Forward.{Least, RatioAt}
use Rattle.reading.specs.Promised.{HasRatio, ReadsBack, SetReadsBack}
use Rattle.reading.proofs.Ends.{bottom_is, range-bottom, range-top, tops, under_all, over-all}
use Rattle.reading.proofs.Tests.{between}
use Rattle.reading.proofs.Answered.{went}
use Rattle.reading.proofs.Unique.{read_unique}

module _ (s : Subrange) (k : Places) (e : Limited (carried s).form k) (step : ℤ) where
  abbrev wr : ℕ → ℤ
  wr = Wr (carried s).form k

  -- from a ratio whose Wr is enough, down to the least
  least-from : (n : ℕ) → n ≤ largest_ratio → working step ≤ℤ wr n → (w : ℕ) × Least (carried s).form k step w
  least-from zero h enough = (zero, record { within = h; enough = enough; least = λ v l. absurd (omega arith) })
  least-from (suc n) h enough =
      by (dec_lt (up (wr n) + dn (working step)) (up (working step) + dn (wr n))) (λ f. least-from n (omega arith) f)
    where
      by : Dec (up (wr n) + dn (working step) < up (working step) + dn (wr n)) → (working step ≤ℤ wr n → (w : ℕ) × Least (carried s).form k step w) → (w : ℕ) × Least (carried s).form k step w
      by (yes l) f = (
        suc n,
        record {
          within = h;
          enough = enough;
          least = λ v m. omega (ints, l, not-falling-Wr (carried s).form k e v n (omega arith) (omega arith));
        },
      )
      by (no l) f = f (omega ints)

  -- Wr at the ratio lies between the working value at the step and the one at the next
  bracket : (w : ℕ) → pos 0 ≤ℤ step → step ≤ℤ last → Least (carried s).form k step w → wr w <ℤ working (step +ℤ pos 1)
  bracket zero p q l = absurd (omega (ints, under_all (carried s).form k e step p q, l.enough))
  bracket (suc w) p q l =
      omega (
        ints,
        l.least w (omega arith),
        step-up (carried s).form k e w (omega (arith, l.within)),
        climb step p (omega (ints, q)),
        add_parts (working step) (pos 26_000),
      )

  -- so the ratio reads the step
  reads-ratio : (w : ℕ) → pos 0 ≤ℤ step → step ≤ℤ (carried s).top → Least (carried s).form k step w → Follows (read_ratio (Scale s) k w) (answered (record { law = Some (Scale s); step = step }))
  reads-ratio w p q l = between (Scale s) k w step p q l.enough (bracket w p (omega (ints, q, (tops s).1)) l)

pub has-ratio : HasRatio
has-ratio s k e step p q =
    let from : pos 0 ≤ℤ step = rw (bottom_is s) at p in
    least-from s k e step largest_ratio (omega arith) (over-all (carried s).form k e step from (omega (ints, q, tops s)))

-- ---- of the calls
-- a step that passes 8 and 9
pub inside : (bottom top step : ℤ) → number_given (step_tests bottom top step) ≡ 0 → (bottom ≤ℤ step) × (step ≤ℤ top)
inside bottom top step e =
    let low = passed (lt_z step bottom) 8 (lt_z top step gives 9 ∷ []) (omega arith) e in
    let high = passed (lt_z top step) 9 [] (omega arith) low.1 in
    (lt_no refl low.0, lt_no refl high.0)

-- a step's ratio, by every law
pub ratio_most : (law : Law) (k : Places) (step : ℤ) (w : ℕ) → number_given (step_tests (range_of law).bottom (range_of law).top step) ≡ 0 → RatioAt law k step w → w ≤ largest_ratio
ratio_most Curve k step w e r =
    let within = inside curve.first curve.last step e in
    curve-back.ratio_most step w within.0 within.1 r
ratio_most (Scale s) k step w e r = r.within

-- a reading of resistances that pass their tests is that of their ratio
pub reads-resistances : (k : Certificate) (r r0 : ℕ) → sound k ≡ true → (is_reading r && is_divisor r0) ≡ true → ratio_of r r0 ≤ largest_ratio → (o : Outcome LawAndStep) → Follows (read_ratio k.law k.places (ratio_of r r0)) o → Follows (read_certificate k r r0) o
reads-resistances k r r0 e d b o h =
    let passes : number_given (sound_tests k ++ ratio_tests r r0) ≡ 0 = rw (e, d, le-ltb largest_ratio (ratio_of r r0) b) in
    read_after [] (sound_tests k ++ ratio_tests r r0) k.law (range_of k.law) (value_of k.law k.places (ratio_of r r0)) refl refl refl passes o h

pub reads_back : ReadsBack
reads_back k r r0 step s f o named h z d e g =
    let w = went k step f (Scale s) named z h in
    let within = inside (range_of (Scale s)).bottom (range_of (Scale s)).top step w.inside in
    let from : pos 0 ≤ℤ step = rw (range-bottom s, bottom_is s) at within.0 in
    let to : step ≤ℤ (carried s).top = rw (range-top s) at within.1 in
    let l : Least (carried s).form k.places step (ratio_of r r0) = rw e w.ratio-of in
    let t : Outcome LawAndStep = answered (record { law = Some (Scale s); step = step }) in
    let read : Follows (read_certificate (certificate_of (Scale s) k) r r0) t = reads-resistances (certificate_of (Scale s) k) r r0 w.sound_certificate d l.within t (reads-ratio s k.places w.keeps step (ratio_of r r0) from to l) in
    read_unique largest_resistance k r r0 o t g (subst (λ (n : Option Law). Follows (if_named no_step n (λ law. read_certificate (certificate_of law k) r r0)) t) (sym named) read)

pub set_reads_back : SetReadsBack
set_reads_back k r r0 step s f o named h z d l x g = reads_back k r r0 step s f o named h z d (set_has_ratio r r0 f.answer.ratio l x) g
