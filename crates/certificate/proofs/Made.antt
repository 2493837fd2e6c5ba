-- Every certificate that a record yields is sound, and accepted where it is given; its places are small.
use mathlib.Core.Path.{◌≡◌, refl, sym, ap, subst}
use mathlib.Core.Bool.{Bool, true, false, false≢true, ◌&&◌, ◌||◌, not}
use mathlib.Core.List.{List, [], ◌∷◌, map}
use Rattle.std.specs.Prelude.{Option, None, Some}
use Prim.Native.Nat.{ℕ, suc, ◌≤◌}
use native.Mathlib.Omega.{arith}
use borrow.Author.Tests.{le-leb}
use lib.Dec.{leb, eqb}
use lib.IntN.{ℤ, nat_abs}
use lib.ListN.{length}
use Rattle.std.specs.List.{list_any}
use Rattle.whole.specs.Choice.{if◌then◌otherwise◌}
use Rattle.whole.proofs.Any.{Member, of_any, or_false}
use Rattle.quantity.specs.Quantities.{largest_ratio}
use Rattle.quantity.specs.Outcomes.{Outcome, answered, ◌gives◌, number_given, Follows, if_named}
use Rattle.quantity.proofs.Outcomes.{answer-follows, passed}
use Rattle.law.specs.declared.cell.Cell.{Cell}
use Rattle.law.specs.declared.cell.Cell.TheVariants.{Al}
use Rattle.law.specs.declared.subrange.Subrange.{Subrange}
use Rattle.law.specs.declared.laws.Law.{Law}
use Rattle.law.specs.Cells.{Wr}
use Rattle.law.specs.Subranges.{carried, cells, coefficients, to_silver, law_named, law_name, subrange_named}
use Rattle.law.proofs.Subranges.{cell_fact, every_subrange, one_to_four, names_law}
use Rattle.deviation.specs.declared.places.Places.{Places}
use Rattle.deviation.specs.Limits.{within, largest_coefficient, Small}
use Rattle.fit.specs.declared.Point.{Point}
use Rattle.fit.specs.Fit.{fit, beyond}
use Rattle.fit.proofs.Within.{all_within}
use Rattle.quantity.specs.declared.resistance.Ratio.{Ratio}
use Rattle.certificate.specs.declared.record.Record.{Record}
use Rattle.certificate.specs.declared.soundness.Certificate.{Certificate}
use Rattle.certificate.specs.Certificate.{place_kept, sound, given_of, LawAndPlaces, held, no_places, given_by}
use Rattle.certificate.specs.Record.{ratio, ratio_above, cell_missing, purity_cell_missing, impure, deviates, point, fitted, aluminium_ratio, made, record_of}
use Rattle.certificate.specs.Promised.{MadeSound, MadeAccepted}
use Rattle.certificate.proofs.Records.{all_measured, not_above, keeps-limit}
use Rattle.certificate.proofs.Sound.{sound_limited}
use Rattle.certificate.proofs.Answers.{held_unique}

-- ---- the coefficients, by the number of cells
abbrev places_kept : ℕ → Places → Bool
places_kept used k = place_kept used 0 k.a && place_kept used 1 k.b && place_kept used 2 k.c && place_kept used 3 k.d

small : (v : ℤ) → nat_abs v ≤ largest_coefficient → leb (nat_abs v) largest_coefficient ≡ true
small v h = le-leb (nat_abs v) largest_coefficient h

-- what is not used is 0, and what is used is not beyond its limit
fit_kept : (ps : List Point) → length ps ≤ 4 → beyond (fit ps) ≡ false → places_kept (length ps) (fit ps) ≡ true
fit_kept [] h b = refl
fit_kept (p₁ ∷ []) h b = rw (small _ (all_within _ b).a)
fit_kept (p₁ ∷ p₂ ∷ []) h b = rw (small _ (all_within _ b).a, small _ (all_within _ b).b)
fit_kept (p₁ ∷ p₂ ∷ p₃ ∷ []) h b = rw (small _ (all_within _ b).a, small _ (all_within _ b).b, small _ (all_within _ b).c)
fit_kept (p₁ ∷ p₂ ∷ p₃ ∷ p₄ ∷ []) h b =
    rw (small _ (all_within _ b).a, small _ (all_within _ b).b, small _ (all_within _ b).c, small _ (all_within _ b).d)
fit_kept (p₁ ∷ p₂ ∷ p₃ ∷ p₄ ∷ p₅ ∷ ps) h b = absurd (omega arith)

length-map : (f : Cell → Point) (ps : List Cell) → length (map f ps) ≡ length ps
length-map f [] = refl
length-map f (p ∷ ps) = ap suc (length-map f ps)

-- ---- W(Al): a subrange that reaches silver needs aluminium
-- no other cell has aluminium's Wr
abbrev is_aluminium : Cell → Bool
is_aluminium p = eqb (Wr p) (Wr Al)

aluminium_is : (p : Cell) → is_aluminium p ≡ true → p ≡ Al
aluminium_is p e = rw e at (cell_fact (λ (p : Cell). if is_aluminium p then p otherwise Al) (λ (p : Cell). Al) refl p)

or_true : (a b : Bool) → a ≡ true → (not a || b) ≡ true → b ≡ true
or_true true b p e = e
or_true false b p e = absurd (false≢true p)

needs_aluminium : (s : Subrange) → to_silver (carried s).form ≡ true → Member Al (cells s)
needs_aluminium s e =
    let w = of_any is_aluminium (cells s) (or_true (to_silver (carried s).form) (list_any is_aluminium (cells s)) e (every_subrange (λ (s : Subrange). not (to_silver (carried s).form) || list_any is_aluminium (cells s)) refl s)) in
    subst (λ (p : Cell). Member p (cells s)) (aluminium_is w.0 w.2) w.1

-- ---- a certificate whose tests were passed
module _ (ratios : Record Ratio) (above : ratio_above ratios ≡ false) (kept : deviates ratios ≡ false) where
  aluminium-kept : (s : Subrange) → cell_missing ratios (cells s) ≡ false → (if to_silver (carried s).form then within (Wr Al) (aluminium_ratio s ratios) otherwise eqb (aluminium_ratio s ratios) 0) ≡ true
  aluminium-kept s m = by (to_silver (carried s).form) refl
    where
      by : (t : Bool) → to_silver (carried s).form ≡ t → (if t then within (Wr Al) (if t then ratio ratios Al otherwise 0) otherwise eqb (if t then ratio ratios Al otherwise 0) 0) ≡ true
      by true e = keeps-limit ratios above kept Al (all_measured ratios (cells s) m Al (needs_aluminium s e))
      by false e = refl

  made-sound : (s : Subrange) → cell_missing ratios (cells s) ≡ false → beyond (fitted ratios (cells s)) ≡ false → sound (made s ratios) ≡ true
  unfolding fitted
  made-sound s m b =
      let few : length (map (point ratios) (cells s)) ≤ 4 = rw (length-map (point ratios) (cells s)) (one_to_four s).1 in
      let places : places_kept (coefficients s) (fit (map (point ratios) (cells s))) ≡ true = rw (length-map (point ratios) (cells s)) at (fit_kept (map (point ratios) (cells s)) few b) in
      rw (places, aluminium-kept s m)

-- ---- what an answered record says
record Passed (s : Subrange) (ratios : Record Ratio) : Type 0 where
  not_above : ratio_above ratios ≡ false
  none_missing : cell_missing ratios (cells s) ≡ false
  kept : deviates ratios ≡ false
  not_beyond : beyond (fitted ratios (cells s)) ≡ false

tests_passed : (s : Subrange) (ratios : Record Ratio) → number_given (record_of s ratios).tests ≡ 0 → Passed s ratios
tests_passed s ratios e =
    let beyond_limit = deviates ratios || beyond (fitted ratios (cells s)) in
    let not-2 = passed (ratio_above ratios) 2 (cell_missing ratios (cells s) gives 4 ∷ purity_cell_missing ratios gives 5 ∷ impure s ratios gives 6 ∷ beyond_limit gives 7 ∷ []) (omega arith) e in
    let not-4 = passed (cell_missing ratios (cells s)) 4 (purity_cell_missing ratios gives 5 ∷ impure s ratios gives 6 ∷ beyond_limit gives 7 ∷ []) (omega arith) not-2.1 in
    let not-5 = passed (purity_cell_missing ratios) 5 (impure s ratios gives 6 ∷ beyond_limit gives 7 ∷ []) (omega arith) not-4.1 in
    let not-6 = passed (impure s ratios) 6 (beyond_limit gives 7 ∷ []) (omega arith) not-5.1 in
    let not-7 = or_false (deviates ratios) (beyond (fitted ratios (cells s))) (passed beyond_limit 7 [] (omega arith) not-6.1).0 in
    record { not_above = not-2.0; none_missing = not-4.0; kept = not-7.0; not_beyond = not-7.1 }

passed_sound : (s : Subrange) (ratios : Record Ratio) → Passed s ratios → sound (made s ratios) ≡ true
passed_sound s ratios p = made-sound ratios p.not_above p.kept s p.none_missing p.not_beyond

tested_sound : (s : Subrange) (ratios : Record Ratio) (k : Certificate) → Follows (record_of s ratios) (answered (held k)) → sound k ≡ true
tested_sound s ratios k h =
    let a = answer-follows (record_of s ratios) (answered (held k)) refl h in
    subst (λ (k : Certificate). sound k ≡ true) (held_unique (made s ratios) k (sym a.1)) (passed_sound s ratios (tests_passed s ratios a.0))

pub record_sound : MadeSound
record_sound ratios k = by (subrange_named ratios.subrange.0)
  where
    by : (named : Option Subrange) → Follows (if_named no_places named (λ s. record_of s ratios)) (answered (held k)) → sound k ≡ true
    by None e = absurd (let z : ◌≡◌ {A = ℕ} 0 3 = ap (λ (o : Outcome LawAndPlaces). o.code) e in omega arith)
    by (Some s) h = tested_sound s ratios k h

-- its coefficients keep their limit, and W(Al) is a ratio of the record
pub record Sized (k : Places) : Type 0 where
  pub small : Small k
  pub aluminium : k.wal.0 ≤ largest_ratio

pub made-sized : (s : Subrange) (ratios : Record Ratio) → number_given (record_of s ratios).tests ≡ 0 → Sized (made s ratios).places
made-sized s ratios e =
    let p = tests_passed s ratios e in
    record { small = (sound_limited s (made s ratios).places (passed_sound s ratios p)).small; aluminium = by p.not_above (to_silver (carried s).form) }
  where
    by : ratio_above ratios ≡ false → (silver : Bool) → (if silver then ratio ratios Al otherwise 0) ≤ largest_ratio
    by above true = not_above ratios above Al
    by above false = omega arith

-- a sound certificate is accepted
sound_accepted : (law : Law) (k : Certificate) → k.law ≡ law → sound k ≡ true → (named : Option Law) → named ≡ Some law → Follows (if_named no_places named (λ law. given_by law (given_of k))) (answered (held k))
sound_accepted law k is e named n = rw (n, ← is, e) (refl, refl)

pub record_accepted : MadeAccepted
record_accepted ratios k h = sound_accepted k.law k refl (record_sound ratios k h) (law_named (law_name k.law)) (names_law k.law)
