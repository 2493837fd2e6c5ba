-- What a ratio reads, from two neighbouring steps; and the ratio of a step, read again, also as two resistances.
use mathlib.Core.Path.{◌≡◌}
use Rattle.std.specs.Prelude.{Some}
use Prim.Native.Nat.{ℕ, ◌+◌, ◌*◌, ◌<◌, ◌≤◌, ◌^◌}
use native.Mathlib.Decide.{dec_lt}
use native.Mathlib.Omega.{arith}
use lib.IntN.{ℤ, pos, ◌+ℤ◌, ◌-ℤ◌, -ℤ-+ℤ_cancel}
use lib.Signed.{◌≤ℤ◌, ◌<ℤ◌}
use Rattle.whole.specs.Floor.{floor}
use Rattle.whole.proofs.Parts.{ints, up, dn, add_parts, sub_parts}
use Rattle.whole.proofs.Machine.{no_lt}
use Rattle.whole.proofs.Ring.{strictly}
use Rattle.whole.proofs.Rounding.{floor_parts}
use Rattle.whole.proofs.Largest.{largest-by-next}
use Rattle.quantity.specs.Quantities.{largest_ratio}
use Rattle.quantity.specs.Outcomes.{answered}
use Rattle.quantity.proofs.Ratios.{set_has_ratio}
use Rattle.law.specs.declared.laws.Law.TheVariants.{Curve}
use Rattle.curve.specs.Curve.{exact, per_unit, units, first, last, past_last}
use Rattle.curve.specs.Ways.{RatioAt, read_ratio, read_resistances}
use Rattle.curve.specs.Promised.{Reads, ForwardReadsBack, ReadsTheirRatio, SetReadsBack}
use Rattle.curve.proofs.Rising.{climb, one_up, rises, not_falling}
use Rattle.curve.proofs.Ends.{at_first, within-limit}
use Rattle.curve.proofs.Outcomes.{reads-step}

pub reads : (w : ℕ) (step : ℤ) → first ≤ℤ step → step ≤ℤ last → exact step ≤ℤ units w → units w <ℤ exact (step +ℤ pos 1) → Reads (read_ratio w) step
reads w step p q n a =
    let s = add_parts step (pos 1) in
    let lowest = not_falling first step (omega ints) p (omega ints) in
    let highest = not_falling (step +ℤ pos 1) past_last (omega (ints, s)) (omega (ints, s)) (omega ints) in
    let h : units w <ℤ exact past_last = omega ints in
    reads-step w step (within-limit w h) (omega ints) h (largest-by-next exact first last one_up (units w) step p q n a)

-- rounded down: not above the exact ratio, and less than a unit of 10^-9 below it
module _ (step : ℤ) (w : ℕ) (e : pos w ≡ floor (exact step) (10 ^ 22)) where
  not-over : units w ≤ℤ exact step
  unfolding units
  not-over = omega (ints, floor_parts (exact step) (10 ^ 22) (omega arith))

  near : exact step <ℤ (units w +ℤ pos (10 ^ 22))
  unfolding units
  near = omega (ints, floor_parts (exact step) (10 ^ 22) (omega arith), add_parts (units w) (pos (10 ^ 22)))

-- so the ratio of a step is at most 4.4
pub ratio_most : (step : ℤ) (w : ℕ) → first ≤ℤ step → step ≤ℤ last → RatioAt step w → w ≤ largest_ratio
ratio_most step w p q e = within-limit w (omega (ints, not-over step w e, rises step past_last p (omega ints) (omega ints)))

back_same : (step : ℤ) (w : ℕ) → first ≤ℤ step → step ≤ℤ last → exact step ≡ units w → Reads (read_ratio w) step
back_same step w p q e = reads w step p q (omega ints) (omega (ints, one_up step p (omega ints)))

-- the first step's exact ratio has nine decimals
not_first : (step : ℤ) (w : ℕ) → first ≤ℤ step → pos w ≡ floor (exact step) (10 ^ 22) → (exact step ≡ units w → ⊥) → first <ℤ step
unfolding units
not_first step w p e f = by (dec_lt (up first + dn step) (up step + dn first))
  where
    by : Dec (up first + dn step < up step + dn first) → first <ℤ step
    by (yes h) = omega ints
    by (no h) =
        let s : step ≡ first = omega ints in
        let x : exact step ≡ pos (185_200_800 * 10 ^ 22) = rw s at_first in
        absurd (f (omega (ints, x, floor_parts (exact step) (10 ^ 22) (omega arith))))

back_below : (step : ℤ) (w : ℕ) → first ≤ℤ step → step ≤ℤ last → pos w ≡ floor (exact step) (10 ^ 22) → (exact step ≡ units w → ⊥) → Reads (read_ratio w) (step -ℤ pos 1)
back_below step w p q e f =
    let h = not_first step w p e f in
    let before = step -ℤ pos 1 in
    let m = sub_parts step (pos 1) in
    let x : before +ℤ pos 1 ≡ step = -ℤ-+ℤ_cancel step (pos 1) in
    let c : (exact before +ℤ pos (292 * per_unit)) <ℤ exact step = rw x at (climb before (omega (ints, m)) (omega (ints, m))) in
    let n = near step w e in
    reads w before (omega (ints, m)) (omega (ints, m))
    (omega (ints, c, n, add_parts (exact before) (pos (292 * per_unit)), add_parts (units w) (pos (10 ^ 22))))
    (rw x (strictly (units w) (exact step) (not-over step w e) f))

pub reads_back : ForwardReadsBack
reads_back step o p q f =
    let e = (rw (no_lt p, no_lt q) at f).1.1 in
    record { same = back_same step o.answer.ratio p q; below = back_below step o.answer.ratio p q e }

-- ---- of two resistances
pub reads_their_ratio : ReadsTheirRatio
reads_their_ratio r r0 o d = (λ h. rw d h, λ h. rw d at h)

pub set_reads_back : SetReadsBack
set_reads_back r r0 step o p q f d l x =
    let w = o.answer.ratio in
    let back = reads_back step o p q f in
    let read : (t : ℤ) → Reads (read_ratio w) t → Reads (read_resistances r r0) t =
    λ t h. (reads_their_ratio r r0 (answered (record { law = Some Curve; step = t })) d).0 (rw (set_has_ratio r r0 w l x) h) in
    record { same = λ e. read step (back.same e); below = λ e. read (step -ℤ pos 1) (back.below e) }
