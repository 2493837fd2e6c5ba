-- The working value strictly rises with the step.
use Prim.Native.Nat.{◌≤◌}
use native.Mathlib.Omega.{arith}
use lib.IntN.{ℤ, pos, nat_abs, ◌+ℤ◌}
use lib.Signed.{◌≤ℤ◌, ◌<ℤ◌}
use Rattle.whole.proofs.Parts.{ints, add_parts}
use Rattle.whole.proofs.Rising as rising
use Rattle.exact.proofs.Sizes.{size, by_sizes}
use Rattle.exact.proofs.Rise.{spread, climbs}
use Rattle.reference.specs.Reference.{n, working, middle, past_last}
use Rattle.reference.specs.Promised.{Increasing}
use Rattle.reference.proofs.Steps.{span, next}

-- by more than 26,000 units at each step
pub climb : (step : ℤ) → pos 0 ≤ℤ step → step <ℤ past_last → (working step +ℤ pos 26_000) <ℤ working (step +ℤ pos 1)
unfolding working size spread
climb step p q =
    let s = add_parts step (pos 1) in
    let b = span step p (omega ints) in
    let b' : nat_abs (n step +ℤ pos 1) ≤ middle = rw (next step) at (span (step +ℤ pos 1) (omega (ints, s)) (omega (ints, s))) in
    rw (next step) (climbs middle middle (omega arith) (n step) b b' _ _ (by_sizes _) 26_000 (omega arith))

pub one_up : (step : ℤ) → pos 0 ≤ℤ step → step <ℤ past_last → working step <ℤ working (step +ℤ pos 1)
one_up step p q = omega (ints, climb step p q, add_parts (working step) (pos 26_000))

pub rises : Increasing
rises = rising.rises working (pos 0) past_last one_up

-- every working value lies between those at the two ends
pub between_ends : (step : ℤ) → pos 0 ≤ℤ step → step ≤ℤ past_last → (working (pos 0) ≤ℤ working step) × (working step ≤ℤ working past_last)
between_ends step p q = (not_falling (pos 0) step (omega ints) p q, not_falling step past_last p q (omega ints))
  where
    not_falling : (a b : ℤ) → pos 0 ≤ℤ a → a ≤ℤ b → b ≤ℤ past_last → working a ≤ℤ working b
    not_falling = rising.not_falling working (pos 0) past_last one_up
