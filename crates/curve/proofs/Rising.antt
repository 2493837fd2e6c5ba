-- The exact ratio rises with the step, from -200 °C to one step past 850 °C, by more than 292 units of 10^-9 each time.
use mathlib.Core.Path.{◌≡◌}
use Prim.Native.Nat.{ℕ, suc, ◌+◌, ◌*◌, ◌<◌, ◌≤◌, ◌^◌}
use native.Mathlib.Omega.{arith}
use lib.IntN.{ℤ, pos, negsuc, neg_ℤ, ◌+ℤ◌}
use lib.Signed.{◌≤ℤ◌, ◌<ℤ◌}
use Rattle.whole.proofs.Parts.{ints, add_parts, neg_parts}
use Rattle.whole.proofs.Rising as rising
use Rattle.curve.specs.Curve.{exact, per_unit, first, past_last}
use Rattle.curve.specs.Promised.{Increasing, Climbs}
use Rattle.curve.proofs.Sides.{risen, square_small, exact_up, fallen, exact_down}

risen_next : (n : ℕ) → n ≤ 8_500_000 → risen n * 10 ^ 13 + 292 * per_unit < risen (n + 1) * 10 ^ 13
risen_next n h = omega (arith, square_small n (omega arith), square_small (n + 1) (omega arith))

fallen_next : (j : ℕ) → fallen j + 292 * per_unit < fallen (suc j)
fallen_next j = omega arith

climb_up : (n : ℕ) → n ≤ 8_500_000 → (exact (pos n) +ℤ pos (292 * per_unit)) <ℤ exact (pos (n + 1))
climb_up n h =
    rw (exact_up n (omega arith), exact_up (n + 1) (omega arith))
    (omega (ints, risen_next n h, add_parts (pos (risen n * 10 ^ 13)) (pos (292 * per_unit))))

climb_down : (j : ℕ) → (exact (negsuc j) +ℤ pos (292 * per_unit)) <ℤ exact (neg_ℤ (pos j))
climb_down j =
    let a = exact (negsuc j) in
    let b = exact (neg_ℤ (pos j)) in
    omega (ints, fallen_next j, exact_down (suc j), exact_down j, add_parts a (pos (fallen (suc j))), add_parts b (pos (fallen j)), add_parts a (pos (292 * per_unit)))

pub climb : Climbs
climb (pos n) p q = climb_up n (omega ints)
climb (negsuc j) p q =
    let e : negsuc j +ℤ pos 1 ≡ neg_ℤ (pos j) = omega (ints, add_parts (negsuc j) (pos 1), neg_parts (pos j)) in
    rw e (climb_down j)

pub one_up : (step : ℤ) → first ≤ℤ step → step <ℤ past_last → exact step <ℤ exact (step +ℤ pos 1)
one_up step p q = omega (ints, climb step p (omega ints), add_parts (exact step) (pos (292 * per_unit)))

pub rises : Increasing
rises = rising.rises exact first past_last one_up

pub not_falling : (a b : ℤ) → first ≤ℤ a → a ≤ℤ b → b ≤ℤ past_last → exact a ≤ℤ exact b
not_falling = rising.not_falling exact first past_last one_up
