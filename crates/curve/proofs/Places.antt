-- Places, which are counted from -200 °C on, and what the code finds of the exact ratio at one.
use mathlib.Core.Path.{◌≡◌, refl}
use Prim.Native.Nat.{ℕ, ◌+◌, ◌*◌, ◌-◌, ◌/◌, ◌<◌, ◌≤◌, ◌^◌}
use native.Mathlib.Nat.{mul-le-mul}
use native.Mathlib.Omega.{arith}
use lib.Dec.{leb}
use lib.IntN.{ℤ, pos, neg_ℤ, ◌+ℤ◌, ◌-ℤ◌}
use lib.Signed.{le_z, ◌≤ℤ◌}
use Rattle.whole.proofs.Parts.{ints, add_parts, sub_parts, neg_parts}
use Rattle.whole.proofs.Machine.{same_test}
use Rattle.curve.specs.Curve.{exact, units, first, last}
use Rattle.curve.specs.Places.{step_at}
use Rattle.curve.proofs.Sides.{fallen, exact_down}

-- ---- the step at a place
pub below : (place : ℕ) → place < 2_000_000 → step_at place ≡ neg_ℤ (pos (2_000_000 - place))
unfolding step_at
below place h = omega (ints, add_parts first (pos place), neg_parts (pos (2_000_000 - place)))

pub above : (place : ℕ) → 2_000_000 ≤ place → step_at place ≡ pos (place - 2_000_000)
unfolding step_at
above place h = omega (ints, add_parts first (pos place))

pub as_sum : (place : ℕ) → first +ℤ pos place ≡ step_at place
unfolding step_at
as_sum place = refl

pub as_difference : (step : ℤ) (place : ℕ) → step -ℤ first ≡ pos place → step_at place ≡ step
unfolding step_at
as_difference step place e = omega (ints, sub_parts step first, add_parts first (pos place))

pub from_first : (place : ℕ) → first ≤ℤ step_at place
unfolding step_at
from_first place = omega (ints, add_parts first (pos place))

pub to_last : (place : ℕ) → place ≤ 10_500_000 → step_at place ≤ℤ last
unfolding step_at
to_last place h = omega (ints, add_parts first (pos place))

pub place_bound : (place : ℕ) → step_at place ≤ℤ last → place ≤ 10_500_000
unfolding step_at
place_bound place h = omega (ints, add_parts first (pos place))

pub next_place : (place : ℕ) → step_at place +ℤ pos 1 ≡ step_at (place + 1)
unfolding step_at
next_place place = omega (ints, add_parts first (pos place), add_parts first (pos (place + 1)), add_parts (step_at place) (pos 1))

-- ---- under 1 by u units of 10^-18 and a rest
pub fallen_under : (m : ℕ) → m ≤ 2_000_000 → fallen m ≤ 10 ^ 31
fallen_under m h =
    omega (arith, mul-le-mul h h, mul-le-mul {n₁ = m + 1_000_000} {n₂ = 3_000_000} (omega arith) (mul-le-mul (mul-le-mul h h) h))

module _ (place u rest : ℕ) (h : place < 2_000_000) (e : exact (neg_ℤ (pos (2_000_000 - place))) +ℤ pos (u * 10 ^ 13 + rest) ≡ pos (10 ^ 31)) where
  pub not-over-one : u * 10 ^ 13 + rest ≤ 10 ^ 31
  not-over-one =
      let m = 2_000_000 - place in
      let x = exact (neg_ℤ (pos m)) in
      omega (ints, exact_down m, fallen_under m (omega arith), add_parts x (pos (fallen m)), add_parts x (pos (u * 10 ^ 13 + rest)))

  pub exact_below : exact (step_at place) ≡ pos (10 ^ 31 - (u * 10 ^ 13 + rest))
  exact_below =
      rw (below place h) (omega (ints, not-over-one, add_parts (exact (neg_ℤ (pos (2_000_000 - place)))) (pos (u * 10 ^ 13 + rest))))

-- ---- the comparison with a ratio
pub compared_down : (u rest w : ℕ) → rest < 10 ^ 13 → u * 10 ^ 13 + rest ≤ 10 ^ 31 → leb (10 ^ 18) (w * 10 ^ 9 + u) ≡ le_z (pos (10 ^ 31 - (u * 10 ^ 13 + rest))) (units w)
unfolding units
compared_down u rest w h k =
    same_test (10 ^ 18) (w * 10 ^ 9 + u) (pos (10 ^ 31 - (u * 10 ^ 13 + rest))) (pos (w * 10 ^ 22)) (λ p. omega ints) (λ p. omega ints)

pub compared_up : (v w : ℕ) → leb v (w * 10 ^ 9) ≡ le_z (pos (v * 10 ^ 13)) (units w)
unfolding units
compared_up v w = same_test v (w * 10 ^ 9) (pos (v * 10 ^ 13)) (pos (w * 10 ^ 22)) (λ p. omega ints) (λ p. omega ints)

-- ---- rounded down to 10^-9
pub cut_whole : (u : ℕ) → u * 10 ^ 13 + 0 ≤ 10 ^ 31 → (10 ^ 18 - u) / 10 ^ 9 ≡ (10 ^ 31 - (u * 10 ^ 13 + 0)) / 10 ^ 22
cut_whole u h = omega arith

pub cut_rest : (u rest : ℕ) → 0 < rest → rest < 10 ^ 13 → u * 10 ^ 13 + rest ≤ 10 ^ 31 → (10 ^ 18 - 1 - u) / 10 ^ 9 ≡ (10 ^ 31 - (u * 10 ^ 13 + rest)) / 10 ^ 22
cut_rest u rest p q h = omega arith

pub cut_up : (v : ℕ) → v / 10 ^ 9 ≡ v * 10 ^ 13 / 10 ^ 22
cut_up v = omega arith
