-- What a loop over the coefficients, from the highest down, holds: the working value of those from i on. At |n| no larger than the unit.
use mathlib.Core.Path.{◌≡◌, ap}
use mathlib.Core.List.{List, [], ◌∷◌}
use Prim.Native.Nat.{ℕ, zero, suc, ◌+◌, ◌*◌, ◌<◌, ◌≤◌, ◌^◌}
use native.Mathlib.Nat.{mul-div_cancel_left}
use native.Mathlib.Omega.{arith}
use lib.ListN.{length, drop, get_or}
use lib.Seq.{drop-cons}
use lib.IntN.{ℤ, pos, nat_abs, ◌+ℤ◌, ◌*ℤ◌}
use mir.Syntax.{w64}
use mir.Val.{SFits}
use Rattle.whole.specs.Floor.{floor}
use Rattle.whole.proofs.Size.{abs_add, abs_product, abs→fits}
use Rattle.whole.proofs.Rounding.{abs-floor}
use Rattle.exact.specs.Polynomial.{rounded}

unfoldable pub from : ℕ → ℤ → List ℤ → ℕ → ℤ
from unit n cs i = rounded unit n (get_or cs i (pos 0)) (drop (suc i) cs)

-- one coefficient more
pub one_lower : (unit : ℕ) (n : ℤ) (cs : List ℤ) (i : ℕ) → suc i < length cs → floor (from unit n cs (suc i) *ℤ n) unit +ℤ get_or cs i (pos 0) ≡ from unit n cs i
unfolding from rounded
one_lower unit n cs i h = rw (drop-cons cs (suc i) (pos 0) h)

-- sizes, by the sum of the coefficients' own and one for each rounding
unfoldable pub total : List ℤ → ℕ
total [] = 0
total (c ∷ cs) = nat_abs c + 1 + total cs

total_drop : (cs : List ℤ) (i : ℕ) → total (drop i cs) ≤ total cs
unfolding total
total_drop [] zero = omega arith
total_drop [] (suc i) = omega arith
total_drop (c ∷ cs) zero = omega arith
total_drop (c ∷ cs) (suc i) = omega (arith, total_drop cs i)

pub coefficient_size : (cs : List ℤ) (i : ℕ) → nat_abs (get_or cs i (pos 0)) ≤ total cs
unfolding total
coefficient_size [] i = omega arith
coefficient_size (c ∷ cs) zero = omega arith
coefficient_size (c ∷ cs) (suc i) = omega (arith, coefficient_size cs i)

module _ (unit : ℕ) (u : 0 < unit) (n : ℤ) (b : nat_abs n ≤ unit) where
  pub quotient-size : (v : ℤ) → nat_abs (floor (v *ℤ n) unit) ≤ nat_abs v + 1
  quotient-size v =
      rw (mul-div_cancel_left (nat_abs v) u) at (abs-floor (v *ℤ n) unit (unit * nat_abs v) u (omega (arith, abs_product v n (nat_abs v) unit (omega arith) b)))

  pub rounded-size : (c : ℤ) (cs : List ℤ) → nat_abs (rounded unit n c cs) ≤ total (c ∷ cs)
  unfolding rounded total
  rounded-size c [] = omega arith
  rounded-size c (c' ∷ cs) =
      let v = rounded unit n c' cs in
      omega (arith, abs_add (floor (v *ℤ n) unit) c, quotient-size v, rounded-size c' cs)

  pub from-size : (cs : List ℤ) (i : ℕ) → i < length cs → nat_abs (from unit n cs i) ≤ total cs
  unfolding from
  from-size cs i h =
      omega (arith, rounded-size (get_or cs i (pos 0)) (drop (suc i) cs), total_drop cs i, ap total (drop-cons cs i (pos 0) h))

  -- so a turn has room in 64 bits
  pub room : (v c : ℤ) (T : ℕ) → nat_abs v ≤ T → nat_abs c ≤ T → T * unit < 2 ^ 62 → (0 < unit) × SFits w64 (v *ℤ n) × SFits w64 (floor (v *ℤ n) unit +ℤ c)
  room v c T p q s =
      let m = abs_product v n T unit p b in
      (u, abs→fits (v *ℤ n) (omega arith), abs→fits (floor (v *ℤ n) unit +ℤ c) (omega (arith, abs_add (floor (v *ℤ n) unit) c, quotient-size v, le T unit u)))
    where
      le : (T unit : ℕ) → 0 < unit → T ≤ T * unit
      le T zero h = absurd (omega arith)
      le T (suc k) h = omega arith
