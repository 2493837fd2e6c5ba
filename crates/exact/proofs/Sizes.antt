-- How large a working value gets, from bounds of its coefficients and of n.
use mathlib.Core.List.{List, [], ◌∷◌}
use Prim.Native.Nat.{ℕ, ◌+◌, ◌*◌, ◌/◌, ◌<◌, ◌≤◌, ◌^◌}
use native.Mathlib.Omega.{arith}
use lib.IntN.{ℤ, nat_abs, ◌+ℤ◌, ◌*ℤ◌}
use mir.Syntax.{w64}
use mir.Val.{SFits}
use Rattle.whole.specs.Floor.{floor}
use Rattle.whole.proofs.Size.{abs_add, abs_product, abs→fits}
use Rattle.whole.proofs.Rounding.{abs-floor}
use Rattle.exact.specs.Polynomial.{rounded}

-- with |n| at most R and each coefficient at most its bound in size
unfoldable pub size : ℕ → ℕ → ℕ → List ℕ → ℕ
size unit R k [] = k
size unit R k (l ∷ ls) = size unit R l ls * R / unit + 1 + k

pub data Bounded : List ℤ → List ℕ → Type 0 where
  none : Bounded [] []
  and : {c : ℤ} {k : ℕ} {cs : List ℤ} {ks : List ℕ} → nat_abs c ≤ k → Bounded cs ks → Bounded (c ∷ cs) (k ∷ ks)

-- each coefficient bounded by its own size
abbrev pub sizes : List ℤ → List ℕ
sizes [] = []
sizes (c ∷ cs) = nat_abs c ∷ sizes cs

pub by_sizes : (cs : List ℤ) → Bounded cs (sizes cs)
by_sizes [] = none
by_sizes (c ∷ cs) = and {c = c} {k = nat_abs c} (omega arith) (by_sizes cs)

module _ (unit R : ℕ) (u : 0 < unit) (n : ℤ) (b : nat_abs n ≤ R) where
  pub abs-rounded : (c : ℤ) (k : ℕ) {cs : List ℤ} {ks : List ℕ} → nat_abs c ≤ k → Bounded cs ks → nat_abs (rounded unit n c cs) ≤ size unit R k ks
  unfolding rounded size
  abs-rounded c k h none = h
  abs-rounded c k h (and {c = c'} {k = l} {cs = cs} {ks = ls} g w) =
      let v = rounded unit n c' cs in
      let p = abs_product v n (size unit R l ls) R (abs-rounded c' l g w) b in
      omega (arith, abs_add (floor (v *ℤ n) unit) c, abs-floor (v *ℤ n) unit (size unit R l ls * R) u p)

  -- one turn: what it gives, and that it has room in 64 bits
  pub turn-size : (v c : ℤ) (B k : ℕ) → nat_abs v ≤ B → nat_abs c ≤ k → nat_abs (floor (v *ℤ n) unit +ℤ c) ≤ B * R / unit + 1 + k
  turn-size v c B k p q =
      omega (arith, abs_add (floor (v *ℤ n) unit) c, abs-floor (v *ℤ n) unit (B * R) u (abs_product v n B R p b))

  pub turn-room : (v c : ℤ) (B k : ℕ) → nat_abs v ≤ B → nat_abs c ≤ k → B * R < 2 ^ 63 → B * R / unit + 1 + k < 2 ^ 63 → (0 < unit) × SFits w64 (v *ℤ n) × SFits w64 (floor (v *ℤ n) unit +ℤ c)
  turn-room v c B k p q h g =
      (u, abs→fits (v *ℤ n) (omega (arith, abs_product v n B R p b)), abs→fits (floor (v *ℤ n) unit +ℤ c) (omega (arith, turn-size v c B k p q)))
