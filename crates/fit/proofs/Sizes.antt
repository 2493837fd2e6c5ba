-- How large the numbers on the way to the coefficients get, from cells that keep their limit and lie apart.
use mathlib.Core.Path.{◌≡◌}
use mathlib.Core.List.{[], ◌∷◌}
use Prim.Native.Nat.{ℕ, ◌+◌, ◌*◌, ◌/◌, ◌<◌, ◌≤◌}
use native.Mathlib.Nat.{mul-le-mul_right, le_trans}
use native.Mathlib.Omega.{arith}
use borrow.Author.Tests.{leb-true}
use lib.IntN.{ℤ, pos, nat_abs, ◌+ℤ◌, ◌-ℤ◌, ◌*ℤ◌}
use lib.Signed.{◌≤ℤ◌}
use mir.Syntax.{w64}
use mir.Val.{SFits}
use Rattle.whole.proofs.Parts.{ints, one_part, abs_parts, add_parts, sub_parts}
use Rattle.whole.proofs.Size.{abs_sub, abs_product, abs→fits}
use Rattle.whole.proofs.Rounding.{abs-floor, quotient-within}
use Rattle.quantity.specs.Quantities.{one}
use Rattle.fit.specs.declared.Point.{Point}
use Rattle.deviation.specs.Limits.{fine, keeps}
use Rattle.fit.specs.Fit.{◌·◌, ◌÷◌, q, r}
use Rattle.fit.specs.Room.{Kept, Spread, wide}

-- ---- products and quotients
pub times_size : (n x : ℤ) (S R : ℕ) → nat_abs n ≤ S → nat_abs x ≤ R → nat_abs (n · x) ≤ S * R / one + 1
unfolding ◌·◌
times_size n x S R p h = abs-floor (n *ℤ x) one (S * R) (omega arith) (abs_product n x S R p h)

pub over_size : (n x : ℤ) (S g k : ℕ) → (x ≡ pos 0 → ⊥) → nat_abs n ≤ S → g ≤ nat_abs x → S * one ≤ g * k → nat_abs (n ÷ x) ≤ k
unfolding ◌÷◌
over_size n x S g k z p h m =
    quotient-within (n *ℤ pos one) x k z
    (le_trans (le_trans (abs_product n (pos one) S one p (omega arith)) m) (mul-le-mul_right k h))

-- ---- one cell
limit : (p : Point) → Kept p → 1000 * nat_abs p.delta ≤ fine * nat_abs p.x
unfolding keeps
limit p k = leb-true _ _ k.limit

pub x_size : (p : Point) → Kept p → nat_abs p.x ≤ 3_400_000_000
x_size p k = omega (ints, k.from_zero, k.to_largest, add_parts p.x (pos one), abs_parts p.x, one_part p.x)

pub δ-size : (p : Point) → Kept p → nat_abs p.delta ≤ 340_000_000
δ-size p k = omega (arith, limit p k, x_size p k)

pub x_fits : (p : Point) → Kept p → SFits w64 p.x
x_fits p k = abs→fits p.x (omega (arith, x_size p k))

pub δ-fits : (p : Point) → Kept p → SFits w64 p.delta
δ-fits p k = abs→fits p.delta (omega (arith, δ-size p k))

pub q_size : (p : Point) → Kept p → nat_abs (q p) ≤ 100_000_000
q_size p k = over_size p.delta p.x (nat_abs p.delta) (10 * nat_abs p.delta) 100_000_000 k.apart (omega arith) (omega (arith, limit p k)) (omega arith)

-- ---- two cells that lie apart
pub gap_size : (p p' : Point) (gap : ℕ) → (p.x +ℤ pos gap) ≤ℤ p'.x → gap ≤ nat_abs (p'.x -ℤ p.x)
gap_size p p' gap h =
    omega (ints, h, add_parts p.x (pos gap), sub_parts p'.x p.x, abs_parts (p'.x -ℤ p.x))

pub apart : (p p' : Point) (gap : ℕ) → 0 < gap → (p.x +ℤ pos gap) ≤ℤ p'.x → p'.x -ℤ p.x ≡ pos 0 → ⊥
apart p p' gap g h e = omega (ints, h, add_parts p.x (pos gap), sub_parts p'.x p.x)

pub slope_size : (low high : ℤ) (p p' : Point) (gap S k : ℕ) → 0 < gap → nat_abs low ≤ S → nat_abs high ≤ S → (p.x +ℤ pos gap) ≤ℤ p'.x → (S + S) * one ≤ gap * k → nat_abs ((high -ℤ low) ÷ (p'.x -ℤ p.x)) ≤ k
slope_size low high p p' gap S k g l m h e =
    over_size (high -ℤ low) (p'.x -ℤ p.x) (S + S) gap k (apart p p' gap g h) (omega (arith, abs_sub high low)) (gap_size p p' gap h) e

pub r_size : (p p' : Point) (gap k : ℕ) → 0 < gap → Kept p → Kept p' → (p.x +ℤ pos gap) ≤ℤ p'.x → 200_000_000 * one ≤ gap * k → nat_abs (r p p') ≤ k
r_size p p' gap k g K K' h e = slope_size (q p) (q p') p p' gap 100_000_000 k g (q_size p K) (q_size p' K') h e

-- ---- three cells
module _ (p₁ p₂ p₃ : Point) where
  abbrev pub c₃ : ℤ
  c₃ = (r p₂ p₃ -ℤ r p₁ p₂) ÷ (p₃.x -ℤ p₁.x)

  abbrev pub b₃ : ℤ
  b₃ = r p₁ p₂ -ℤ c₃ · (p₁.x +ℤ p₂.x)

  pub record Sizes : Type 0 where
    pub r₁₂ : nat_abs (r p₁ p₂) ≤ 304_000_000
    pub r₂₃ : nat_abs (r p₂ p₃) ≤ 304_000_000
    pub c : nat_abs c₃ ≤ 461_000_000
    pub b : nat_abs b₃ ≤ 2_600_000_000
    pub x₁ : nat_abs p₁.x ≤ 2_080_000_000

  pub sizes : Spread wide (p₁ ∷ p₂ ∷ p₃ ∷ []) → Sizes
  sizes s =
      let k₁ = s.0 in
      let k₂ = s.2.0 in
      let k₃ = s.2.2 in
      let r₁₂ = r_size p₁ p₂ wide 304_000_000 (omega arith) k₁ k₂ s.1 (omega arith) in
      let r₂₃ = r_size p₂ p₃ wide 304_000_000 (omega arith) k₂ k₃ s.2.1 (omega arith) in
      let far : (p₁.x +ℤ pos 1_320_000_000) ≤ℤ p₃.x = omega (ints, s.1, s.2.1, add_parts p₁.x (pos wide), add_parts p₂.x (pos wide), add_parts p₁.x (pos 1_320_000_000)) in
      let c = slope_size (r p₁ p₂) (r p₂ p₃) p₁ p₃ 1_320_000_000 304_000_000 461_000_000 (omega arith) r₁₂ r₂₃ far (omega arith) in
      let both : nat_abs (p₁.x +ℤ p₂.x) ≤ 4_820_000_000 =
      omega (ints, far, s.1, s.2.1, k₁.from_zero, k₂.from_zero, k₃.to_largest, add_parts p₃.x (pos one), add_parts p₁.x (pos 1_320_000_000), add_parts p₂.x (pos wide), add_parts p₁.x p₂.x, abs_parts (p₁.x +ℤ p₂.x), one_part (p₁.x +ℤ p₂.x)) in
      record {
        r₁₂ = r₁₂;
        r₂₃ = r₂₃;
        c = c;
        b = omega (arith, abs_sub (r p₁ p₂) (c₃ · (p₁.x +ℤ p₂.x)), r₁₂, times_size c₃ (p₁.x +ℤ p₂.x) 461_000_000 4_820_000_000 c both);
        x₁ = omega (ints, far, k₁.from_zero, k₃.to_largest, add_parts p₃.x (pos one), add_parts p₁.x (pos 1_320_000_000), abs_parts p₁.x, one_part p₁.x);
      }
