-- How far a + b·x + c·x² is from q at each cell that it is fitted to: what each rounded product and quotient leaves, carried from cell to cell.
use mathlib.Core.Path.{◌≡◌}
use Prim.Native.Nat.{ℕ, ◌+◌, ◌-◌, ◌*◌, ◌<◌, ◌≤◌}
use native.Mathlib.Nat.{mul-le-mul_left}
use native.Mathlib.Omega.{arith}
use lib.IntN.{ℤ, pos, ◌+ℤ◌, ◌-ℤ◌, ◌*ℤ◌}
use lib.Signed.{◌≤ℤ◌, ◌<ℤ◌}
use Rattle.whole.specs.Floor.{floor}
use Rattle.whole.proofs.Parts.{up, dn, ints, one_part, add_parts, sub_parts, mul_parts}
use Rattle.whole.proofs.Rounding.{floor_parts}
use Rattle.quantity.specs.Quantities.{one}
use Rattle.fit.specs.declared.Point.{Point}
use Rattle.deviation.specs.declared.places.Places.{Places}
use Rattle.fit.specs.Fit.{◌·◌, ◌÷◌, q, r}
use Rattle.fit.specs.Room.{Kept, wide}
use Rattle.fit.proofs.Newton as newton

-- ---- what a rounding leaves
-- z is w d and t more, less than d
pub record Leaves (z w : ℤ) (d : ℕ) : Type 0 where
  pub t : ℕ
  pub small : t < d
  pub is : z ≡ w *ℤ pos d +ℤ pos t

floor_leaves : (z : ℤ) (d : ℕ) → 0 < d → Leaves z (floor z d) d
floor_leaves z d h =
    let w = floor z d in
    let t = up z + d * dn w - (d * up w + dn z) in
    let f = floor_parts z d h in
    record { t = t; small = omega arith; is = omega (ints, mul_parts w (pos d), add_parts (w *ℤ pos d) (pos t)) }

product : (n x : ℤ) → Leaves (n *ℤ x) (n · x) one
unfolding ◌·◌
product n x = floor_leaves (n *ℤ x) one (omega arith)

pub over : (n : ℤ) (d : ℕ) → 0 < d → Leaves (n *ℤ pos one) (n ÷ pos d) d
unfolding ◌÷◌
over n d h = floor_leaves (n *ℤ pos one) d h

-- from one cell to a higher one
far : Point → Point → ℕ
far p p' = up (p'.x -ℤ p.x)

is_far : (p p' : Point) → p.x <ℤ p'.x → p'.x -ℤ p.x ≡ pos (far p p')
unfolding far
is_far p p' h = omega (ints, sub_parts p'.x p.x, one_part (p'.x -ℤ p.x))

slope : (n : ℤ) (p p' : Point) → p.x <ℤ p'.x → Leaves (n *ℤ pos one) (n ÷ (p'.x -ℤ p.x)) (far p p')
unfolding far
slope n p p' h = rw (is_far p p' h) (over n (far p p') (omega (ints, sub_parts p'.x p.x)))

-- ---- the coefficients k at a cell: the value is q and an error from -L to H, times one²
pub record Misses (k : Places) (p : Point) (L H : ℕ) : Type 0 where
  pub error : ℤ
  pub is : newton.value (pos one) k.a k.b k.c p.x ≡ q p *ℤ (pos one *ℤ pos one) +ℤ error
  pub low : dn error ≤ up error + L
  pub high : up error ≤ dn error + H

at_first : (k : Places) (p : Point) → k.a ≡ q p -ℤ k.b · p.x -ℤ (k.c · p.x) · p.x → Misses k p (dn p.x * one) (2 * one * one + up p.x * one)
at_first k p e =
    let x = p.x in
    let t₁ = product k.b x in
    let t₂ = product k.c x in
    let t₃ = product (k.c · x) x in
    let ups : up x * t₂.t ≤ up x * one = mul-le-mul_left (up x) (omega (arith, t₂.small)) in
    let dns : dn x * t₂.t ≤ dn x * one = mul-le-mul_left (dn x) (omega (arith, t₂.small)) in
    let m = mul_parts x (pos t₂.t) in
    let rest = pos ((t₁.t + t₃.t) * one) in
    let s = add_parts rest (x *ℤ pos t₂.t) in
    record {
      error = rest +ℤ x *ℤ pos t₂.t;
      is = rw e (newton.at_first (pos one) k.b k.c (q p) x (k.b · x) (k.c · x) ((k.c · x) · x) (pos t₁.t) (pos t₂.t) (pos t₃.t) t₁.is t₂.is t₃.is);
      low = omega (arith, t₁.small, t₃.small);
      high = omega (arith, t₁.small, t₃.small);
    }

-- the slope between two cells is theirs and κ from -L to one, times one
record Slopes (k : Places) (p p' : Point) (L : ℕ) : Type 0 where
  κ : ℤ
  is : newton.rise (pos one) k.b k.c (p.x +ℤ p'.x) ≡ r p p' *ℤ pos one +ℤ κ
  low : dn κ ≤ up κ + L
  high : up κ ≤ dn κ + one

first_slope : (k : Places) (p p' : Point) → k.b ≡ r p p' -ℤ k.c · (p.x +ℤ p'.x) → Slopes k p p' 0
first_slope k p p' e =
    let y = p.x +ℤ p'.x in
    let t = product k.c y in
    record {
      κ = pos t.t;
      is = rw e (newton.first_rise (pos one) k.c (r p p') y (k.c · y) (pos t.t) t.is);
      low = omega arith;
      high = omega (arith, t.small);
    }

next_slope : (k : Places) (p₁ p₂ p₃ : Point) → p₁.x <ℤ p₃.x → k.c ≡ (r p₂ p₃ -ℤ r p₁ p₂) ÷ (p₃.x -ℤ p₁.x) → Slopes k p₁ p₂ 0 → Slopes k p₂ p₃ (far p₁ p₃)
next_slope k p₁ p₂ p₃ h e s =
    let l = slope (r p₂ p₃ -ℤ r p₁ p₂) p₁ p₃ h in
    let G = pos (far p₁ p₃) in
    let sum : p₂.x +ℤ p₃.x ≡ p₁.x +ℤ p₂.x +ℤ G =
    omega (ints, is_far p₁ p₃ h, sub_parts p₃.x p₁.x, add_parts p₂.x p₃.x, add_parts p₁.x p₂.x, add_parts (p₁.x +ℤ p₂.x) G) in
    let d = sub_parts s.κ (pos l.t) in
    record {
      κ = s.κ -ℤ pos l.t;
      is = newton.next_rise (pos one) k.b k.c (r p₁ p₂) (r p₂ p₃) (p₁.x +ℤ p₂.x) (p₂.x +ℤ p₃.x) G s.κ (pos l.t) sum (rw e l.is) s.is;
      low = omega (arith, l.small, s.low);
      high = omega (arith, s.high);
    }

at_next : (k : Places) (p p' : Point) (L H K : ℕ) → p.x <ℤ p'.x → Slopes k p p' K → Misses k p L H → Misses k p' (L + far p p' * K + far p p' * one) (H + far p p' * one)
at_next k p p' L H K h s m =
    let l = slope (q p' -ℤ q p) p p' h in
    let g = far p p' in
    let κ = s.κ in
    let E = m.error in
    let v = newton.at_next (pos one) k.a k.b k.c (q p) (q p') (r p p') p.x p'.x (pos g) E κ (pos l.t) (is_far p p' h) l.is s.is m.is in
    let more = pos g *ℤ κ -ℤ pos l.t *ℤ pos one in
    let a = add_parts E more in
    let b = sub_parts (pos g *ℤ κ) (pos l.t *ℤ pos one) in
    let c = mul_parts (pos g) κ in
    let low = mul-le-mul_left g s.low in
    let high = mul-le-mul_left g s.high in
    record {
      error = E +ℤ more;
      is = v;
      low = omega (arith, m.low, l.small);
      high = omega (arith, m.high);
    }

-- ---- no error is above 21.86 units
abbrev pub most : ℕ
most = 21_860_000_000_000_000_000

abbrev pub Hits : Places → Point → Type 0
Hits k p = Misses k p most most

within_most : {k : Places} {p : Point} {L H : ℕ} → L ≤ most → H ≤ most → Misses k p L H → Hits k p
within_most l h m = record { error = m.error; is = m.is; low = omega (arith, m.low); high = omega (arith, m.high) }

-- the ends of the range of x
pub ends : (p : Point) → Kept p → (dn p.x ≤ one) × (up p.x ≤ 3_400_000_000)
ends p K = (omega (ints, K.from_zero, one_part p.x), omega (ints, K.to_largest, add_parts p.x (pos one), one_part p.x))

far_parts : (p p' : Point) → p.x <ℤ p'.x → far p p' + up p.x + dn p'.x ≡ up p'.x + dn p.x
far_parts p p' h = omega (ints, is_far p p' h, sub_parts p'.x p.x)

module _ (k : Places) (p₁ : Point) (K₁ : Kept p₁) (a-is : k.a ≡ q p₁ -ℤ k.b · p₁.x -ℤ (k.c · p₁.x) · p₁.x) where
  pub hits₁ : Hits k p₁
  hits₁ = within_most (omega (arith, ends p₁ K₁)) (omega (arith, ends p₁ K₁)) (at_first k p₁ a-is)

  module _ (p₂ : Point) (K₂ : Kept p₂) (h₁ : p₁.x <ℤ p₂.x) (b-is : k.b ≡ r p₁ p₂ -ℤ k.c · (p₁.x +ℤ p₂.x)) where
    at_second : Misses k p₂ (dn p₁.x * one + far p₁ p₂ * 0 + far p₁ p₂ * one) (2 * one * one + up p₁.x * one + far p₁ p₂ * one)
    at_second = at_next k p₁ p₂ _ _ 0 h₁ (first_slope k p₁ p₂ b-is) (at_first k p₁ a-is)

    pub hits₂ : Hits k p₂
    hits₂ =
        let e₁ = ends p₁ K₁ in
        let e₂ = ends p₂ K₂ in
        let f₁ = far_parts p₁ p₂ h₁ in
        within_most (omega arith) (omega arith) at_second

    module _ (p₃ : Point) (K₃ : Kept p₃) (h₂ : p₂.x <ℤ p₃.x) (apart : (p₁.x +ℤ pos wide) ≤ℤ p₂.x) (c-is : k.c ≡ (r p₂ p₃ -ℤ r p₁ p₂) ÷ (p₃.x -ℤ p₁.x)) where
      pub hits₃ : Hits k p₃
      hits₃ =
          let h₃ : p₁.x <ℤ p₃.x = omega ints in
          let e₁ = ends p₁ K₁ in
          let e₃ = ends p₃ K₃ in
          let f₁ = far_parts p₁ p₂ h₁ in
          let f₂ = far_parts p₂ p₃ h₂ in
          let f₃ = far_parts p₁ p₃ h₃ in
          let m : far p₂ p₃ * far p₁ p₃ ≤ far p₂ p₃ * 4_400_000_000 = mul-le-mul_left (far p₂ p₃) (omega arith) in
          let w = add_parts p₁.x (pos wide) in
          within_most (omega ints) (omega arith) (at_next k p₂ p₃ _ _ (far p₁ p₃) h₂ (next_slope k p₁ p₂ p₃ h₃ c-is (first_slope k p₁ p₂ b-is)) at_second)
