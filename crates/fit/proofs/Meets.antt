-- The fit comes back to each cell that it is made from, once over the list of cells: the exact polynomial to q, the working deviation to δ.
use mathlib.Core.Path.{◌≡◌, refl}
use mathlib.Core.List.{List, [], ◌∷◌}
use Prim.Native.Nat.{ℕ, zero, suc, ◌*◌, ◌<◌, ◌≤◌}
use native.Mathlib.Omega.{arith}
use lib.ListN.{take}
use lib.IntN.{ℤ, pos, negsuc, neg_ℤ, nat_abs, ◌+ℤ◌, ◌-ℤ◌, ◌*ℤ◌}
use lib.Signed.{◌≤ℤ◌, ◌<ℤ◌}
use Rattle.whole.specs.Floor.{floor, quotient}
use Rattle.whole.proofs.Parts.{ints, one_part, abs_parts, neg_parts, add_parts, sub_parts, mul_parts}
use Rattle.whole.proofs.Size.{abs_product, abs_of}
use Rattle.whole.proofs.Ring.{*ℤ-assoc, *ℤ-distribˡ}
use Rattle.whole.proofs.Rounding.{floor_parts}
use Rattle.exact.specs.Fraction.{Within}
use Rattle.exact.specs.Polynomial.{exactly}
use Rattle.exact.proofs.Fractions.{scaled, is_itself, is_integer, is_add, is-<, is_exactly}
use Rattle.exact.proofs.Loss.{loss, lost}
use Rattle.quantity.specs.Quantities.{one}
use Rattle.deviation.specs.declared.places.Places.{Places}
use Rattle.deviation.specs.Exact.{exact_ratio}
use Rattle.deviation.specs.Working.{plain_deviation}
use Rattle.fit.specs.declared.Point.{Point}
use Rattle.fit.specs.Fit.{◌÷◌, q, fit}
use Rattle.fit.specs.Room.{Kept, wide, narrow}
use Rattle.fit.specs.Promised.{Made, Each, EachFitted, missed, astray, Meets, ComesBack}
use Rattle.fit.proofs.Sizes.{x_size}
use Rattle.fit.proofs.Differences.{made_of_differences}
use Rattle.fit.proofs.Newton.{value}
use Rattle.fit.proofs.Missed.{Hits, most, hits₁, hits₂, hits₃}

-- ---- every cell
rising : (x x' : ℤ) (gap : ℕ) → 0 < gap → (x +ℤ pos gap) ≤ℤ x' → x <ℤ x'
rising x x' gap g h = omega (ints, add_parts x (pos gap))

Fitted : Places → Point → Type 0
Fitted k p = Kept p × Hits k p

two : (k : Places) (p₁ p₂ : Point) (ps : List Point) (gap : ℕ) → 0 < gap → Made (p₁ ∷ p₂ ∷ ps) k → Kept p₁ → (p₁.x +ℤ pos gap) ≤ℤ p₂.x → Kept p₂ → Fitted k p₁ × Fitted k p₂
unfolding Fitted
two k p₁ p₂ ps gap g m K₁ h K₂ = ((K₁, hits₁ k p₁ K₁ m.a), (K₂, hits₂ k p₁ K₁ m.a p₂ K₂ (rising p₁.x p₂.x gap g h) m.b))

three : (k : Places) (p₁ p₂ p₃ : Point) (ps : List Point) → Made (p₁ ∷ p₂ ∷ p₃ ∷ ps) k → Kept p₁ → (p₁.x +ℤ pos wide) ≤ℤ p₂.x → Kept p₂ → (p₂.x +ℤ pos wide) ≤ℤ p₃.x → Kept p₃ → Each (Fitted k) (p₁ ∷ p₂ ∷ p₃ ∷ [])
unfolding Fitted
three k p₁ p₂ p₃ ps m K₁ h₁ K₂ h₂ K₃ =
    let t = two k p₁ p₂ (p₃ ∷ ps) wide (omega arith) m K₁ h₁ K₂ in
    (t.0, (t.1, ((K₃, hits₃ k p₁ K₁ m.a p₂ K₂ (rising p₁.x p₂.x wide (omega arith) h₁) m.b p₃ K₃ (rising p₂.x p₃.x wide (omega arith) h₂) h₁ m.c), tt)))

each_fitted : EachFitted Fitted
unfolding Fitted
each_fitted [] n s = tt
each_fitted (p₁ ∷ []) n s = ((s, hits₁ (fit (p₁ ∷ [])) p₁ s (made_of_differences (p₁ ∷ []) n).a), tt)
each_fitted (p₁ ∷ p₂ ∷ []) n s =
    let t = two (fit (p₁ ∷ p₂ ∷ [])) p₁ p₂ [] narrow (omega arith) (made_of_differences (p₁ ∷ p₂ ∷ []) n) s.0 s.1 s.2 in
    (t.0, (t.1, tt))
each_fitted (p₁ ∷ p₂ ∷ p₃ ∷ []) n s =
    three (fit (p₁ ∷ p₂ ∷ p₃ ∷ [])) p₁ p₂ p₃ [] (made_of_differences (p₁ ∷ p₂ ∷ p₃ ∷ []) n) s.0 s.1 s.2.0 s.2.1 s.2.2
each_fitted (p₁ ∷ p₂ ∷ p₃ ∷ p₄ ∷ []) n s =
    three (fit (p₁ ∷ p₂ ∷ p₃ ∷ p₄ ∷ [])) p₁ p₂ p₃ (p₄ ∷ []) (made_of_differences (p₁ ∷ p₂ ∷ p₃ ∷ p₄ ∷ []) n) s.0 s.1 s.2.0 s.2.1 s.2.2.0
each_fitted (p₁ ∷ p₂ ∷ p₃ ∷ p₄ ∷ p₅ ∷ ps) n s = absurd (omega arith)

map : {P Q : Point → Type 0} → ((p : Point) → P p → Q p) → (ps : List Point) → Each P ps → Each Q ps
map f [] h = tt
map f (p ∷ ps) h = (f p h.0, map f ps h.1)

-- ---- one cell
-- a quotient times its divisor, of either sign, is less than a divisor from what was divided
quotient_back : (z d : ℤ) → (d ≡ pos 0 → ⊥) → nat_abs (d *ℤ quotient z d -ℤ z) ≤ nat_abs d
quotient_back z (pos zero) f = absurd (f refl)
quotient_back z (pos (suc d)) f =
    let v = floor z (suc d) in
    let w = pos (suc d) *ℤ v in
    let s = sub_parts w z in
    let m = mul_parts (pos (suc d)) v in
    let g = floor_parts z (suc d) (omega arith) in
    abs_of (w -ℤ z) (suc d) (omega arith) (omega arith)
quotient_back z (negsuc d) f =
    let v = floor (neg_ℤ z) (suc d) in
    let w = negsuc d *ℤ v in
    let s = sub_parts w z in
    let m = mul_parts (negsuc d) v in
    let n = neg_parts z in
    let g = floor_parts (neg_ℤ z) (suc d) (omega arith) in
    abs_of (w -ℤ z) (suc d) (omega arith) (omega arith)

q_back : (p : Point) → Kept p → nat_abs (p.x *ℤ q p -ℤ p.delta *ℤ pos one) ≤ nat_abs p.x
unfolding ◌÷◌
q_back p K = quotient_back (p.delta *ℤ pos one) p.x K.apart

abbrev squared : ℕ
squared = 1_000_000_000_000_000_000

abbrev cubed : ℕ
cubed = 1_000_000_000_000_000_000_000_000_000

module _ (k : Places) (p : Point) (K : Kept p) (h : Hits k p) where
  -- the exact polynomial, of a + b·x + c·x²
  close : Within missed (q p) (exactly (exact_ratio p.x) k.a (k.b ∷ k.c ∷ []))
  unfolding value scaled
  close =
      let P = one * one in
      let e = is_exactly (is_itself (exact_ratio p.x)) k.a (k.b ∷ k.c ∷ []) in
      let w = is_integer (q p) P in
      let d = is_integer (pos missed) P in
      let v = value (pos one) k.a k.b k.c p.x in
      let s = add_parts (q p *ℤ pos P) h.error in
      record {
        over_by_less = is-< w (is_add e d) (omega arith) (omega (ints, h.is, h.low, add_parts v (pos (missed * P))));
        under_by_less = is-< e (is_add w d) (omega arith) (omega (ints, h.is, h.high, add_parts (q p *ℤ pos P) (pos (missed * P))));
      }

  -- x times it, which is 0 + a·x + b·x² + c·x³, and δ
  near-δ : nat_abs (scaled one p.x (pos 0) (k.a ∷ k.b ∷ k.c ∷ []) -ℤ p.delta *ℤ pos cubed) ≤ 77_724_000_000_000_000_000_000_000_000
  unfolding value scaled
  near-δ =
      let x = p.x in
      let v = value (pos one) k.a k.b k.c x in
      let E = h.error in
      let y = scaled one x (pos 0) (k.a ∷ k.b ∷ k.c ∷ []) in
      let w = p.delta *ℤ pos cubed in
      let size : nat_abs E ≤ most = abs_of E most h.high h.low in
      let a = abs_product x E 3_400_000_000 most (x_size p K) size in
      let b = abs_parts (x *ℤ E) in
      let c = q_back p K in
      let d = abs_parts (x *ℤ q p -ℤ p.delta *ℤ pos one) in
      let e = x_size p K in
      let f = sub_parts (x *ℤ q p) (p.delta *ℤ pos one) in
      let g = mul_parts p.delta (pos one) in
      let i = mul_parts p.delta (pos cubed) in
      let j = mul_parts (x *ℤ q p) (pos squared) in
      let l = add_parts (x *ℤ q p *ℤ pos squared) (x *ℤ E) in
      let m = add_parts (pos 0) (x *ℤ v) in
      let n = sub_parts y w in
      let spread-out : x *ℤ v ≡ x *ℤ q p *ℤ pos squared +ℤ x *ℤ E = cc (h.is, *ℤ-distribˡ x (q p *ℤ pos squared) E, *ℤ-assoc x (q p) (pos squared)) in
      abs_of (y -ℤ w) 77_724_000_000_000_000_000_000_000_000 (omega ints) (omega ints)

  back : nat_abs (plain_deviation k p.x -ℤ p.delta) ≤ astray
  unfolding plain_deviation loss
  back =
      let v = plain_deviation k p.x in
      let y = scaled one p.x (pos 0) (k.a ∷ k.b ∷ k.c ∷ []) in
      let w = p.delta *ℤ pos cubed in
      omega (
        arith,
        near-δ,
        lost one 3_400_000_000 (omega arith) p.x (x_size p K) (pos 0) (k.a ∷ k.b ∷ k.c ∷ []),
        abs_parts (v *ℤ pos cubed -ℤ y),
        sub_parts (v *ℤ pos cubed) y,
        mul_parts v (pos cubed),
        abs_parts (y -ℤ w),
        sub_parts y w,
        mul_parts p.delta (pos cubed),
        sub_parts v p.delta,
        abs_parts (v -ℤ p.delta),
        one_part (v -ℤ p.delta),
      )

pub meets : Meets
unfolding Fitted
meets ps n s = map {P = Fitted (fit ps)} (λ p f. close (fit ps) p f.0 f.1) (take 3 ps) (each_fitted ps n s)

pub comes_back : ComesBack
unfolding Fitted
comes_back ps n s = map {P = Fitted (fit ps)} (λ p f. back (fit ps) p f.0 f.1) (take 3 ps) (each_fitted ps n s)
