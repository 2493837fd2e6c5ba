-- The d term comes back to silver: d is (e/z)/z, and d·z·z is e but for two quotients and two products, each rounded once.
use mathlib.Core.Path.{◌≡◌, ap}
use mathlib.Core.List.{[], ◌∷◌}
use Prim.Native.Nat.{ℕ, ◌+◌, ◌*◌, ◌<◌, ◌≤◌}
use native.Mathlib.Nat.{mul-le-mul, mul-le-mul_left}
use native.Mathlib.Omega.{arith}
use lib.IntN.{ℤ, pos, nat_abs, ◌+ℤ◌, ◌-ℤ◌, ◌*ℤ◌}
use Rattle.whole.proofs.Parts.{ints, up, dn, one_part, abs_parts, add_parts, sub_parts, mul_parts}
use Rattle.whole.proofs.Size.{abs_of}
use Rattle.exact.specs.Polynomial.{rounded}
use Rattle.exact.proofs.Fractions.{scaled}
use Rattle.exact.proofs.Loss.{loss, lost}
use Rattle.quantity.specs.Quantities.{one}
use Rattle.deviation.specs.Working.{plain_deviation}
use Rattle.fit.specs.Fit.{◌÷◌}
use Rattle.fit.specs.Room.{wide}
use Rattle.fit.specs.Promised.{SilverComesBack}
use Rattle.fit.proofs.Missed.{over, ends}

abbrev squared : ℕ
squared = 1_000_000_000_000_000_000

module _ (e : ℤ) (z : ℕ) (some : 0 < z) (far : z ≤ 4_400_000_000) where
  g : ℤ
  g = e ÷ pos z

  d : ℤ
  d = g ÷ pos z

  y : ℤ
  y = scaled one (pos z) (pos 0) (pos 0 ∷ d ∷ [])

  -- a quotient, of the parts
  parts : (n : ℤ) → (dn n * one + z * up (n ÷ pos z) ≤ up n * one + z * dn (n ÷ pos z)) × (up n * one + z * dn (n ÷ pos z) ≤ dn n * one + z * up (n ÷ pos z) + z)
  parts n =
      let l = over n z some in
      let v = n ÷ pos z in
      omega (ints, l.is, l.small, mul_parts n (pos one), mul_parts v (pos z), add_parts (v *ℤ pos z) (pos l.t))

  -- d z z, of the parts
  y-is : up y + dn d * z * z ≡ dn y + up d * z * z
  unfolding y scaled
  y-is =
      let i = pos 0 +ℤ pos z *ℤ d in
      let j : up i + z * dn d ≡ dn i + z * up d = omega (arith, add_parts (pos 0) (pos z *ℤ d), mul_parts (pos z) d) in
      omega (arith, ap (λ (n : ℕ). z * n) j, mul_parts (pos z) i, add_parts (pos 0) (pos z *ℤ i))

  near : nat_abs (rounded one (pos z) (pos 0) (pos 0 ∷ d ∷ []) -ℤ e) ≤ 29
  unfolding g d y loss
  near =
      let w = rounded one (pos z) (pos 0) (pos 0 ∷ d ∷ []) in
      let p = parts e in
      let r = parts g in
      let r₀ = mul-le-mul_left z r.0 in
      let r₁ = mul-le-mul_left z r.1 in
      let m : z * z ≤ 4_400_000_000 * 4_400_000_000 = mul-le-mul far far in
      let s = sub_parts w e in
      let t = y-is in
      let u = abs_parts (w *ℤ pos squared -ℤ y) in
      let v = sub_parts (w *ℤ pos squared) y in
      let x = mul_parts w (pos squared) in
      let l = lost one 4_400_000_000 (omega arith) (pos z) far (pos 0) (pos 0 ∷ d ∷ []) in
      abs_of (w -ℤ e) 29 (omega arith) (omega arith)

pub silver_comes_back : SilverComesBack
unfolding d g
silver_comes_back k al ag s =
    let x = ag.x -ℤ al.x in
    let z = up x in
    let a = add_parts al.x (pos wide) in
    let b = sub_parts ag.x al.x in
    let o = one_part x in
    let is : x ≡ pos z = omega (ints, s.1) in
    let v = plain_deviation k ag.x in
    let e = ag.delta -ℤ v in
    let w = rounded one (pos z) (pos 0) (pos 0 ∷ (e ÷ pos z ÷ pos z) ∷ []) in
    let n = near e z (omega (ints, s.1)) (omega (arith, ends al s.0, ends ag s.2)) in
    rw is
    (omega (arith, n, abs_parts (w -ℤ e), sub_parts w e, sub_parts ag.delta v, add_parts v w, sub_parts (v +ℤ w) ag.delta, abs_parts (v +ℤ w -ℤ ag.delta), one_part (v +ℤ w -ℤ ag.delta)))
