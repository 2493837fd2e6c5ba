-- How far apart the working values at n and at n + 1 are, and when the second is the larger.
use mathlib.Core.Path.{◌≡◌}
use mathlib.Core.List.{List, [], ◌∷◌}
use Prim.Native.Nat.{ℕ, ◌+◌, ◌*◌, ◌/◌, ◌<◌, ◌≤◌}
use native.Mathlib.Nat.{lt_of_mul-lt-mul_left}
use native.Mathlib.Omega.{arith}
use lib.IntN.{ℤ, pos, nat_abs, ◌+ℤ◌, ◌-ℤ◌, ◌*ℤ◌}
use lib.Signed.{◌<ℤ◌}
use Rattle.whole.specs.Floor.{floor}
use Rattle.whole.proofs.Parts.{up, dn, ints, one_part, abs_parts, add_parts, sub_parts, mul_parts}
use Rattle.whole.proofs.Ring.{*ℤ-distribˡ, *ℤ-subʳ}
use Rattle.whole.proofs.Size.{abs_of, abs_product}
use Rattle.whole.proofs.Rounding.{floor_parts, quotient_bound, abs-floor}
use Rattle.exact.specs.Polynomial.{rounded}
use Rattle.exact.proofs.Sizes.{size, Bounded, none, and, abs-rounded}

-- w' (n + 1) = w n + (w' - w) n + w', of the parts
product : (w w' n : ℤ) → up (w' *ℤ (n +ℤ pos 1)) + dn (w *ℤ n) + dn ((w' -ℤ w) *ℤ n) + dn w' ≡ dn (w' *ℤ (n +ℤ pos 1)) + up (w *ℤ n) + up ((w' -ℤ w) *ℤ n) + up w'
product w w' n =
    omega (
      ints,
      *ℤ-distribˡ w' n (pos 1),
      *ℤ-subʳ w' w n,
      mul_parts w' (pos 1),
      add_parts (w' *ℤ n) (w' *ℤ pos 1),
      sub_parts (w' *ℤ n) (w *ℤ n),
    )

-- two quotients of numbers no further apart than S
quotients : (y z : ℤ) (d S : ℕ) → 0 < d → up z + dn y ≤ dn z + up y + S → dn z + up y ≤ up z + dn y + S → nat_abs (floor z d -ℤ floor y d) ≤ S / d + 1
quotients y z d S h p q =
    let f = floor_parts y d h in
    let g = floor_parts z d h in
    let s = sub_parts (floor z d) (floor y d) in
    let a = quotient_bound d (up (floor z d) + dn (floor y d)) (dn (floor z d) + up (floor y d)) S h (omega arith) in
    let b = quotient_bound d (dn (floor z d) + up (floor y d)) (up (floor z d) + dn (floor y d)) S h (omega arith) in
    abs_of (floor z d -ℤ floor y d) (S / d + 1) (omega (arith, s, a)) (omega (arith, s, b))

-- what is added to both goes
same_added : (q q' c : ℤ) (B : ℕ) → nat_abs (q' -ℤ q) ≤ B → nat_abs (q' +ℤ c -ℤ (q +ℤ c)) ≤ B
same_added q q' c B h =
    omega (
      arith,
      abs_parts (q' -ℤ q),
      abs_parts (q' +ℤ c -ℤ (q +ℤ c)),
      one_part (q' +ℤ c -ℤ (q +ℤ c)),
      sub_parts q' q,
      sub_parts (q' +ℤ c) (q +ℤ c),
      add_parts q c,
      add_parts q' c,
    )

-- how far apart neighbouring values are at most, from the bounds of the coefficients after the first
unfoldable pub spread : ℕ → ℕ → List ℕ → ℕ
spread unit R [] = 0
spread unit R (l ∷ ls) = (spread unit R ls * R + size unit R l ls) / unit + 1

module _ (unit R : ℕ) (u : 0 < unit) (n : ℤ) (b : nat_abs n ≤ R) (b' : nat_abs (n +ℤ pos 1) ≤ R) where
  pub apart : (c : ℤ) {cs : List ℤ} {ks : List ℕ} → Bounded cs ks → nat_abs (rounded unit (n +ℤ pos 1) c cs -ℤ rounded unit n c cs) ≤ spread unit R ks
  unfolding rounded spread
  apart c none = omega (arith, abs_parts (c -ℤ c), sub_parts c c, one_part (c -ℤ c))
  apart c (and {c = c'} {k = l} {cs = cs} {ks = ls} g w) =
      let v = rounded unit n c' cs in
      let v' = rounded unit (n +ℤ pos 1) c' cs in
      let s = abs-rounded unit R u (n +ℤ pos 1) b' c' l g w in
      let p = abs_product (v' -ℤ v) n (spread unit R ls) R (apart c' w) b in
      let e = product v v' n in
      let d = abs_parts ((v' -ℤ v) *ℤ n) in
      let m = abs_parts v' in
      same_added (floor (v *ℤ n) unit) (floor (v' *ℤ (n +ℤ pos 1)) unit) c _
      (quotients (v *ℤ n) (v' *ℤ (n +ℤ pos 1)) unit (spread unit R ls * R + size unit R l ls) u (omega (arith, s, p, e, d, m)) (omega (arith, s, p, e, d, m)))

-- the value is no further below its first coefficient than the others take it
lowest : (unit R : ℕ) → 0 < unit → (n : ℤ) → nat_abs n ≤ R → (c : ℤ) {cs : List ℤ} {ks : List ℕ} → Bounded cs ks → up c + dn (rounded unit n c cs) ≤ dn c + up (rounded unit n c cs) + size unit R 0 ks
unfolding rounded size
lowest unit R u n b c none = omega arith
lowest unit R u n b c (and {c = c'} {k = l} {cs = cs} {ks = ls} g w) =
    let v = rounded unit n c' cs in
    let p = abs_product v n (size unit R l ls) R (abs-rounded unit R u n b c' l g w) b in
    omega (arith, add_parts (floor (v *ℤ n) unit) c, abs_parts (floor (v *ℤ n) unit), abs-floor (v *ℤ n) unit (size unit R l ls * R) u p)

-- where the coefficient of x outweighs the higher ones, the value rises by more than g from n to n + 1
module _ (unit R : ℕ) (u : 0 < unit) (n : ℤ) (b : nat_abs n ≤ R) (b' : nat_abs (n +ℤ pos 1) ≤ R) where
  pub climbs : (c₀ c₁ : ℤ) {cs : List ℤ} {ks : List ℕ} → Bounded cs ks → (g : ℕ) → spread unit R ks * R + size unit R 0 ks + unit * (g + 1) + dn c₁ ≤ up c₁ → (rounded unit n c₀ (c₁ ∷ cs) +ℤ pos g) <ℤ rounded unit (n +ℤ pos 1) c₀ (c₁ ∷ cs)
  unfolding rounded
  climbs c₀ c₁ {cs} {ks} w g h =
      let v = rounded unit n c₁ cs in
      let v' = rounded unit (n +ℤ pos 1) c₁ cs in
      let q = floor (v *ℤ n) unit in
      let q' = floor (v' *ℤ (n +ℤ pos 1)) unit in
      let p = abs_product (v' -ℤ v) n (spread unit R ks) R (apart unit R u n b b' c₁ w) b in
      let r : up q + dn q' + g < up q' + dn q =
      lt_of_mul-lt-mul_left unit
      (omega (
        arith,
        p,
        product v v' n,
        abs_parts ((v' -ℤ v) *ℤ n),
        lowest unit R u (n +ℤ pos 1) b' c₁ w,
        floor_parts (v *ℤ n) unit u,
        floor_parts (v' *ℤ (n +ℤ pos 1)) unit u,
      )) in
      omega (ints, r, add_parts q c₀, add_parts q' c₀, add_parts (q +ℤ c₀) (pos g))
