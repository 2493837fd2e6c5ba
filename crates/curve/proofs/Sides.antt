-- The exact ratio on the two sides of 0 °C, as natural numbers.
use mathlib.Core.Path.{◌≡◌, refl, ◌∙◌, ap}
use Prim.Native.Nat.{ℕ, zero, suc, ◌+◌, ◌*◌, ◌-◌, ◌≤◌, ◌^◌, zero-le}
use native.Mathlib.Nat.{mul-le-mul_right}
use native.Mathlib.Omega.{arith}
use borrow.Author.Tests.{le-ltb}
use lib.IntN.{pos, negsuc, neg_ℤ, ◌+ℤ◌, ◌*ℤ◌}
use Rattle.whole.proofs.Parts.{ints, add_parts, neg_parts}
use Rattle.whole.proofs.Ring.{*ℤ-negˡ, *ℤ-negʳ}
use Rattle.curve.specs.Curve.{quadratic, quartic, exact}

neg_times : (x p : ℕ) → neg_ℤ (pos x) *ℤ pos p ≡ neg_ℤ (pos (x * p))
neg_times x p = *ℤ-negˡ (pos x) (pos p)

-- ---- from 0 °C up, in units of 10^-18
abbrev pub risen : ℕ → ℕ
risen n = 10 ^ 18 + 390_830_000_000 * n - 5_775 * (n * n)

-- the square takes less than the first term gives
pub square_small : (n : ℕ) → n ≤ 8_500_001 → 5_775 * (n * n) ≤ 390_830_000_000 * n
square_small n h = omega (arith, mul-le-mul_right n h)

less : (x y : ℕ) → y ≤ x → pos x +ℤ neg_ℤ (pos y) ≡ pos (x - y)
less x y h = omega (ints, add_parts (pos x) (neg_ℤ (pos y)), neg_parts (pos y))

pub exact_up : (n : ℕ) → n ≤ 8_500_001 → exact (pos n) ≡ pos (risen n * 10 ^ 13)
unfolding exact quadratic
exact_up n h =
    let s = square_small n h in
    rw (le-ltb n 0 zero-le, neg_times (5_775 * (n * n)) (10 ^ 13))
    (less (10 ^ 31 + 39_083 * n * 10 ^ 20) (5_775 * (n * n) * 10 ^ 13) (omega arith) ∙ ap pos (omega arith))

-- ---- below 0 °C, how far under 1, in units of 10^-31
abbrev pub fallen : ℕ → ℕ
fallen m = (390_830_000_000 * m + 5_775 * (m * m)) * 10 ^ 13 + 4_183 * ((m + 1_000_000) * (m * m * m))

three : (a b c : ℕ) → pos (10 ^ 31) +ℤ neg_ℤ (pos a) +ℤ neg_ℤ (pos b) +ℤ neg_ℤ (pos c) +ℤ pos (a + b + c) ≡ pos (10 ^ 31)
three a b c =
    let p = pos (10 ^ 31) +ℤ neg_ℤ (pos a) in
    let q = p +ℤ neg_ℤ (pos b) in
    let r = q +ℤ neg_ℤ (pos c) in
    omega (
      ints,
      neg_parts (pos a),
      neg_parts (pos b),
      neg_parts (pos c),
      add_parts (pos (10 ^ 31)) (neg_ℤ (pos a)),
      add_parts p (neg_ℤ (pos b)),
      add_parts q (neg_ℤ (pos c)),
      add_parts r (pos (a + b + c)),
    )

fourth : (j : ℕ) → quartic (negsuc j) ≡ neg_ℤ (pos (4_183 * (suc j + 1_000_000) * (suc j * suc j * suc j)))
unfolding quartic
fourth j =
    *ℤ-negʳ (pos (4_183 * suc (suc (j + 999_999)))) (pos (suc j * suc j * suc j))
    ∙ ap (λ (n : ℕ). neg_ℤ (pos (4_183 * n * (suc j * suc j * suc j)))) (omega arith)

lower_terms : (j : ℕ) → quadratic (negsuc j) ≡ pos (10 ^ 31) +ℤ neg_ℤ (pos (39_083 * suc j * 10 ^ 20)) +ℤ neg_ℤ (pos (5_775 * (suc j * suc j) * 10 ^ 13))
unfolding quadratic
lower_terms j = rw (neg_times (39_083 * suc j) (10 ^ 20), neg_times (5_775 * (suc j * suc j)) (10 ^ 13))

pub exact_down : (m : ℕ) → exact (neg_ℤ (pos m)) +ℤ pos (fallen m) ≡ pos (10 ^ 31)
unfolding exact quadratic
exact_down zero = refl
exact_down (suc j) =
    let a = 39_083 * suc j * 10 ^ 20 in
    let b = 5_775 * (suc j * suc j) * 10 ^ 13 in
    let c = 4_183 * (suc j + 1_000_000) * (suc j * suc j * suc j) in
    let e : fallen (suc j) ≡ a + b + c = omega arith in
    rw (lower_terms j, fourth j, e) (three a b c)
