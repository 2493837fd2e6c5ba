-- What `floor` and `quotient` are: the one whole number between a quotient and the quotient less one.
use mathlib.Core.Path.{◌≡◌, refl}
use Prim.Native.Nat.{ℕ, zero, suc, ◌+◌, ◌*◌, ◌/◌, ◌<◌, ◌≤◌, ◌^◌}
use native.Mathlib.Nat.{div-add-mod, mod-lt, lt_of_mul-lt-mul_left}
use native.Mathlib.Omega.{arith}
use lib.IntN.{ℤ, pos, negsuc, neg_ℤ, nat_abs, ◌+ℤ◌, ◌*ℤ◌}
use lib.Signed.{◌≤ℤ◌, ◌<ℤ◌}
use mir.Syntax.{w64}
use mir.Val.{SFits}
use Rattle.whole.specs.Floor.{floor, quotient}
use Rattle.whole.proofs.Parts.{up, dn, ints, add_parts, neg_parts, mul_parts, abs_parts}
use Rattle.whole.proofs.Size.{abs_of, abs_neg, abs→fits}

-- d q ≤ z < d q + d, of the parts
pub floor_parts : (z : ℤ) (d : ℕ) → 0 < d → (d * up (floor z d) + dn z ≤ up z + d * dn (floor z d)) × (up z + d * dn (floor z d) < d * up (floor z d) + dn z + d)
floor_parts (pos a) d h = omega (arith, div-add-mod a d, mod-lt a h)
floor_parts (negsuc a) d h = omega (arith, div-add-mod a d, mod-lt a h)

pub floor_not_above : (z : ℤ) (d : ℕ) → 0 < d → (pos d *ℤ floor z d) ≤ℤ z
floor_not_above z d h = omega (ints, floor_parts z d h, mul_parts (pos d) (floor z d))

pub floor_near : (z : ℤ) (d : ℕ) → 0 < d → z <ℤ (pos d *ℤ floor z d +ℤ pos d)
floor_near z d h = omega (ints, floor_parts z d h, mul_parts (pos d) (floor z d), add_parts (pos d *ℤ floor z d) (pos d))

-- the only number of which both hold
pub floor_unique : (z k : ℤ) (d : ℕ) → 0 < d → (pos d *ℤ k) ≤ℤ z → z <ℤ (pos d *ℤ k +ℤ pos d) → floor z d ≡ k
floor_unique z k d h p q =
    let f = floor_parts z d h in
    let m = mul_parts (pos d) k in
    let s = add_parts (pos d *ℤ k) (pos d) in
    let a : up (floor z d) + dn k < suc (up k + dn (floor z d)) = lt_of_mul-lt-mul_left d (omega ints) in
    let b : up k + dn (floor z d) < suc (up (floor z d) + dn k) = lt_of_mul-lt-mul_left d (omega ints) in
    omega ints

-- a larger number has no smaller quotient
pub floor_mono : (y z : ℤ) (d : ℕ) → 0 < d → y ≤ℤ z → floor y d ≤ℤ floor z d
floor_mono y z d h p =
    let f = floor_parts y d h in
    let g = floor_parts z d h in
    let a : up (floor y d) + dn (floor z d) < suc (up (floor z d) + dn (floor y d)) = lt_of_mul-lt-mul_left d (omega ints) in
    omega ints

-- the size of a quotient
pub quotient_bound : (d a b S : ℕ) → 0 < d → d * a < d * b + S + d → a ≤ b + (S / d + 1)
quotient_bound d a b S h p =
    let q : a < b + S / d + 2 = lt_of_mul-lt-mul_left d (omega (arith, div-add-mod S d, mod-lt S h)) in
    omega arith

pub abs-floor : (z : ℤ) (d S : ℕ) → 0 < d → nat_abs z ≤ S → nat_abs (floor z d) ≤ S / d + 1
abs-floor z d S h p =
    let f = floor_parts z d h in
    abs_of (floor z d) (S / d + 1)
    (quotient_bound d (up (floor z d)) (dn (floor z d)) S h (omega (arith, abs_parts z)))
    (quotient_bound d (dn (floor z d)) (up (floor z d)) S h (omega (arith, abs_parts z)))

-- no larger than k where z is no larger than k divisors
pub floor-within : (z : ℤ) (d k : ℕ) → 0 < d → nat_abs z ≤ d * k → nat_abs (floor z d) ≤ k
floor-within z d k h p =
    let f = floor_parts z d h in
    let a : up (floor z d) < suc (dn (floor z d) + k) = lt_of_mul-lt-mul_left d (omega (arith, abs_parts z)) in
    let b : dn (floor z d) < suc (up (floor z d) + k) = lt_of_mul-lt-mul_left d (omega (arith, abs_parts z)) in
    abs_of (floor z d) k (omega arith) (omega arith)

-- ---- a divisor of either sign; below zero d q is not under z, and less than the divisor's size above it
pub quotient_not_above : (z : ℤ) (d : ℕ) → z ≤ℤ (negsuc d *ℤ quotient z (negsuc d))
quotient_not_above z d =
    omega (ints, floor_parts (neg_ℤ z) (suc d) (omega arith), neg_parts z, mul_parts (negsuc d) (quotient z (negsuc d)))

pub quotient_near : (z : ℤ) (d : ℕ) → (negsuc d *ℤ quotient z (negsuc d) +ℤ negsuc d) <ℤ z
quotient_near z d =
    omega (
      ints,
      floor_parts (neg_ℤ z) (suc d) (omega arith),
      neg_parts z,
      mul_parts (negsuc d) (quotient z (negsuc d)),
      add_parts (negsuc d *ℤ quotient z (negsuc d)) (negsuc d),
    )

-- the only number of which both hold
pub quotient_unique : (z k : ℤ) (d : ℕ) → z ≤ℤ (negsuc d *ℤ k) → (negsuc d *ℤ k +ℤ negsuc d) <ℤ z → quotient z (negsuc d) ≡ k
quotient_unique z k d p q =
    let n = neg_parts z in
    let m = mul_parts (negsuc d) k in
    let m' = mul_parts (pos (suc d)) k in
    floor_unique (neg_ℤ z) k (suc d) (omega arith) (omega (ints, n, m, m'))
    (omega (ints, n, m, m', add_parts (negsuc d *ℤ k) (negsuc d), add_parts (pos (suc d) *ℤ k) (pos (suc d))))

pub quotient-within : (z d : ℤ) (k : ℕ) → (d ≡ pos 0 → ⊥) → nat_abs z ≤ nat_abs d * k → nat_abs (quotient z d) ≤ k
quotient-within z (pos zero) k h p = absurd (h refl)
quotient-within z (pos (suc d)) k h p = floor-within z (suc d) k (omega arith) p
quotient-within z (negsuc d) k h p = floor-within (neg_ℤ z) (suc d) k (omega arith) (rw abs_neg p)

one_or_more : (d : ℤ) (k : ℕ) → (d ≡ pos 0 → ⊥) → k ≤ nat_abs d * k
one_or_more (pos zero) k h = absurd (h refl)
one_or_more (pos (suc d)) k h = omega arith
one_or_more (negsuc d) k h = omega arith

pub quotient_fits : (z d : ℤ) → (d ≡ pos 0 → ⊥) → nat_abs z < 2 ^ 63 → SFits w64 (quotient z d)
quotient_fits z d h p = abs→fits _ (omega (arith, quotient-within z d (nat_abs z) h (one_or_more d (nat_abs z) h)))
