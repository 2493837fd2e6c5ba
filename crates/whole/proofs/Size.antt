-- The size `nat_abs z` of an integer.
use mathlib.Core.Path.{◌≡◌, refl}
use Prim.Native.Nat.{ℕ, suc, ◌+◌, ◌*◌, ◌<◌, ◌≤◌, ◌^◌}
use native.Mathlib.Nat.{mul-le-mul}
use native.Mathlib.Omega.{arith}
use lib.IntN.{ℤ, pos, negsuc, neg_ℤ, nat_abs, ◌+ℤ◌, ◌-ℤ◌, ◌*ℤ◌}
use mir.Syntax.{w64}
use mir.Val.{SFits}
use Rattle.whole.proofs.Parts.{up, dn, ints, one_part, abs_parts, neg_parts, add_parts, sub_parts}

pub abs_neg : (a : ℤ) → nat_abs (neg_ℤ a) ≡ nat_abs a
abs_neg a = omega (arith, abs_parts a, abs_parts (neg_ℤ a), neg_parts a)

pub abs_mul : (a b : ℤ) → nat_abs (a *ℤ b) ≡ nat_abs a * nat_abs b
abs_mul (pos a) (pos b) = refl
abs_mul (pos a) (negsuc b) = abs_neg (pos (a * suc b))
abs_mul (negsuc a) (pos b) = abs_neg (pos (suc a * b))
abs_mul (negsuc a) (negsuc b) = refl

pub abs_add : (a b : ℤ) → nat_abs (a +ℤ b) ≤ nat_abs a + nat_abs b
abs_add a b = omega (arith, abs_parts a, abs_parts b, abs_parts (a +ℤ b), add_parts a b, one_part (a +ℤ b))

pub abs_sub : (a b : ℤ) → nat_abs (a -ℤ b) ≤ nat_abs a + nat_abs b
abs_sub a b = omega (arith, abs_parts a, abs_parts b, abs_parts (a -ℤ b), sub_parts a b, one_part (a -ℤ b))

-- a product from the bounds of its factors
pub abs_product : (a b : ℤ) (A B : ℕ) → nat_abs a ≤ A → nat_abs b ≤ B → nat_abs (a *ℤ b) ≤ A * B
abs_product a b A B p q = rw abs_mul (mul-le-mul p q)

-- a size from its two sides
pub abs_of : (z : ℤ) (B : ℕ) → up z ≤ dn z + B → dn z ≤ up z + B → nat_abs z ≤ B
abs_of z B p q = omega (arith, abs_parts z, one_part z)

pub abs→fits : (z : ℤ) → nat_abs z < 2 ^ 63 → SFits w64 z
abs→fits z h = omega (ints, abs_parts z)

pub sum_fits : (a b : ℤ) → nat_abs a + nat_abs b < 2 ^ 63 → SFits w64 (a +ℤ b)
sum_fits a b h = abs→fits (a +ℤ b) (omega (arith, abs_add a b))

pub difference-fits : (a b : ℤ) → nat_abs a + nat_abs b < 2 ^ 63 → SFits w64 (a -ℤ b)
difference-fits a b h = abs→fits (a -ℤ b) (omega (arith, abs_sub a b))
