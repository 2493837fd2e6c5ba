-- An integer z is the difference `up z - dn z` of two natural numbers, one of which is 0. Each operation and order on ℤ is said of these two parts, in
-- a form that `omega` reads, and the ruleset `ints` has `omega` read and prove statements on ℤ: `omega (ints, add_parts a b)`.
use mathlib.Core.Path.{◌≡◌, refl, ap}
use mathlib.Core.Bool.{Bool, true, false, not, cond}
use Prim.Native.Nat.{ℕ, zero, suc, ◌+◌, ◌*◌, ◌-◌, ◌<◌, ◌≤◌, ◌^◌, min, pred}
use native.Mathlib.Omega.{arith}
use lib.Dec.{T, ltb, ltb→lt, nltb→le, leb→le, le→leb, lt→ltb}
use lib.IntN.{ℤ, pos, negsuc, neg_ℤ, sub_ℕ, nat_abs, ◌+ℤ◌, ◌*ℤ◌, ◌-ℤ◌}
use lib.Signed.{◌≤ℤ◌, ◌<ℤ◌, le_z, lt_z, mag}
use mir.Syntax.{w64}
use mir.Val.{SFits}

abbrev pub up : ℤ → ℕ
up (pos n) = n
up (negsuc n) = 0

abbrev pub dn : ℤ → ℕ
dn (pos n) = 0
dn (negsuc n) = suc n

pub one_part : (z : ℤ) → min (up z) (dn z) ≡ 0
one_part (pos n) = omega arith
one_part (negsuc n) = omega arith

-- ---- equations and orders, both ways
pub eq→parts : {a b : ℤ} → a ≡ b → up a + dn b ≡ up b + dn a
eq→parts e = rw e

pub parts→eq : (a b : ℤ) → up a + dn b ≡ up b + dn a → a ≡ b
parts→eq (pos a) (pos b) e = ap pos (omega arith)
parts→eq (pos a) (negsuc b) e = absurd (omega arith)
parts→eq (negsuc a) (pos b) e = absurd (omega arith)
parts→eq (negsuc a) (negsuc b) e = ap negsuc (omega arith)

le_z→parts : (a b : ℤ) → T (le_z a b) → up a + dn b ≤ up b + dn a
le_z→parts (pos a) (pos b) t = omega (arith, leb→le a b t)
le_z→parts (pos a) (negsuc b) t = absurd t
le_z→parts (negsuc a) (pos b) t = omega arith
le_z→parts (negsuc a) (negsuc b) t = omega (arith, leb→le b a t)

parts→le_z : (a b : ℤ) → up a + dn b ≤ up b + dn a → T (le_z a b)
parts→le_z (pos a) (pos b) h = le→leb a b (omega arith)
parts→le_z (pos a) (negsuc b) h = absurd (omega arith)
parts→le_z (negsuc a) (pos b) h = tt
parts→le_z (negsuc a) (negsuc b) h = le→leb b a (omega arith)

lt_z→parts : (a b : ℤ) → T (lt_z a b) → up a + dn b < up b + dn a
lt_z→parts (pos a) (pos b) t = omega (arith, ltb→lt a b t)
lt_z→parts (pos a) (negsuc b) t = absurd t
lt_z→parts (negsuc a) (pos b) t = omega arith
lt_z→parts (negsuc a) (negsuc b) t = omega (arith, ltb→lt b a t)

parts→lt_z : (a b : ℤ) → up a + dn b < up b + dn a → T (lt_z a b)
parts→lt_z (pos a) (pos b) h = lt→ltb a b (omega arith)
parts→lt_z (pos a) (negsuc b) h = absurd (omega arith)
parts→lt_z (negsuc a) (pos b) h = tt
parts→lt_z (negsuc a) (negsuc b) h = lt→ltb b a (omega arith)

pub le→parts : {a b : ℤ} → a ≤ℤ b → up a + dn b ≤ up b + dn a
le→parts {a} {b} h = le_z→parts a b h.le

pub parts→le : (a b : ℤ) → up a + dn b ≤ up b + dn a → a ≤ℤ b
parts→le a b h = record { le = parts→le_z a b h }

pub lt→parts : {a b : ℤ} → a <ℤ b → up a + dn b < up b + dn a
lt→parts {a} {b} h = lt_z→parts a b h.lt

pub parts→lt : (a b : ℤ) → up a + dn b < up b + dn a → a <ℤ b
parts→lt a b h = record { lt = parts→lt_z a b h }

-- ---- the operations
sub_by : (c : Bool) (a b : ℕ) → (T c → a < b) → (T (not c) → b ≤ a) → up (cond c (negsuc (b - suc a)) (pos (a - b))) + b ≡ dn (cond c (negsuc (b - suc a)) (pos (a - b))) + a
sub_by true a b f g = omega (arith, f tt)
sub_by false a b f g = omega (arith, g tt)

pub subℕ-parts : (a b : ℕ) → up (sub_ℕ a b) + b ≡ dn (sub_ℕ a b) + a
subℕ-parts a b = sub_by (ltb a b) a b (ltb→lt a b) (nltb→le a b)

pub add_parts : (a b : ℤ) → up (a +ℤ b) + dn a + dn b ≡ dn (a +ℤ b) + up a + up b
add_parts (pos a) (pos b) = omega arith
add_parts (pos a) (negsuc b) = omega (arith, subℕ-parts a (suc b))
add_parts (negsuc a) (pos b) = omega (arith, subℕ-parts b (suc a))
add_parts (negsuc a) (negsuc b) = omega arith

pub neg_parts : (a : ℤ) → (up (neg_ℤ a) ≡ dn a) × (dn (neg_ℤ a) ≡ up a)
neg_parts (pos zero) = (refl, refl)
neg_parts (pos (suc n)) = (refl, refl)
neg_parts (negsuc n) = (refl, refl)

pub sub_parts : (a b : ℤ) → up (a -ℤ b) + dn a + up b ≡ dn (a -ℤ b) + up a + dn b
sub_parts a b = omega (arith, add_parts a (neg_ℤ b), neg_parts b)

pub mul_parts : (a b : ℤ) → up (a *ℤ b) + (up a * dn b + dn a * up b) ≡ dn (a *ℤ b) + (up a * up b + dn a * dn b)
mul_parts (pos a) (pos b) = omega arith
mul_parts (pos a) (negsuc b) = omega (arith, neg_parts (pos (a * suc b)))
mul_parts (negsuc a) (pos b) = omega (arith, neg_parts (pos (suc a * b)))
mul_parts (negsuc a) (negsuc b) = omega arith

pub abs_parts : (a : ℤ) → nat_abs a ≡ up a + dn a
abs_parts (pos a) = omega arith
abs_parts (negsuc a) = omega arith

-- ---- the range of an i64
mag_parts : (a : ℤ) → mag a ≡ up a + pred (dn a)
mag_parts (pos a) = omega arith
mag_parts (negsuc a) = omega arith

pub fits→parts : {a : ℤ} → SFits w64 a → (up a < 2 ^ 63) × (dn a ≤ 2 ^ 63)
fits→parts {a} h = omega (arith, mag_parts a, h.sfits)

pub parts→fits : (a : ℤ) → up a < 2 ^ 63 → dn a ≤ 2 ^ 63 → SFits w64 a
parts→fits a p q = record { sfits = omega (arith, mag_parts a, one_part a) }

-- the two premises that `omega` can look for by themselves
pub fits→up : {a : ℤ} → SFits w64 a → up a < 2 ^ 63
fits→up h = (fits→parts h).0

pub small→fits : (a : ℤ) → up a + dn a < 2 ^ 63 → SFits w64 a
small→fits a h = parts→fits a (omega arith) (omega arith)

pub ruleset ints = (arith, lt→parts, le→parts, eq→parts, parts→lt, parts→le, parts→eq, fits→up, small→fits)
