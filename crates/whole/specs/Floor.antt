-- Division rounded downward, whatever the sign.
use Rattle.std.specs.Prelude.{ℕ, suc, ◌/◌, ℤ, pos, negsuc, neg_ℤ}

-- z / d for a natural number d above 0, rounded down. `negsuc a` is -(a + 1), whose quotient is -(a / d + 1): -1 / 3 is -1.
abbrev pub floor : ℤ → ℕ → ℤ
floor (pos a) d = pos (a / d)
floor (negsuc a) d = negsuc (a / d)

-- z / d for a divisor of either sign, rounded down: over -(d + 1) it is -z over d + 1.
abbrev pub quotient : ℤ → ℤ → ℤ
quotient z (pos d) = floor z d
quotient z (negsuc d) = floor (neg_ℤ z) (suc d)
