-- Resistances, ratios and temperatures: their units, their limits and how one is made from another.
use Rattle.std.specs.Prelude.{Bool, ◌&&◌, ℕ, ◌+◌, ◌*◌, ◌/◌, ◌^◌, leb, ℤ, pos, ◌+ℤ◌}

-- The one passage from a Celsius count to a kelvin count: 0 °C is 273.15 K.
abbrev pub kelvin_of : ℤ → ℤ
kelvin_of celsius = celsius +ℤ pos 2_731_500

-- The limits of a resistance, in nΩ.
abbrev pub largest_resistance : ℕ
largest_resistance = 10 ^ 13

abbrev pub least_divisor : ℕ
least_divisor = 10 ^ 8

-- Up to a largest resistance. It is a parameter of each rule that asks for it, so that what moved when request 9 raised the limit can be stated.
abbrev pub is_reading_up_to : ℕ → ℕ → Bool
is_reading_up_to largest r = leb 1 r && leb r largest

abbrev pub is_divisor_up_to : ℕ → ℕ → Bool
is_divisor_up_to largest r0 = leb least_divisor r0 && leb r0 largest

-- A reading R is 1 to 10^13 nΩ.
abbrev pub is_reading : ℕ → Bool
is_reading = is_reading_up_to largest_resistance

-- A divisor R0 is 10^8 to 10^13 nΩ.
abbrev pub is_divisor : ℕ → Bool
is_divisor = is_divisor_up_to largest_resistance

-- 1 as a ratio: ratios count in units of 10^-9.
abbrev pub one : ℕ
one = 10 ^ 9

-- W = R/R0, rounded to the nearest unit, an exact half upward: half a unit is added, and what is past a whole unit is dropped.
abbrev pub ratio_of : ℕ → ℕ → ℕ
ratio_of r r0 = (2 * (r * one) + r0) / (2 * r0)

-- A ratio is at most 4.4.
abbrev pub largest_ratio : ℕ
largest_ratio = 4_400_000_000
