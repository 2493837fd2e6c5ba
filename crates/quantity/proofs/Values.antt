-- Ratios that the checker computes: bench card 9, exact halves, and both sides of each limit.
use mathlib.Core.Path.{refl}
use Prim.Native.Nat.{◌^◌}
use Rattle.quantity.specs.Outcomes.{answered, refused, Follows}
use Rattle.quantity.specs.Ratios.{ratio_rule_up_to, ratio_rule}

seven_units : Follows (ratio_rule 2 300_000_000) (answered 7)
seven_units = (refl, refl)

limit-passes : Follows (ratio_rule 440_000_000_000 100_000_000_000) (answered 4_400_000_000)
limit-passes = (refl, refl)

-- less than half a unit above 4.4 is 4.4, and from half a unit on it is above
rounded_to_limit : Follows (ratio_rule 440_000_000_049 100_000_000_000) (answered 4_400_000_000)
rounded_to_limit = (refl, refl)

rounded_past_limit : Follows (ratio_rule 440_000_000_050 100_000_000_000) (refused 0 2)
rounded_past_limit = refl

-- an exact half goes up, and 1 nΩ less goes down
half_unit : Follows (ratio_rule 50 100_000_000_000) (answered 1)
half_unit = (refl, refl)

under_half : Follows (ratio_rule 49 100_000_000_000) (answered 0)
under_half = (refl, refl)

-- so it does with the largest divisor
largest_half : Follows (ratio_rule 9_999_999_995_000 10_000_000_000_000) (answered 1_000_000_000)
largest_half = (refl, refl)

under_largest_half : Follows (ratio_rule 9_999_999_994_999 10_000_000_000_000) (answered 999_999_999)
under_largest_half = (refl, refl)

-- and with the smallest that has halves, a multiple of 1024
smallest_half : Follows (ratio_rule 97_657 100_000_768) (answered 976_563)
smallest_half = (refl, refl)

no_resistance : Follows (ratio_rule 0 100_000_000) (refused 0 1)
no_resistance = refl

-- 1 is tested before 2
small_divisor : Follows (ratio_rule 10_000_000_000_000 99_999_999) (refused 0 1)
small_divisor = refl

-- the largest of both
largest : Follows (ratio_rule 10_000_000_000_000 10_000_000_000_000) (answered 1_000_000_000)
largest = (refl, refl)

-- the largest ratio that is formed
largest-ratio : Follows (ratio_rule 10_000_000_000_000 100_000_000) (refused 0 2)
largest-ratio = refl

large_reading : Follows (ratio_rule 10_000_000_000_001 10_000_000_000_000) (refused 0 1)
large_reading = refl

large_divisor : Follows (ratio_rule 1 10_000_000_000_001) (refused 0 1)
large_divisor = refl

-- a Pt1000 at 100 °C: over 10^12 nΩ, where the limit was before request 9
was_outside : Follows (ratio_rule_up_to (10 ^ 12) 1_385_055_000_000 1_000_000_000_000) (refused 0 1)
was_outside = refl

is_read : Follows (ratio_rule 1_385_055_000_000 1_000_000_000_000) (answered 1_385_055_000)
is_read = (refl, refl)
