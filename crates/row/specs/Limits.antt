-- The limits of a resistance: how large it may be, and how many digits it may have in a list.
use Rattle.std.specs.Prelude.{ℕ, ◌^◌, ◌≤◌}
use Rattle.quantity.specs.Quantities.{largest_resistance}

-- The largest, in nΩ, and the most digits.
pub record Limits : Type 0 where
  pub largest : ℕ
  pub digits : ℕ

abbrev pub limits : Limits
limits = record { largest = largest_resistance; digits = 14 }

-- Those before request 9.
abbrev pub limits_before : Limits
limits_before = record { largest = 10 ^ 12; digits = 13 }

-- Limits, and others that are no narrower.
pub record Widened (before after : Limits) : Type 0 where
  pub largest : before.largest ≤ after.largest
  pub digits : before.digits ≤ after.digits
