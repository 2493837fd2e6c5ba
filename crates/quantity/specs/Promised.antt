-- What is promised of the ratio of two resistances besides its answer, and of each rule that asks for the limits of a resistance.
use Rattle.std.specs.Prelude.{ℕ, ◌+◌, ◌*◌, ◌/◌, ◌%◌, ◌<◌, ◌≤◌, ◌≡◌, true, false, ◌&&◌, eqb}
use Rattle.quantity.specs.Quantities.{is_reading, is_divisor, one, ratio_of, largest_ratio}
use Rattle.quantity.specs.Outcomes.{Outcome, number_given, Rule, Follows}
use Rattle.quantity.specs.Ratios.{ratio_tests, ratio_rule_up_to}

-- W is above R/R0 by half a unit at most, and below it by less, so that an exact half goes up. Half a unit is added to both, and both are multiplied by 2 R0.
pub record Nearest (r r0 w : ℕ) : Type 0 where
  pub not_above : 2 * w * r0 ≤ 2 * (r * one) + r0
  pub not_below : 2 * (r * one) + r0 < 2 * (w + 1) * r0

-- The ratio is nearest in this sense, and no other whole number is.
abbrev pub RatioNearest : Type 0
RatioNearest = (r r0 : ℕ) → is_divisor r0 ≡ true → Nearest r r0 (ratio_of r r0) × ((w : ℕ) → Nearest r r0 w → w ≡ ratio_of r r0)

-- It never falls where R rises.
abbrev pub RatioRises : Type 0
RatioRises = (r r' r0 : ℕ) → is_divisor r0 ≡ true → r ≤ r' → ratio_of r r0 ≤ ratio_of r' r0

-- Of resistances within their limits those pass whose R/R0 is below 4.400 000 000 5, which is half a unit above 4.4, and all others are refused by 2.
abbrev pub RatioLimit : Type 0
RatioLimit =
    (r r0 : ℕ) → (is_reading r && is_divisor r0) ≡ true
    → (2 * (r * one) < (2 * largest_ratio + 1) * r0 → number_given (ratio_tests r r0) ≡ 0)
    × ((2 * largest_ratio + 1) * r0 ≤ 2 * (r * one) → number_given (ratio_tests r r0) ≡ 2)

-- R is set to W times R0, as near as whole nΩ come to it; between two of them it may be either.
pub record SetTo (r r0 w : ℕ) : Type 0 where
  pub not_above : 2 * (r * one) ≤ 2 * (w * r0) + one
  pub not_below : 2 * (w * r0) ≤ 2 * (r * one) + one

-- Then its ratio is W, where R0 is 1 Ω or more.
abbrev pub SetHasRatio : Type 0
SetHasRatio = (r r0 w : ℕ) → one ≤ r0 → SetTo r r0 w → ratio_of r r0 ≡ w

-- ---- the ratio before request 7
-- It was R/R0 rounded down. It stays where less than half a unit was dropped; elsewhere it is one unit more.
abbrev pub RatioMoved : Type 0
RatioMoved =
    (r r0 : ℕ) → is_divisor r0 ≡ true
    → (2 * (r * one % r0) < r0 → ratio_of r r0 ≡ r * one / r0) × (r0 ≤ 2 * (r * one % r0) → ratio_of r r0 ≡ r * one / r0 + 1)

-- ---- a larger resistance allowed
-- Of one rule up to a largest resistance and up to a larger one. What it gave stays, unless that was 1: it is given still, and nothing else is. And whatever has
-- an outcome now had one then.
pub record OnlyOnesMove {A : Type 0} (before after : Rule A) : Type 0 where
  pub stays : (o : Outcome A) → Follows before o → eqb o.code 1 ≡ false → Follows after o
  pub same : (o o' : Outcome A) → Follows before o → eqb o.code 1 ≡ false → Follows after o' → o' ≡ o
  pub had : (o : Outcome A) → Follows after o → (old : Outcome A) × Follows before old

-- So it is with a rule, whichever two are taken for the largest resistance, the second no smaller.
abbrev pub Widens : {A : Type 0} → (ℕ → Rule A) → Type 0
Widens rule = (largest larger : ℕ) → largest ≤ larger → OnlyOnesMove (rule largest) (rule larger)

abbrev pub RatioWidens : Type 0
RatioWidens = (r r0 : ℕ) → Widens (λ largest. ratio_rule_up_to largest r r0)
