-- The ratio of two resistances, or the number given instead.
use Rattle.std.specs.Prelude.{◌≡◌, ◌&&◌, not, List, [], ◌∷◌, ℕ, ltb, Err, Ok, Result}
use Rattle.quantity.specs.declared.refusal.Refusal.{Refusal}
use Rattle.quantity.specs.declared.resistance.Ratio.{Ratio}
use Rattle.quantity.specs.Quantities.{largest_resistance, is_reading_up_to, is_divisor_up_to, ratio_of, largest_ratio}
use Rattle.quantity.specs.Refusals.{number_of}
use Rattle.quantity.specs.Outcomes.{Outcome, answered, refused, Test, ◌gives◌, Rule}

-- 1: R or R0 outside its limits; 2: a ratio above 4.4.
abbrev pub ratio_tests_up_to : ℕ → ℕ → ℕ → List Test
ratio_tests_up_to largest r r0 =
    not (is_reading_up_to largest r && is_divisor_up_to largest r0) gives 1
    ∷ ltb largest_ratio (ratio_of r r0) gives 2
    ∷ []

abbrev pub ratio_tests : ℕ → ℕ → List Test
ratio_tests = ratio_tests_up_to largest_resistance

-- What each case of an answer stands for; a refusal has ratio 0.
abbrev pub stated : Result Ratio Refusal → Outcome ℕ
stated (Ok w) = answered w.0
stated (Err why) = refused 0 (number_of why)

abbrev pub ratio_rule_up_to : ℕ → ℕ → ℕ → Rule ℕ
ratio_rule_up_to largest r r0 = record { tests = ratio_tests_up_to largest r r0; zeros = 0; Answer = λ w. w ≡ ratio_of r r0 }

abbrev pub ratio_rule : ℕ → ℕ → Rule ℕ
ratio_rule = ratio_rule_up_to largest_resistance
