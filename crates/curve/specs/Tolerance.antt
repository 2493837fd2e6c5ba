-- The tolerance classes of IEC 60751, and the tolerance test.
use Rattle.std.specs.Prelude.{◌≡◌, Bool, false, ◌++◌, ℕ, ◌+◌, ◌*◌, eqb, leb, ℤ, pos, nat_abs, ◌-ℤ◌, Option, None, Some, Err, Ok, Result}
use Prim.Native.Char.{code}
use Rattle.whole.specs.Choice.{if◌then◌otherwise◌}
use Rattle.quantity.specs.Quantities.{largest_resistance, ratio_of}
use Rattle.quantity.specs.Refusals.{number_of}
use Rattle.quantity.specs.Outcomes.{Outcome, answered, refused, Rule, if_named}
use Rattle.quantity.specs.Ratios.{ratio_tests_up_to}
use Rattle.law.specs.declared.laws.Law.{Law}
use Rattle.law.specs.declared.laws.Law.TheVariants.{Curve}
use Rattle.law.specs.Ranges.{value_tests, step_tests}
use Rattle.curve.specs.declared.tolerance.Class.{Class}
use Rattle.quantity.specs.declared.refusal.Refusal.{Refusal}
use Rattle.curve.specs.declared.tolerance.ToleranceResult.{ToleranceResult}
use Rattle.curve.specs.Curve.{units, first, last}
use Rattle.curve.specs.Ways.{range}

-- A class says its last bath (`top`), the steps of error that it allows at 0 °C (`fixed`), and how many thousandths of a step it allows more for each step
-- of the bath from there (`slope`).

-- Class A: 0.15 + 0.002|t| °C from -200 to 650 °C
abbrev pub class_a : Class
class_a = record { top = pos 6_500_000; fixed = 1_500; slope = 2 }

-- Class B: 0.3 + 0.005|t| °C from -200 to 850 °C
abbrev pub class_b : Class
class_b = record { top = last; fixed = 3_000; slope = 5 }

-- A class is named by its letter.
abbrev pub class_named : ℕ → Option Class
class_named letter =
    if eqb letter (code "A") then Some class_a
    otherwise if eqb letter (code "B") then Some class_b
    otherwise None

-- The limit itself passes. Both sides are multiplied by 1000, so that nothing is rounded.
abbrev pub allows : Class → ℤ → ℤ → Bool
allows class bath error = leb (1000 * nat_abs error) (1000 * class.fixed + class.slope * nat_abs bath)

-- What is answered: the law, which is the curve, pass or fail, and the signed error. A refusal names no law, does not pass and has error 0.
pub record LawAndResult : Type 0 where
  pub law : Option Law
  pub passes : Bool
  pub error : ℤ

abbrev pub no_result : LawAndResult
no_result = record { law = None; passes = false; error = pos 0 }

-- What each case of an answer stands for.
abbrev pub stated : Result ToleranceResult Refusal → Outcome LawAndResult
stated (Ok result) = answered (record { law = Some result.law; passes = result.passes; error = result.error })
stated (Err why) = refused no_result (number_of why)

-- By a step that was read: the error is that step less the bath's.
abbrev pub result_of : Class → ℤ → ℤ → LawAndResult
result_of class bath step = record { law = Some Curve; passes = allows class bath (step -ℤ bath); error = step -ℤ bath }

-- 8 or 9: a bath outside the class's range; then the reading's 1, 2, 8, 9; else the result of the step that is read.
abbrev pub test_by_class_up_to : ℕ → Class → ℤ → ℕ → ℕ → Rule LawAndResult
test_by_class_up_to largest class bath r r0 =
    let value = units (ratio_of r r0) in
    record {
      tests = step_tests first class.top bath ++ (ratio_tests_up_to largest r r0 ++ value_tests range value);
      zeros = no_result;
      Answer = λ a. (step : ℤ) × range.StepOf value step × (a ≡ result_of class bath step);
    }

abbrev pub test_by_class : Class → ℤ → ℕ → ℕ → Rule LawAndResult
test_by_class = test_by_class_up_to largest_resistance

-- 3: no class has the letter; then the test by its class.
abbrev pub tolerance_test_up_to : ℕ → ℕ → ℤ → ℕ → ℕ → Rule LawAndResult
tolerance_test_up_to largest letter bath r r0 = if_named no_result (class_named letter) (λ class. test_by_class_up_to largest class bath r r0)

abbrev pub tolerance_test : ℕ → ℤ → ℕ → ℕ → Rule LawAndResult
tolerance_test = tolerance_test_up_to largest_resistance
