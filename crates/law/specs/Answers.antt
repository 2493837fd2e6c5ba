-- Answers that name the law by which they were given. A refusal names none.
use Rattle.std.specs.Prelude.{◌≡◌, List, ◌++◌, ℕ, ℤ, pos, Option, None, Some, Err, Ok, Result}
use Rattle.quantity.specs.Refusals.{number_of}
use Rattle.quantity.specs.Outcomes.{Outcome, answered, refused, Test, Rule}
use Rattle.law.specs.declared.laws.Law.{Law}
use Rattle.quantity.specs.declared.refusal.Refusal.{Refusal}
use Rattle.law.specs.declared.answer.Reading.{Reading}
use Rattle.law.specs.declared.answer.ForwardRatio.{ForwardRatio}
use Rattle.law.specs.Ranges.{Range, value_tests, step_tests}

-- ---- a reading
pub record LawAndStep : Type 0 where
  pub law : Option Law
  pub step : ℤ

abbrev pub no_step : LawAndStep
no_step = record { law = None; step = pos 0 }

-- What each case of an answer stands for.
abbrev pub stated : Result Reading Refusal → Outcome LawAndStep
stated (Ok r) = answered (record { law = Some r.law; step = r.step.0 })
stated (Err why) = refused no_step (number_of why)

-- A value read by a law, after earlier tests: 8, 9, else the step that answers the value, with the law named.
abbrev pub read_by : List Test → Law → Range → ℤ → Rule LawAndStep
read_by earlier law range value =
    record {
      tests = earlier ++ value_tests range value;
      zeros = no_step;
      Answer = λ a. (a.law ≡ Some law) × range.StepOf value a.step;
    }

-- ---- forward
pub record LawAndRatio : Type 0 where
  pub law : Option Law
  pub ratio : ℕ

abbrev pub no_ratio : LawAndRatio
no_ratio = record { law = None; ratio = 0 }

abbrev pub stated_forward : Result ForwardRatio Refusal → Outcome LawAndRatio
stated_forward (Ok f) = answered (record { law = Some f.law; ratio = f.ratio.0 })
stated_forward (Err why) = refused no_ratio (number_of why)

-- A step taken forward by a law, after earlier tests: 8 or 9 for a step outside the range, else its ratio, with the law named.
abbrev pub forward_by : List Test → Law → Range → (ℕ → Type 0) → ℤ → Rule LawAndRatio
forward_by earlier law range RatioOf step =
    record {
      tests = earlier ++ step_tests range.bottom range.top step;
      zeros = no_ratio;
      Answer = λ a. (a.law ≡ Some law) × RatioOf a.ratio;
    }
