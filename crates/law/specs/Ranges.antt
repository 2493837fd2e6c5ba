-- The range of a law: where it begins and ends, which values lie under it and over it, and which step answers a value.
use Rattle.std.specs.Prelude.{Bool, List, [], ◌∷◌, ℤ, pos, ◌+ℤ◌}
use Rattle.std.specs.Int.Signed.{lt_z, le_z}
use Rattle.whole.specs.Largest.{Largest}
use Rattle.quantity.specs.Outcomes.{Test, ◌gives◌}

pub record Range : Type 1 where
  pub bottom : ℤ
  pub top : ℤ
  pub under : ℤ → Bool
  pub over : ℤ → Bool
  pub StepOf : ℤ → ℤ → Type 0

-- By the values at the steps: under the range is under the value at its bottom, over it is at or over the value one step past its top, and the step is the
-- largest whose value is not above the one given.
abbrev pub by_largest : (ℤ → ℤ) → ℤ → ℤ → Range
by_largest value_at bottom top =
    record {
      bottom = bottom;
      top = top;
      under = λ value. lt_z value (value_at bottom);
      over = λ value. le_z (value_at (top +ℤ pos 1)) value;
      StepOf = λ value step. Largest value_at bottom top value step;
    }

-- 8: the value is under the range; 9: it is over it.
abbrev pub value_tests : Range → ℤ → List Test
value_tests range value =
    range.under value gives 8
    ∷ range.over value gives 9
    ∷ []

-- 8: a step is below a range; 9: it is above it.
abbrev pub step_tests : ℤ → ℤ → ℤ → List Test
step_tests bottom top step =
    lt_z step bottom gives 8
    ∷ lt_z top step gives 9
    ∷ []
