-- Of the steps whose value does not exceed a given one, the largest, for values that rise with the step.
use Rattle.std.specs.Prelude.{ℤ, pos, ◌+ℤ◌, ◌≤ℤ◌, ◌<ℤ◌}

-- `step` is the largest from `first` to `last` at which `f` is not above `value`. The step past the last is among those that must be above: without it
-- the last would be the largest for every value beyond the range.
pub record Largest (f : ℤ → ℤ) (first last value step : ℤ) : Type 0 where
  pub from_first : first ≤ℤ step
  pub to_last : step ≤ℤ last
  pub not_above : f step ≤ℤ value
  pub above : (later : ℤ) → step <ℤ later → later ≤ℤ (last +ℤ pos 1) → value <ℤ f later
