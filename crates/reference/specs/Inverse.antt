-- The inverse: of the steps whose working value does not exceed a given one, the largest.
use Rattle.std.specs.Prelude.{ℤ, pos, ◌≤ℤ◌, ◌<ℤ◌, Result, Ok, Err}
use Rattle.whole.specs.Largest.{Largest}
use Rattle.quantity.specs.declared.temperature.Celsius.{Celsius}
use Rattle.quantity.specs.declared.refusal.Refusal.{Refusal}
use Rattle.quantity.specs.declared.refusal.Refusal.TheVariants.{BelowRange, AboveRange}
use Rattle.reference.specs.declared.inverse.Outside.{Outside}
use Rattle.reference.specs.declared.inverse.Outside.TheVariants.{Below, Past}
use Rattle.reference.specs.Reference.{working, last, past_last}

-- What an answer says of the value: the step is the largest one, or the value is under the working value at 0 °C, or it is at or over the working value one
-- step past the last.
abbrev pub Inverted : ℤ → Result Celsius Outside → Type 0
Inverted value (Ok step) = Largest working (pos 0) last value step.0
Inverted value (Err Below) = value <ℤ working (pos 0)
Inverted value (Err Past) = working past_last ≤ℤ value

-- How a reading outside the scale is refused.
abbrev pub refusal_of : Outside → Refusal
refusal_of Below = BelowRange
refusal_of Past = AboveRange
