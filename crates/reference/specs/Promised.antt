-- What is promised of the reference function, from 0 °C to one step past 961.78 °C.
use Rattle.std.specs.Prelude.{◌≡◌, ℤ, pos, ◌-ℤ◌, ◌≤ℤ◌, ◌<ℤ◌}
use Rattle.exact.specs.Fraction.{Within}
use Rattle.quantity.specs.Quantities.{kelvin_of}
use Rattle.reference.specs.Reference.{n, working, exact, past_last}

-- n is the kelvin count less 7,541,500, so that x = n / 4,810,000 is (T/K - 754.15)/481, as eq. (10a) has it.
abbrev pub OfKelvin : Type 0
OfKelvin = (step : ℤ) → n step ≡ kelvin_of step -ℤ pos 7_541_500

-- The working value lies less than 9 units from the exact sum.
abbrev pub Near : Type 0
Near = (step : ℤ) → pos 0 ≤ℤ step → step ≤ℤ past_last → Within 9 (working step) (exact step)

-- It strictly increases with the step.
abbrev pub Increasing : Type 0
Increasing = (a b : ℤ) → pos 0 ≤ℤ a → a <ℤ b → b ≤ℤ past_last → working a <ℤ working b
