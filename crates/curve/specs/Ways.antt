-- Reading by the curve, and forward from a step to its ratio.
use Rattle.std.specs.Prelude.{◌≡◌, [], ◌∷◌, ℕ, ltb, ℤ, pos}
use Rattle.whole.specs.Floor.{floor}
use Rattle.quantity.specs.Quantities.{largest_resistance, ratio_of, largest_ratio}
use Rattle.quantity.specs.Outcomes.{◌gives◌, Rule}
use Rattle.quantity.specs.Ratios.{ratio_tests_up_to}
use Rattle.law.specs.declared.laws.Law.TheVariants.{Curve}
use Rattle.law.specs.Ranges.{Range, by_largest}
use Rattle.law.specs.Answers.{LawAndStep, read_by, LawAndRatio, forward_by}
use Rattle.curve.specs.Curve.{exact, units, per_unit, first, last}

-- The curve's range: exact ratios, from -200 °C to 850 °C.
abbrev pub range : Range
range = by_largest exact first last

-- Of a ratio. 2: above 4.4; then 8, 9, else the step.
abbrev pub read_ratio : ℕ → Rule LawAndStep
read_ratio w = read_by (ltb largest_ratio w gives 2 ∷ []) Curve range (units w)

-- Of two resistances: 1, 2, then 8, 9, else the step.
abbrev pub read_resistances_up_to : ℕ → ℕ → ℕ → Rule LawAndStep
read_resistances_up_to largest r r0 = read_by (ratio_tests_up_to largest r r0) Curve range (units (ratio_of r r0))

abbrev pub read_resistances : ℕ → ℕ → Rule LawAndStep
read_resistances = read_resistances_up_to largest_resistance

-- The exact ratio at a step, rounded down to 10^-9.
abbrev pub RatioAt : ℤ → ℕ → Type 0
RatioAt step w = pos w ≡ floor (exact step) per_unit

-- Forward: 8, 9, else that ratio.
abbrev pub forward_step : ℤ → Rule LawAndRatio
forward_step step = forward_by [] Curve range (RatioAt step) step
