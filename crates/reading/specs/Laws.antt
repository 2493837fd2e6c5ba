-- What each law puts side by side: the value of a ratio, and its range. On the curve they are the ratio itself and exact ratios, in units of 10^-31; on the scale
-- Wr and the working values of the reference function, in units of 10^-11.
use Rattle.std.specs.Prelude.{ℕ, ℤ}
use Rattle.law.specs.declared.laws.Law.{Law}
use Rattle.law.specs.declared.laws.Law.TheVariants.{Curve, Scale}
use Rattle.law.specs.Subranges.{Inverse, of_reference, carried}
use Rattle.law.specs.Ranges.{Range, by_largest}
use Rattle.reference.specs.Reference.{working}
use Rattle.curve.specs.Curve as curve
use Rattle.curve.specs.Ways as curve-ways
use Rattle.deviation.specs.declared.places.Places.{Places}
use Rattle.deviation.specs.Limits.{Limited}
use Rattle.deviation.specs.Working.{Wr}

-- The value of a ratio.
abbrev pub value_of : Law → Places → ℕ → ℤ
value_of Curve k w = curve.units w
value_of (Scale s) k w = Wr (carried s).form k w

-- The range of a subrange, by its inverse: the reference function's goes by the largest step.
abbrev pub scale_range : Inverse → ℤ → ℤ → Range
scale_range of_reference bottom top = by_largest working bottom top

-- The range of a law.
abbrev pub range_of : Law → Range
range_of Curve = curve-ways.range
range_of (Scale s) = scale_range (carried s).inverse (carried s).bottom (carried s).top

-- What inner functions ask of the places: on the scale they keep their limits. A sound certificate's do.
abbrev pub Keeps : Law → Places → Type 0
Keeps Curve k = Unit {0}
Keeps (Scale s) k = Limited (carried s).form k
