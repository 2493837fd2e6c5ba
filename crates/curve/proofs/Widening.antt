-- A larger resistance allowed: of readings by the curve and of tolerance tests only what was refused by 1 moves.
use mathlib.Core.List.{[]}
use Rattle.quantity.specs.Quantities.{ratio_of}
use Rattle.quantity.proofs.Widening.{ratio-among, named_move}
use Rattle.law.specs.declared.laws.Law.TheVariants.{Curve}
use Rattle.law.specs.Ranges.{value_tests, step_tests}
use Rattle.law.specs.Answers.{no_step}
use Rattle.law.proofs.Answers.{same_reading}
use Rattle.curve.specs.Curve.{units, first}
use Rattle.curve.specs.Ways.{range, read_resistances}
use Rattle.curve.specs.Tolerance.{class_named, no_result, test_by_class_up_to, test_by_class}
use Rattle.curve.specs.Promised.{CurveWidens, ToleranceWidens}
use Rattle.curve.proofs.Unique.{one-step, same_result}

pub curve_widens : CurveWidens
curve_widens r r0 = ratio-among [] (value_tests range (units (ratio_of r r0))) no_step (read_resistances r r0).Answer (same_reading Curve range (units (ratio_of r r0)) one-step) r r0

pub tolerance_widens : ToleranceWidens
tolerance_widens letter bath r r0 largest larger h =
    named_move no_result (class_named letter) (λ class. test_by_class_up_to largest class bath r r0) (λ class. test_by_class_up_to larger class bath r r0)
    (λ class. ratio-among (step_tests first class.top bath) (value_tests range (units (ratio_of r r0))) no_result (test_by_class class bath r r0).Answer (same_result class bath r r0) r r0 largest larger h)
