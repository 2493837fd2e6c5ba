-- By the curve, a reading is the curve's own.
use mathlib.Core.Path.{subst}
use Rattle.std.specs.Prelude.{Option}
use Rattle.quantity.specs.Outcomes.{Follows, if_named}
use Rattle.law.specs.declared.laws.Law.{Law}
use Rattle.law.specs.declared.laws.Law.TheVariants.{Curve}
use Rattle.law.specs.Answers.{no_step}
use Rattle.curve.proofs.Bracketed.{bracketed}
use Rattle.certificate.specs.Certificate.{certificate_of}
use Rattle.reading.specs.Reading.{read_certificate}
use Rattle.reading.specs.Promised.{CurveAsItself, CurveBracketed}
use Rattle.reading.proofs.Answered.{answered_by}

pub curve_as_itself : CurveAsItself
curve_as_itself k r r0 o named e h =
    rw e at (subst (λ (n : Option Law). Follows (if_named no_step n (λ law. read_certificate (certificate_of law k) r r0)) o) named h)

pub curve_bracketed : CurveBracketed
curve_bracketed k r r0 o named h z =
    let a = answered_by k r r0 o Curve named z h in
    bracketed r r0 o.answer.step a.passed.divisor a.step_of
