-- What is promised of readings besides their answers. `read_given` is the rule that the call `read` follows, and `forward_given` that of `forward`, so these are
-- statements about every answer of those calls.
use Rattle.std.specs.Prelude.{◌≡◌, true, false, ◌&&◌, ℕ, ◌≤◌, eqb, ℤ, pos, ◌+ℤ◌, ◌≤ℤ◌, Some}
use Rattle.exact.specs.Fraction.{integer, ◌+ᶠ◌, ◌≤ᶠ◌}
use Rattle.quantity.specs.Quantities.{is_reading, is_divisor, one, ratio_of}
use Rattle.quantity.specs.Outcomes.{Outcome, answered, Follows}
use Rattle.quantity.specs.Promised.{SetTo, Widens}
use Rattle.law.specs.declared.subrange.Form.{Form}
use Rattle.law.specs.declared.subrange.Subrange.{Subrange}
use Rattle.law.specs.declared.laws.Law.TheVariants.{Curve, Scale}
use Rattle.law.specs.Subranges.{carried, law_named}
use Rattle.law.specs.Answers.{LawAndStep, LawAndRatio}
use Rattle.reference.specs.Reference as reference
use Rattle.curve.specs.Ways.{read_resistances}
use Rattle.curve.specs.Promised.{Bracketed}
use Rattle.deviation.specs.declared.places.Places.{Places}
use Rattle.deviation.specs.Limits.{Limited}
use Rattle.deviation.specs.Exact.{exact_wr}
use Rattle.quantity.specs.declared.resistance.Ratio.{Ratio}
use Rattle.certificate.specs.declared.record.Record.{Record}
use Rattle.certificate.specs.declared.soundness.Given.{Given}
use Rattle.certificate.specs.declared.soundness.Certificate.{Certificate}
use Rattle.certificate.specs.Certificate.{sound, certificate_of, given_of, held}
use Rattle.certificate.specs.Record.{record_rule}
use Rattle.reading.specs.Reading.{read_certificate_up_to, read_certificate, read_given_up_to, read_given}
use Rattle.reading.specs.Forward.{Least, forward_certificate, forward_given}

-- An answered reading names the law that was asked for, and no other.
abbrev pub LawAsked : Type 0
LawAsked = (k : Given) (r r0 : ℕ) (o : Outcome LawAndStep) → Follows (read_given k r r0) o → o.code ≡ 0 → o.answer.law ≡ law_named k.law.0

-- ---- by the curve
-- A reading by the curve and a sound certificate, which has zeros alone, is the curve's own; so all that is said of those is so of it.
abbrev pub CurveAsItself : Type 0
CurveAsItself =
    (k : Given) (r r0 : ℕ) (o : Outcome LawAndStep) → law_named k.law.0 ≡ Some Curve → sound (certificate_of Curve k) ≡ true
    → Follows (read_given k r r0) o → Follows (read_resistances r r0) o

-- R/R0 is bracketed by the step of every answer by the curve and the next.
abbrev pub CurveBracketed : Type 0
CurveBracketed =
    (k : Given) (r r0 : ℕ) (o : Outcome LawAndStep) → law_named k.law.0 ≡ Some Curve → Follows (read_given k r r0) o → o.code ≡ 0
    → Bracketed r r0 o.answer.step

-- ---- demand 3
-- 0.000 000 000 3 in units of 10^-11
abbrev pub departure : ℕ
departure = 30

-- The ratio w, nine decimals, is taken through the certificate's deviation function without rounding. The exact reference function at the step is never above
-- the result by more than 0.0000000003, and at the next step never below it by more than that.
pub record Close (form : Form) (k : Places) (w : ℕ) (step : ℤ) : Type 0 where
  pub not_above : reference.exact step ≤ᶠ exact_wr form k w +ᶠ integer (pos departure)
  pub not_below : exact_wr form k w ≤ᶠ reference.exact (step +ℤ pos 1) +ᶠ integer (pos departure)

-- First half: so it is with every answer by the scale.
abbrev pub AnswersClose : Type 0
AnswersClose =
    (k : Given) (r r0 : ℕ) (o : Outcome LawAndStep) (s : Subrange) → law_named k.law.0 ≡ Some (Scale s)
    → Follows (read_given k r r0) o → o.code ≡ 0 → Close (carried s).form k.places (ratio_of r r0) o.answer.step

-- Second half: on one certificate (an unsound one is refused) and one R0, of two answered readings the larger resistance never gives the lower temperature.
abbrev pub AnswersOrdered : Type 0
AnswersOrdered =
    (k : Given) (r r' r0 : ℕ) (o o' : Outcome LawAndStep) → Follows (read_given k r r0) o → Follows (read_given k r' r0) o'
    → o.code ≡ 0 → o'.code ≡ 0 → r ≤ r' → o.answer.step ≤ℤ o'.answer.step

-- ---- a larger resistance allowed
-- Of readings by a certificate and by one as it was given, only what was refused by 1 moves.
abbrev pub CertificateWidens : Type 0
CertificateWidens = (k : Certificate) (r r0 : ℕ) → Widens (λ largest. read_certificate_up_to largest k r r0)

abbrev pub GivenWidens : Type 0
GivenWidens = (k : Given) (r r0 : ℕ) → Widens (λ largest. read_given_up_to largest k r r0)

-- ---- certificates that travel whole
-- What follows the rule of a certificate follows that of the same one given by its law's name, so all that is said here of given ones holds of it too.
abbrev pub ReadAsGiven : Type 0
ReadAsGiven = (k : Certificate) (r r0 : ℕ) (o : Outcome LawAndStep) → Follows (read_certificate k r r0) o → Follows (read_given (given_of k) r r0) o

abbrev pub ForwardAsGiven : Type 0
ForwardAsGiven = (k : Certificate) (step : ℤ) (o : Outcome LawAndRatio) → Follows (forward_certificate k step) o → Follows (forward_given (given_of k) step) o

-- A certificate that a record yielded is never refused by 3 or 7.
abbrev pub Yielded : Certificate → Type 0
Yielded k = (ratios : Record Ratio) × Follows (record_rule ratios) (answered (held k))

abbrev pub YieldedReads : Type 0
YieldedReads =
    (k : Certificate) → Yielded k → (r r0 : ℕ) (o : Outcome LawAndStep) → Follows (read_given (given_of k) r r0) o
    → (eqb o.code 3 ≡ false) × (eqb o.code 7 ≡ false)

abbrev pub YieldedForward : Type 0
YieldedForward =
    (k : Certificate) → Yielded k → (step : ℤ) (o : Outcome LawAndRatio) → Follows (forward_given (given_of k) step) o
    → (eqb o.code 3 ≡ false) × (eqb o.code 7 ≡ false)

-- ---- forward on the scale
-- By places that keep their limits every step of a subrange has its ratio.
abbrev pub HasRatio : Type 0
HasRatio =
    (s : Subrange) (k : Places) → Limited (carried s).form k → (step : ℤ) → (carried s).bottom ≤ℤ step → step ≤ℤ (carried s).top
    → (w : ℕ) × Least (carried s).form k step w

-- Reading the ratio of a step gives the step back: two resistances of that ratio are answered by that step.
abbrev pub ReadsBack : Type 0
ReadsBack =
    (k : Given) (r r0 : ℕ) (step : ℤ) (s : Subrange) (f : Outcome LawAndRatio) (o : Outcome LawAndStep) → law_named k.law.0 ≡ Some (Scale s)
    → Follows (forward_given k step) f → f.code ≡ 0 → (is_reading r && is_divisor r0) ≡ true → ratio_of r r0 ≡ f.answer.ratio
    → Follows (read_given k r r0) o → o ≡ answered (record { law = Some (Scale s); step = step })

-- So are two of which R was set by it, where R0 is 1 Ω or more.
abbrev pub SetReadsBack : Type 0
SetReadsBack =
    (k : Given) (r r0 : ℕ) (step : ℤ) (s : Subrange) (f : Outcome LawAndRatio) (o : Outcome LawAndStep) → law_named k.law.0 ≡ Some (Scale s)
    → Follows (forward_given k step) f → f.code ≡ 0 → (is_reading r && is_divisor r0) ≡ true → one ≤ r0 → SetTo r r0 f.answer.ratio
    → Follows (read_given k r r0) o → o ≡ answered (record { law = Some (Scale s); step = step })
