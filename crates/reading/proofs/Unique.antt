-- Each promise of readings allows one outcome only.
use mathlib.Core.Path.{◌≡◌, sym, ◌∙◌, ap₂}
use Rattle.std.specs.Prelude.{Option, None, Some, Result}
use Prim.Native.Nat.{ℕ, ◌<◌}
use native.Mathlib.Decide.{dec_lt}
use native.Mathlib.Omega.{arith}
use lib.IntN.{ℤ, pos}
use Rattle.whole.proofs.Parts.{ints}
use Rattle.quantity.specs.Quantities.{largest_resistance, ratio_of}
use Rattle.quantity.specs.Outcomes.{Outcome, Follows, if_named}
use Rattle.quantity.proofs.Outcomes.{one-outcome, one-named}
use Rattle.law.specs.declared.subrange.Subrange.{Subrange}
use Rattle.law.specs.declared.laws.Law.{Law}
use Rattle.law.specs.declared.laws.Law.TheVariants.{Curve, Scale}
use Rattle.quantity.specs.declared.refusal.Refusal.{Refusal}
use Rattle.law.specs.declared.answer.Reading.{Reading}
use Rattle.law.specs.declared.answer.ForwardRatio.{ForwardRatio}
use Rattle.law.specs.Subranges.{carried, law_named}
use Rattle.law.specs.Answers.{LawAndStep, no_step, stated, LawAndRatio, no_ratio, stated_forward}
use Rattle.law.proofs.Answers.{OneStep, largest_is_one, same_reading, stated_unique, forward_unique}
use Rattle.reference.specs.Reference.{working}
use Rattle.curve.specs.Curve as curve
use Rattle.curve.proofs.Unique as curve-unique
use Rattle.deviation.specs.declared.places.Places.{Places}
use Rattle.certificate.specs.declared.soundness.Given.{Given}
use Rattle.certificate.specs.declared.soundness.Certificate.{Certificate}
use Rattle.certificate.specs.Certificate.{certificate_of}
use Rattle.reading.specs.Laws.{value_of, range_of}
use Rattle.reading.specs.Reading.{read_certificate_up_to, read_certificate, read_given_up_to, read_given}
use Rattle.reading.specs.Forward.{Least, RatioAt, forward_certificate, forward_given}
use Rattle.reading.proofs.Demand.{largest_step}

-- ---- readings
one-step : (law : Law) → OneStep (range_of law)
one-step Curve value s t p q = largest_is_one curve.exact curve.first curve.last value s t p q
one-step (Scale u) value s t p q =
    largest_is_one working (pos 0) (carried u).top value s t (largest_step u value s p) (largest_step u value t q)

pub same_step : (k : Certificate) (r r0 : ℕ) (a b : LawAndStep) → (read_certificate k r r0).Answer a → (read_certificate k r r0).Answer b → a ≡ b
same_step k r r0 = same_reading k.law (range_of k.law) (value_of k.law k.places (ratio_of r r0)) (one-step k.law)

pub given_same_step : (k : Given) (r r0 : ℕ) (a b : LawAndStep) → (read_given k r r0).Answer a → (read_given k r r0).Answer b → a ≡ b
given_same_step k r r0 a b = by (law_named k.law.0)
  where
    by : (named : Option Law) → (if_named no_step named (λ law. read_certificate (certificate_of law k) r r0)).Answer a → (if_named no_step named (λ law. read_certificate (certificate_of law k) r r0)).Answer b → a ≡ b
    by None p q = absurd p
    by (Some law) p q = same_step (certificate_of law k) r r0 a b p q

pub read_unique : (largest : ℕ) (k : Given) (r r0 : ℕ) (o o' : Outcome LawAndStep) → Follows (read_given_up_to largest k r r0) o → Follows (read_given_up_to largest k r r0) o' → o ≡ o'
read_unique largest k r r0 = one-named no_step (law_named k.law.0) (λ law. read_certificate_up_to largest (certificate_of law k) r r0) (λ law. same_step (certificate_of law k) r r0)

pub one_reading : (k : Given) (r r0 : ℕ) (x y : Result Reading Refusal) → Follows (read_given k r r0) (stated x) → Follows (read_given k r r0) (stated y) → x ≡ y
one_reading k r r0 x y h i = stated_unique x y (read_unique largest_resistance k r r0 (stated x) (stated y) h i)

pub one_reading_by : (k : Certificate) (r r0 : ℕ) (x y : Result Reading Refusal) → Follows (read_certificate k r r0) (stated x) → Follows (read_certificate k r r0) (stated y) → x ≡ y
one_reading_by k r r0 x y h i = stated_unique x y (one-outcome (read_certificate k r r0) (same_step k r r0) (stated x) (stated y) h i)

-- ---- forward
least_unique : (u : Subrange) (k : Places) (step : ℤ) (v w : ℕ) → Least (carried u).form k step v → Least (carried u).form k step w → v ≡ w
least_unique u k step v w p q = by (dec_lt v w) (dec_lt w v)
  where
    by : Dec (v < w) → Dec (w < v) → v ≡ w
    by (yes h) d = absurd (omega (ints, q.least v h, p.enough))
    by (no h) (yes d) = absurd (omega (ints, p.least w d, q.enough))
    by (no h) (no d) = omega arith

same-ratio : (law : Law) (k : Places) (step : ℤ) (v w : ℕ) → RatioAt law k step v → RatioAt law k step w → v ≡ w
same-ratio Curve k step v w p q = curve-unique.one_ratio_at step v w p q
same-ratio (Scale u) k step v w p q = least_unique u k step v w p q

same_forward : (k : Certificate) (step : ℤ) (a b : LawAndRatio) → (forward_certificate k step).Answer a → (forward_certificate k step).Answer b → a ≡ b
same_forward k step a b p q =
    ap₂ {C = LawAndRatio} (λ (l : Option Law) (w : ℕ). record { law = l; ratio = w }) (p.0 ∙ sym q.0) (same-ratio k.law k.places step a.ratio b.ratio p.1 q.1)

pub ratio_unique : (k : Given) (step : ℤ) (o o' : Outcome LawAndRatio) → Follows (forward_given k step) o → Follows (forward_given k step) o' → o ≡ o'
ratio_unique k step =
    one-named no_ratio (law_named k.law.0) (λ law. forward_certificate (certificate_of law k) step) (λ law. same_forward (certificate_of law k) step)

pub one_forward : (k : Given) (step : ℤ) (x y : Result ForwardRatio Refusal) → Follows (forward_given k step) (stated_forward x) → Follows (forward_given k step) (stated_forward y) → x ≡ y
one_forward k step x y h i = forward_unique x y (ratio_unique k step (stated_forward x) (stated_forward y) h i)

pub one_forward_by : (k : Certificate) (step : ℤ) (x y : Result ForwardRatio Refusal) → Follows (forward_certificate k step) (stated_forward x) → Follows (forward_certificate k step) (stated_forward y) → x ≡ y
one_forward_by k step x y h i =
    forward_unique x y (one-outcome (forward_certificate k step) (same_forward k step) (stated_forward x) (stated_forward y) h i)
