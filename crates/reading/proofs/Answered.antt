-- What an answered reading says, and that it is one by the law that the name names.
use mathlib.Core.Path.{◌≡◌, refl, sym, ◌∙◌, ap, subst}
use mathlib.Core.Bool.{true}
use mathlib.Core.List.{◌++◌}
use Rattle.std.specs.Prelude.{Option, None, Some}
use Rattle.std.specs.Option.{unwrap_or}
use Prim.Native.Nat.{ℕ}
use native.Mathlib.Omega.{arith}
use lib.IntN.{ℤ}
use Rattle.quantity.specs.Quantities.{ratio_of}
use Rattle.quantity.specs.Outcomes.{Outcome, number_given, Follows, if_named}
use Rattle.quantity.specs.Ratios.{ratio_tests}
use Rattle.quantity.proofs.Outcomes.{answer-follows, both_pass}
use Rattle.quantity.proofs.Ratios.{Passed, ratio_passed}
use Rattle.law.specs.declared.laws.Law.{Law}
use Rattle.law.specs.declared.laws.Law.TheVariants.{Curve}
use Rattle.law.specs.Subranges.{law_named}
use Rattle.law.specs.Ranges.{value_tests, step_tests}
use Rattle.law.specs.Answers.{LawAndStep, no_step, LawAndRatio, no_ratio}
use Rattle.deviation.specs.declared.places.Places.{Places}
use Rattle.certificate.specs.declared.soundness.Given.{Given}
use Rattle.certificate.specs.declared.soundness.Certificate.{Certificate}
use Rattle.certificate.specs.Certificate.{sound, certificate_of, sound_tests}
use Rattle.certificate.proofs.Answers.{sound_passed}
use Rattle.reading.specs.Laws.{value_of, range_of, Keeps}
use Rattle.reading.specs.Reading.{read_certificate, read_given}
use Rattle.reading.specs.Forward.{RatioAt, forward_certificate, forward_given}
use Rattle.reading.specs.Promised.{LawAsked}
use Rattle.reading.proofs.Ends.{sound-keeps}

-- ---- a reading
pub record Answered (law : Law) (k : Places) (r r0 : ℕ) (o : Outcome LawAndStep) : Type 0 where
  pub keeps : Keeps law k
  pub passed : Passed r r0
  pub by_law : o.answer.law ≡ Some law
  pub step_of : (range_of law).StepOf (value_of law k (ratio_of r r0)) o.answer.step

by_certificate : (k : Certificate) (r r0 : ℕ) (o : Outcome LawAndStep) → o.code ≡ 0 → Follows (read_certificate k r r0) o → Answered k.law k.places r r0 o
by_certificate k r r0 o z h =
    let a = answer-follows (read_certificate k r r0) o z h in
    let value = value_of k.law k.places (ratio_of r r0) in
    let given-and-ratio = (both_pass (sound_tests k ++ ratio_tests r r0) (value_tests (range_of k.law) value) refl a.0).0 in
    let both = both_pass (sound_tests k) (ratio_tests r r0) refl given-and-ratio in
    record {
      keeps = sound-keeps k.law k.places (sound_passed k both.0);
      passed = ratio_passed r r0 both.1;
      by_law = a.1.0;
      step_of = a.1.1;
    }

pub record Asked (k : Given) (r r0 : ℕ) (o : Outcome LawAndStep) : Type 0 where
  pub law : Law
  pub named : law_named k.law.0 ≡ Some law
  pub answered : Answered law k.places r r0 o

pub asked : (k : Given) (r r0 : ℕ) (o : Outcome LawAndStep) → o.code ≡ 0 → Follows (read_given k r r0) o → Asked k r r0 o
asked k r r0 o z = by (law_named k.law.0) refl
  where
    by : (named : Option Law) → law_named k.law.0 ≡ named → Follows (if_named no_step named (λ law. read_certificate (certificate_of law k) r r0)) o → Asked k r r0 o
    by None e h = absurd (let c : ◌≡◌ {A = ℕ} 3 0 = sym (ap (λ (o : Outcome LawAndStep). o.code) h) ∙ z in omega arith)
    by (Some law) e h = record { law = law; named = e; answered = by_certificate (certificate_of law k) r r0 o z h }

-- one name names one law
pub same-law : (l l' : Law) → Some l ≡ Some l' → l ≡ l'
same-law l l' e = ap (λ (o : Option Law). unwrap_or o Curve) e

-- so it is answered by a law that the name is known to name
pub answered_by : (k : Given) (r r0 : ℕ) (o : Outcome LawAndStep) (law : Law) → law_named k.law.0 ≡ Some law → o.code ≡ 0 → Follows (read_given k r r0) o → Answered law k.places r r0 o
answered_by k r r0 o law e z h =
    let a = asked k r r0 o z h in
    subst (λ (l : Law). Answered l k.places r r0 o) (same-law a.law law (sym a.named ∙ e)) a.answered

pub law_asked : LawAsked
law_asked k r r0 o h z =
    let a = asked k r r0 o z h in
    a.answered.by_law ∙ sym a.named

-- ---- forward
pub record Went (law : Law) (k : Places) (step : ℤ) (o : Outcome LawAndRatio) : Type 0 where
  pub sound_certificate : sound (record { law = law; places = k }) ≡ true
  pub keeps : Keeps law k
  pub inside : number_given (step_tests (range_of law).bottom (range_of law).top step) ≡ 0
  pub ratio-of : RatioAt law k step o.answer.ratio

went_by : (k : Certificate) (step : ℤ) (o : Outcome LawAndRatio) → o.code ≡ 0 → Follows (forward_certificate k step) o → Went k.law k.places step o
went_by k step o z h =
    let a = answer-follows (forward_certificate k step) o z h in
    let both = both_pass (sound_tests k) (step_tests (range_of k.law).bottom (range_of k.law).top step) refl a.0 in
    record { sound_certificate = sound_passed k both.0; keeps = sound-keeps k.law k.places (sound_passed k both.0); inside = both.1; ratio-of = a.1.1 }

pub went : (k : Given) (step : ℤ) (o : Outcome LawAndRatio) (law : Law) → law_named k.law.0 ≡ Some law → o.code ≡ 0 → Follows (forward_given k step) o → Went law k.places step o
went k step o law e z h =
    went_by (certificate_of law k) step o z (subst (λ (named : Option Law). Follows (if_named no_ratio named (λ law. forward_certificate (certificate_of law k) step)) o) e h)
