-- Certificates that travel whole: one that a record yielded is read by and goes forward at once.
use mathlib.Core.Path.{◌≡◌, refl, sym}
use mathlib.Core.Bool.{Bool, true, false, ◌&&◌, not}
use mathlib.Core.List.{[], ◌∷◌, ◌++◌}
use Rattle.std.specs.Prelude.{Option, None, Some}
use Prim.Native.Nat.{ℕ}
use lib.Dec.{eqb, ltb}
use lib.IntN.{ℤ}
use lib.Signed.{lt_z}
use Rattle.quantity.specs.Quantities.{is_reading, is_divisor, ratio_of, largest_ratio}
use native.Mathlib.Omega.{arith}
use Rattle.quantity.specs.Outcomes.{Outcome, answered, ◌gives◌, number_given, Follows, if_named}
use Rattle.quantity.specs.Ratios.{ratio_tests}
use Rattle.quantity.proofs.Outcomes.{answer-follows, by_name, code-is-given}
use Rattle.law.specs.Subranges.{law_name, law_named}
use Rattle.law.specs.Ranges.{value_tests, step_tests}
use Rattle.law.specs.Answers.{LawAndStep, no_step, LawAndRatio, no_ratio}
use Rattle.law.proofs.Subranges.{names_law}
use Rattle.law.specs.declared.laws.Law.{Law}
use Rattle.certificate.specs.declared.soundness.Given.{Given}
use Rattle.certificate.specs.declared.soundness.Certificate.{Certificate}
use Rattle.certificate.specs.Certificate.{certificate_of, given_of, no_places, held, given_by, given_rule}
use Rattle.certificate.proofs.Made.{record_accepted}
use Rattle.certificate.proofs.Answers.{sound_passed}
use Rattle.reading.specs.Laws.{value_of, range_of}
use Rattle.reading.specs.Reading.{read_certificate, read_given}
use Rattle.reading.specs.Forward.{forward_certificate, forward_given}
use Rattle.reading.specs.Promised.{ReadAsGiven, ForwardAsGiven, Yielded, YieldedReads, YieldedForward}

pub read_as_given : ReadAsGiven
read_as_given k r r0 o h =
    by_name no_step (λ law. read_certificate (certificate_of law (given_of k)) r r0) (Some k.law) (law_named (law_name k.law)) (sym (names_law k.law)) o h

pub forward_as_given : ForwardAsGiven
forward_as_given k step o h =
    by_name no_ratio (λ law. forward_certificate (certificate_of law (given_of k)) step) (Some k.law) (law_named (law_name k.law)) (sym (names_law k.law)) o h

-- ---- never 3 or 7
-- the numbers that are left once 7 is passed
not_3_or_7 : (a b c d : Bool) → let n = number_given (a gives 1 ∷ b gives 2 ∷ c gives 8 ∷ d gives 9 ∷ []) in (eqb n 3 ≡ false) × (eqb n 7 ≡ false)
not_3_or_7 true b c d = (refl, refl)
not_3_or_7 false true c d = (refl, refl)
not_3_or_7 false false true d = (refl, refl)
not_3_or_7 false false false true = (refl, refl)
not_3_or_7 false false false false = (refl, refl)

-- a given certificate that is accepted is never refused by 3 or 7
pub accepted_reads : (k : Given) → number_given (given_rule k).tests ≡ 0 → (r r0 : ℕ) (o : Outcome LawAndStep) → Follows (read_given k r r0) o → (eqb o.code 3 ≡ false) × (eqb o.code 7 ≡ false)
accepted_reads k e r r0 o h = by (law_named k.law.0) e h
  where
    by : (named : Option Law) → number_given (if_named no_places named (λ law. given_by law k)).tests ≡ 0 → Follows (if_named no_step named (λ law. read_certificate (certificate_of law k) r r0)) o → (eqb o.code 3 ≡ false) × (eqb o.code 7 ≡ false)
    by None e h = absurd (omega (arith, e))
    by (Some law) e h =
        let c = certificate_of law k in
        let range = range_of law in
        let value = value_of law k.places (ratio_of r r0) in
        let number : o.code ≡ number_given (ratio_tests r r0 ++ value_tests range value) = rw (sound_passed c e) at (code-is-given (read_certificate c r r0) o h) in
        rw number (not_3_or_7 (not (is_reading r && is_divisor r0)) (ltb largest_ratio (ratio_of r r0)) (range.under value) (range.over value))

accepted_forward : (k : Given) → number_given (given_rule k).tests ≡ 0 → (step : ℤ) (o : Outcome LawAndRatio) → Follows (forward_given k step) o → (eqb o.code 3 ≡ false) × (eqb o.code 7 ≡ false)
accepted_forward k e step o h = by (law_named k.law.0) e h
  where
    by : (named : Option Law) → number_given (if_named no_places named (λ law. given_by law k)).tests ≡ 0 → Follows (if_named no_ratio named (λ law. forward_certificate (certificate_of law k) step)) o → (eqb o.code 3 ≡ false) × (eqb o.code 7 ≡ false)
    by None e h = absurd (omega (arith, e))
    by (Some law) e h =
        let c = certificate_of law k in
        let range = range_of law in
        let number : o.code ≡ number_given (step_tests range.bottom range.top step) = rw (sound_passed c e) at (code-is-given (forward_certificate c step) o h) in
        rw number (not_3_or_7 false false (lt_z step range.bottom) (lt_z range.top step))

-- so one that a record yielded is not
yielded_accepted : (k : Certificate) → Yielded k → number_given (given_rule (given_of k)).tests ≡ 0
yielded_accepted k made = (answer-follows (given_rule (given_of k)) (answered (held k)) refl (record_accepted made.0 k made.1)).0

pub yielded_reads : YieldedReads
yielded_reads k made r r0 o h = accepted_reads (given_of k) (yielded_accepted k made) r r0 o h

pub yielded_forward : YieldedForward
yielded_forward k made step o h = accepted_forward (given_of k) (yielded_accepted k made) step o h
