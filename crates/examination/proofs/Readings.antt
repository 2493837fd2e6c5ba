-- A reading by what the table has of a thermometer: once 23 and 20 are passed it is the certificate's own; and what moves where a larger resistance is allowed.
use mathlib.Core.Path.{◌≡◌, refl}
use mathlib.Core.Bool.{Bool, true, false, not}
use mathlib.Core.List.{◌∷◌}
use Rattle.std.specs.Prelude.{Option, None, Some}
use Prim.Native.Nat.{ℕ}
use Rattle.quantity.specs.Quantities.{ratio_of}
use Rattle.quantity.specs.Outcomes.{Outcome, ◌gives◌, Rule, Follows, if_named}
use Rattle.quantity.specs.Promised.{OnlyOnesMove, Widens}
use Rattle.quantity.proofs.Widening.{none_moves, ratio-among}
use Rattle.law.specs.declared.laws.Law.{Law}
use Rattle.law.specs.Subranges.{law_named}
use Rattle.law.specs.Ranges.{value_tests}
use Rattle.law.specs.Answers.{LawAndStep, no_step}
use Rattle.certificate.specs.declared.soundness.Given.{Given}
use Rattle.certificate.specs.Certificate.{sound_tests, certificate_of}
use Rattle.reading.specs.Laws.{value_of, range_of}
use Rattle.reading.specs.Reading.{read_certificate_up_to, read_certificate, read_given}
use Rattle.reading.proofs.Unique.{same_step}
use Rattle.entry.specs.declared.entry.Entry.{Entry}
use Rattle.entry.specs.Entry.{is_live}
use Rattle.examination.specs.Answering.{read_entry_up_to, read_entry}

-- a reading's refusal carries the same zeros whatever its name names
pub given_zeros : (k : Given) (r r0 : ℕ) → (read_given k r r0).zeros ≡ no_step
given_zeros k r r0 = by (law_named k.law.0)
  where
    by : (named : Option Law) → (if_named no_step named (λ law. read_certificate (certificate_of law k) r r0)).zeros ≡ no_step
    by None = refl
    by (Some law) = refl

pub past_20 : (held : Entry) (r r0 : ℕ) (o : Outcome LawAndStep) → is_live held ≡ true → Follows (read_entry false held r r0) o → Follows (read_given held.certificate r r0) o
past_20 held r r0 o live h = rw (given_zeros held.certificate r r0) (rw live at h)

-- ---- a larger resistance allowed
-- a reading by what is held, whatever its law's name names
abbrev entry_by : Bool → Entry → ℕ → ℕ → ℕ → Option Law → Rule LawAndStep
entry_by bad held r r0 largest named =
    let rule = if_named no_step named (λ law. read_certificate_up_to largest (certificate_of law held.certificate) r r0) in
    record { tests = bad gives 23 ∷ not (is_live held) gives 20 ∷ rule.tests; zeros = no_step; Answer = rule.Answer }

pub entry_widens : (bad : Bool) (held : Entry) (r r0 : ℕ) → Widens (λ largest. read_entry_up_to largest bad held r r0)
entry_widens bad held r r0 largest larger h = by (law_named held.certificate.law.0)
  where
    by : (named : Option Law) → OnlyOnesMove (entry_by bad held r r0 largest named) (entry_by bad held r r0 larger named)
    by None = none_moves _ (λ a b p q. absurd p)
    by (Some law) =
        let k = certificate_of law held.certificate in
        ratio-among (bad gives 23 ∷ not (is_live held) gives 20 ∷ sound_tests k) (value_tests (range_of law) (value_of law k.places (ratio_of r r0))) no_step (read_certificate k r r0).Answer (same_step k r r0) r r0 largest larger h
