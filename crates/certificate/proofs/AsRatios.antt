-- What a record given as resistances yields is what the record of its ratios yields.
use mathlib.Core.Path.{◌≡◌, refl, ap}
use mathlib.Core.Bool.{false}
use Rattle.std.specs.Prelude.{Option, None, Some}
use Prim.Native.Nat.{ℕ}
use native.Mathlib.Omega.{arith}
use Rattle.quantity.specs.Outcomes.{Outcome, answered, Follows, if_named}
use Rattle.quantity.proofs.Outcomes.{answer-follows, passed}
use Rattle.law.specs.declared.cell.Cell.{Cell}
use Rattle.law.specs.declared.subrange.Subrange.{Subrange}
use Rattle.law.specs.Subranges.{subrange_named}
use Rattle.law.proofs.Subranges.{no_cell}
use Rattle.certificate.specs.declared.record.Record.{Record}
use Rattle.certificate.specs.declared.resistances.Pair.{Pair}
use Rattle.certificate.specs.declared.soundness.Certificate.{Certificate}
use Rattle.certificate.specs.Certificate.{LawAndPlaces, no_places, held}
use Rattle.certificate.specs.Record.{record_of}
use Rattle.certificate.specs.Resistances.{cell_outside, outside_up_to, outside, ratios_of, resistances_of}
use Rattle.certificate.specs.Promised.{AsRatios, YieldedByRatios, ResistancesAccepted}
use Rattle.certificate.proofs.Made.{record_accepted}

-- ---- every cell within its limits
pub cell_inside : (resistances : Record Pair) → outside resistances ≡ false → (p : Cell) → cell_outside resistances p ≡ false
unfolding outside_up_to
cell_inside resistances = no_cell (cell_outside resistances)

-- ---- the rule of the ratios, with 1 as its first test
module _ (resistances : Record Pair) (e : outside resistances ≡ false) (o : Outcome LawAndPlaces) where
  with-1 : (named : Option Subrange) → Follows (if_named no_places named (λ s. record_of s (ratios_of resistances))) o → Follows (if_named no_places named (λ s. resistances_of s resistances)) o
  with-1 None h = h
  with-1 (Some s) h = rw e h

  without-1 : (named : Option Subrange) → Follows (if_named no_places named (λ s. resistances_of s resistances)) o → Follows (if_named no_places named (λ s. record_of s (ratios_of resistances))) o
  without-1 None h = h
  without-1 (Some s) h = rw e at h

pub as_ratios : AsRatios
as_ratios resistances o e =
    let named = subrange_named resistances.subrange.0 in
    (with-1 resistances e o named, without-1 resistances e o named)

-- ---- a certificate, which passes 1
yielded_inside : (resistances : Record Pair) (k : Certificate) (named : Option Subrange) → Follows (if_named no_places named (λ s. resistances_of s resistances)) (answered (held k)) → outside resistances ≡ false
yielded_inside resistances k None h = absurd (let z : ◌≡◌ {A = ℕ} 0 3 = ap (λ (o : Outcome LawAndPlaces). o.code) h in omega arith)
yielded_inside resistances k (Some s) h =
    (passed (outside resistances) 1 (record_of s (ratios_of resistances)).tests (omega arith) (answer-follows (resistances_of s resistances) (answered (held k)) refl h).0).0

pub yielded_by_ratios : YieldedByRatios
yielded_by_ratios resistances k h =
    (as_ratios resistances (answered (held k)) (yielded_inside resistances k (subrange_named resistances.subrange.0) h)).1 h

pub resistances_accepted : ResistancesAccepted
resistances_accepted resistances k h = record_accepted (ratios_of resistances) k (yielded_by_ratios resistances k h)
