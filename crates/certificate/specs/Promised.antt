-- What is promised of certificates besides their answers.
use Rattle.std.specs.Prelude.{◌≡◌, Bool, true, false, List, [], ◌∷◌, ℕ, eqb, None, Some}
use Rattle.std.specs.List.{list_any}
use Rattle.quantity.specs.Outcomes.{Outcome, answered, Follows}
use Rattle.quantity.specs.Promised.{Widens}
use Rattle.law.specs.declared.cell.Cell.{Cell}
use Rattle.law.specs.declared.subrange.Subrange.{Subrange}
use Rattle.law.specs.Subranges.{cells, subrange_named}
use Rattle.fit.specs.Fit.{beyond}
use Rattle.quantity.specs.declared.resistance.Ratio.{Ratio}
use Rattle.certificate.specs.declared.record.Record.{Record}
use Rattle.certificate.specs.declared.resistances.Pair.{Pair}
use Rattle.certificate.specs.declared.soundness.Certificate.{Certificate}
use Rattle.certificate.specs.Certificate.{sound, given_of, LawAndPlaces, held, given_rule}
use Rattle.certificate.specs.Record.{deviates, fitted, record_rule}
use Rattle.certificate.specs.Resistances.{outside, ratios_of, resistances_rule_up_to, resistances_rule}
use Rattle.certificate.specs.AtFault.{cell_at_fault, cell_at_fault_by}

-- Every certificate that a record yields is sound.
abbrev pub MadeSound : Type 0
MadeSound = (ratios : Record Ratio) (k : Certificate) → Follows (record_rule ratios) (answered (held k)) → sound k ≡ true

-- Given by its law's name and its places, it is answered as itself, and so never refused by 3 or 7.
abbrev pub MadeAccepted : Type 0
MadeAccepted = (ratios : Record Ratio) (k : Certificate) → Follows (record_rule ratios) (answered (held k)) → Follows (given_rule (given_of k)) (answered (held k))

-- ---- a record given as resistances
-- Where every cell given is within its limits, what follows the rule of the resistances is what follows that of the record of their ratios.
abbrev pub AsRatios : Type 0
AsRatios =
    (resistances : Record Pair) (o : Outcome LawAndPlaces) → outside resistances ≡ false
    → (Follows (record_rule (ratios_of resistances)) o → Follows (resistances_rule resistances) o)
    × (Follows (resistances_rule resistances) o → Follows (record_rule (ratios_of resistances)) o)

-- A certificate that resistances yield is yielded by the record of their ratios, so all that is said of those that records yield holds of it too.
abbrev pub YieldedByRatios : Type 0
YieldedByRatios =
    (resistances : Record Pair) (k : Certificate) → Follows (resistances_rule resistances) (answered (held k))
    → Follows (record_rule (ratios_of resistances)) (answered (held k))

-- So it is accepted where it is given.
abbrev pub ResistancesAccepted : Type 0
ResistancesAccepted =
    (resistances : Record Pair) (k : Certificate) → Follows (resistances_rule resistances) (answered (held k))
    → Follows (given_rule (given_of k)) (answered (held k))

-- A larger resistance allowed, only what was refused by 1 moves.
abbrev pub ResistancesWiden : Type 0
ResistancesWiden = (resistances : Record Pair) → Widens (λ largest. resistances_rule_up_to largest resistances)

-- ---- the cell at fault
abbrev pub among : List ℕ → ℕ → Bool
among numbers n = list_any (eqb n) numbers

-- A record that is refused by 2, 4 or 6 has a cell at fault.
abbrev pub FaultFound : Type 0
FaultFound =
    (ratios : Record Ratio) (o : Outcome LawAndPlaces) → Follows (record_rule ratios) o → among (2 ∷ 4 ∷ 6 ∷ []) o.code ≡ true
    → (p : Cell) × (cell_at_fault ratios ≡ Some p)

-- One that is accepted has none, nor has one that is refused by 3 or 5.
abbrev pub NoneAtFault : Type 0
NoneAtFault =
    (ratios : Record Ratio) (o : Outcome LawAndPlaces) → Follows (record_rule ratios) o → among (0 ∷ 3 ∷ 5 ∷ []) o.code ≡ true
    → cell_at_fault ratios ≡ None

-- The same of resistances, which have one where they are refused by 1 too.
abbrev pub FaultFoundBy : Type 0
FaultFoundBy =
    (resistances : Record Pair) (o : Outcome LawAndPlaces) → Follows (resistances_rule resistances) o → among (1 ∷ 2 ∷ 4 ∷ 6 ∷ []) o.code ≡ true
    → (p : Cell) × (cell_at_fault_by resistances ≡ Some p)

abbrev pub NoneAtFaultBy : Type 0
NoneAtFaultBy =
    (resistances : Record Pair) (o : Outcome LawAndPlaces) → Follows (resistances_rule resistances) o → among (0 ∷ 3 ∷ 5 ∷ []) o.code ≡ true
    → cell_at_fault_by resistances ≡ None

-- A record that is refused by 7 and has no cell at fault has no cell whose deviation is beyond its limit: it is a coefficient that is beyond its own.
abbrev pub CoefficientAtFault : Type 0
CoefficientAtFault =
    (ratios : Record Ratio) (s : Subrange) (o : Outcome LawAndPlaces) → subrange_named ratios.subrange.0 ≡ Some s → Follows (record_rule ratios) o → o.code ≡ 7
    → cell_at_fault ratios ≡ None
    → (deviates ratios ≡ false) × (beyond (fitted ratios (cells s)) ≡ true)

-- The same of resistances, by their ratios.
abbrev pub CoefficientAtFaultBy : Type 0
CoefficientAtFaultBy =
    (resistances : Record Pair) (s : Subrange) (o : Outcome LawAndPlaces) → subrange_named resistances.subrange.0 ≡ Some s → Follows (resistances_rule resistances) o → o.code ≡ 7
    → cell_at_fault_by resistances ≡ None
    → (deviates (ratios_of resistances) ≡ false) × (beyond (fitted (ratios_of resistances) (cells s)) ≡ true)
