-- From a record given as resistances to a certificate, or the number given instead.
use Rattle.std.specs.Prelude.{Bool, ◌&&◌, not, ◌∷◌, ℕ, eqb}
use Rattle.std.specs.List.{list_any}
use Rattle.whole.specs.Choice.{if◌then◌otherwise◌}
use Rattle.quantity.specs.Quantities.{largest_resistance, is_reading_up_to, is_divisor_up_to, ratio_of}
use Rattle.quantity.specs.Outcomes.{◌gives◌, Rule, if_named}
use Rattle.law.specs.declared.cell.Cell.{Cell}
use Rattle.law.specs.declared.subrange.Subrange.{Subrange}
use Rattle.law.specs.Cells.{all_cells}
use Rattle.law.specs.Subranges.{subrange_named}
use Rattle.quantity.specs.declared.resistance.Ratio.{Ratio}
use Rattle.certificate.specs.declared.record.Record.{Record}
use Rattle.certificate.specs.declared.resistances.Pair.{Pair}
use Rattle.certificate.specs.Certificate.{LawAndPlaces, no_places}
use Rattle.certificate.specs.Record.{at, of_each, record_of}

-- R and R0 of a cell are the sensor's resistance in it, and in the water cell. 0 and 0 means that the cell was not measured.
abbrev pub is_given : Pair → Bool
is_given p = not (eqb p.r.0 0 && eqb p.r0.0 0)

-- W = R/R0 of a cell given, 0 of any other.
abbrev pub cell_ratio : Pair → ℕ
cell_ratio p = if is_given p then ratio_of p.r.0 p.r0.0 otherwise 0

-- A cell given whose R or R0 is outside its limits.
abbrev pub is_outside_up_to : ℕ → Pair → Bool
is_outside_up_to largest p = is_given p && not (is_reading_up_to largest p.r.0 && is_divisor_up_to largest p.r0.0)

abbrev pub is_outside : Pair → Bool
is_outside = is_outside_up_to largest_resistance

abbrev pub cell_outside_up_to : ℕ → Record Pair → Cell → Bool
cell_outside_up_to largest resistances p = is_outside_up_to largest (at resistances p)

abbrev pub cell_outside : Record Pair → Cell → Bool
cell_outside = cell_outside_up_to largest_resistance

-- 1: any of the seven is such a cell.
unfoldable pub outside_up_to : ℕ → Record Pair → Bool
outside_up_to largest resistances = list_any (cell_outside_up_to largest resistances) all_cells

abbrev pub outside : Record Pair → Bool
outside = outside_up_to largest_resistance

-- The record of the cells' ratios, in which one that is rounded to 0 counts as not measured.
abbrev pub ratios_of : Record Pair → Record Ratio
ratios_of resistances =
    of_each (λ (p : Pair). record { 0 = cell_ratio p }) resistances

-- Resistances of a known subrange: 1, then the tests of the record of their ratios, 2, 4, 5, 6, 7; else its certificate.
abbrev pub resistances_of_up_to : ℕ → Subrange → Record Pair → Rule LawAndPlaces
resistances_of_up_to largest s resistances =
    let of_ratios = record_of s (ratios_of resistances) in
    record {
      tests = outside_up_to largest resistances gives 1 ∷ of_ratios.tests;
      zeros = of_ratios.zeros;
      Answer = of_ratios.Answer;
    }

abbrev pub resistances_of : Subrange → Record Pair → Rule LawAndPlaces
resistances_of = resistances_of_up_to largest_resistance

-- 3: no subrange has the name that is given; then the other tests.
abbrev pub resistances_rule_up_to : ℕ → Record Pair → Rule LawAndPlaces
resistances_rule_up_to largest resistances = if_named no_places (subrange_named resistances.subrange.0) (λ s. resistances_of_up_to largest s resistances)

abbrev pub resistances_rule : Record Pair → Rule LawAndPlaces
resistances_rule = resistances_rule_up_to largest_resistance
