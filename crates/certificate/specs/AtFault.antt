-- The cell at fault: of the test by which a record is refused, the first cell that fails it.
use Rattle.std.specs.Prelude.{Bool, false, ◌&&◌, not, ℕ, eqb, Option, None, Some}
use Rattle.std.specs.List.{find}
use Rattle.whole.specs.Choice.{if◌then◌otherwise◌}
use Rattle.quantity.specs.Outcomes.{number_given}
use Rattle.purity.specs.Purity.{by_gallium_or_mercury, by_silver}
use Rattle.law.specs.declared.cell.Cell.{Cell}
use Rattle.law.specs.declared.cell.Cell.TheVariants as cell
use Rattle.law.specs.declared.subrange.Subrange.{Subrange}
use Rattle.law.specs.Cells.{all_cells}
use Rattle.law.specs.Subranges.{carried, cells, to_silver, subrange_named}
use Rattle.quantity.specs.declared.resistance.Ratio.{Ratio}
use Rattle.certificate.specs.declared.record.Record.{Record}
use Rattle.certificate.specs.declared.resistances.Pair.{Pair}
use Rattle.certificate.specs.Record.{ratio, measured, is_above, is_missing, cell_deviates, record_of}
use Rattle.certificate.specs.Resistances.{cell_outside, ratios_of, resistances_of}

-- Neither W(Ga) nor W(Hg) meets its relation.
abbrev pub neither_met : Record Ratio → Bool
neither_met ratios = not (by_gallium_or_mercury (ratio ratios cell.Hg) (ratio ratios cell.Ga))

-- A cell that breaks a purity relation which decides. Of mercury and gallium one met is enough, so both are at fault where neither is met, but for one
-- that was not measured. Silver decides where the subrange reaches it.
abbrev pub breaks_purity : Subrange → Record Ratio → Cell → Bool
breaks_purity s ratios cell.Hg = neither_met ratios && measured ratios cell.Hg
breaks_purity s ratios cell.Ga = neither_met ratios && measured ratios cell.Ga
breaks_purity s ratios cell.In = false
breaks_purity s ratios cell.Sn = false
breaks_purity s ratios cell.Zn = false
breaks_purity s ratios cell.Al = false
breaks_purity s ratios cell.Ag = to_silver (carried s).form && not (by_silver (ratio ratios cell.Ag))

-- Of the test with this number, the first cell that fails it. For 4 the cells are those that the subrange needs. 5 has no single cell, nor has any number
-- that is not here.
abbrev pub cell_for : Subrange → Record Ratio → ℕ → Option Cell
cell_for s ratios number =
    if eqb number 2 then find (is_above ratios) all_cells
    otherwise if eqb number 4 then find (is_missing ratios) (cells s)
    otherwise if eqb number 6 then find (breaks_purity s ratios) all_cells
    otherwise if eqb number 7 then find (cell_deviates ratios) all_cells
    otherwise None

-- By the number that the tests of a record of a known subrange give. Where 7 is given for a coefficient, no cell deviates, and there is none.
unfoldable pub at_fault : Subrange → Record Ratio → Option Cell
at_fault s ratios = cell_for s ratios (number_given (record_of s ratios).tests)

-- The same by resistances, which have 1 besides.
abbrev pub cell_for_by : Subrange → Record Pair → ℕ → Option Cell
cell_for_by s resistances number = if eqb number 1 then find (cell_outside resistances) all_cells otherwise cell_for s (ratios_of resistances) number

unfoldable pub at_fault_by : Subrange → Record Pair → Option Cell
at_fault_by s resistances = cell_for_by s resistances (number_given (resistances_of s resistances).tests)

-- None where no subrange has the name that is given.
abbrev pub of_named : Option Subrange → (Subrange → Option Cell) → Option Cell
of_named None fault = None
of_named (Some s) fault = fault s

unfoldable pub cell_at_fault : Record Ratio → Option Cell
cell_at_fault ratios = of_named (subrange_named ratios.subrange.0) (λ s. at_fault s ratios)

unfoldable pub cell_at_fault_by : Record Pair → Option Cell
cell_at_fault_by resistances = of_named (subrange_named resistances.subrange.0) (λ s. at_fault_by s resistances)
