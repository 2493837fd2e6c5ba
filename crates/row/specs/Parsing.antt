-- What reading a line by its columns states.
use Rattle.std.specs.Prelude.{List, ℕ, Option, None, Some, Result, Ok, Err}
use Rattle.whole.specs.Choice.{if◌then◌otherwise◌}
use Rattle.text.specs.declared.columns.Fault.{Fault}
use Rattle.text.specs.Columns.{Column, fault_of, well_formed}

-- A row, or why there is none.
abbrev pub row_unless : {Row : Type 0} → Option Fault → Row → Result Row Fault
row_unless None row = Ok row
row_unless (Some fault) row = Err fault

-- By the columns of a list, and by what a row of it says.
abbrev pub parsed_by : {Row : Type 0} → List Column → (List ℕ → Row) → List ℕ → Result Row Fault
parsed_by columns row_of line = row_unless (fault_of columns line) (row_of line)

-- The same without the fault.
abbrev pub row_if : {Row : Type 0} → List Column → (List ℕ → Row) → List ℕ → Option Row
row_if columns row_of line = if well_formed columns line then Some (row_of line) otherwise None
