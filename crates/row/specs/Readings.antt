-- A list of readings: its columns, and what a row says.
use Rattle.std.specs.Prelude.{List, [], ◌∷◌, ℕ, Result}
use Rattle.text.specs.declared.columns.Fault.{Fault}
use Rattle.text.specs.declared.columns.Holds.TheVariants.{Id, Name, Natural, Signed}
use Rattle.text.specs.Columns.{Column, ◌holds◌, Value, values, count_at, names_length}
use Rattle.row.specs.declared.readings.ReadingRow.{ReadingRow}
use Rattle.row.specs.Parsing.{parsed_by}
use Rattle.row.specs.Places.{digits, given_at}
use Rattle.row.specs.Limits.{limits}

-- Its resistances have at most so many digits.
abbrev pub columns_up_to : ℕ → List Column
columns_up_to most =
    "id" holds Id
    ∷ "law" holds Name
    ∷ "r" holds Natural most
    ∷ "r0" holds Natural most
    ∷ "a" holds Signed digits
    ∷ "b" holds Signed digits
    ∷ "c" holds Signed digits
    ∷ "d" holds Signed digits
    ∷ "wal" holds Natural digits
    ∷ []

abbrev pub columns : List Column
columns = columns_up_to limits.digits

abbrev pub row_from : ℕ → List Value → ReadingRow
row_from names row = record { names = names; certificate = given_at 4 row; r = record { 0 = count_at 2 row }; r0 = record { 0 = count_at 3 row } }

abbrev pub row_of : List ℕ → ReadingRow
row_of line = row_from (names_length line) (values columns line)

abbrev pub parsed_as : List ℕ → Result ReadingRow Fault
parsed_as = parsed_by columns row_of
