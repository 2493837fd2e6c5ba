-- A list of tolerance tests: its columns, and what a row says.
use Rattle.std.specs.Prelude.{List, [], ◌∷◌, ℕ, Result}
use Rattle.text.specs.declared.columns.Fault.{Fault}
use Rattle.text.specs.declared.columns.Holds.TheVariants.{Id, Letter, Natural, Signed}
use Rattle.text.specs.Columns.{Column, ◌holds◌, Value, values, letter_at, integer_at, count_at, names_length}
use Rattle.row.specs.declared.tolerances.ToleranceRow.{ToleranceRow}
use Rattle.row.specs.Parsing.{parsed_by}
use Rattle.row.specs.Places.{digits}
use Rattle.row.specs.Limits.{limits}

-- Its resistances have at most so many digits.
abbrev pub columns_up_to : ℕ → List Column
columns_up_to most =
    "id" holds Id
    ∷ "class" holds Letter
    ∷ "t" holds Signed digits
    ∷ "r" holds Natural most
    ∷ "r0" holds Natural most
    ∷ []

abbrev pub columns : List Column
columns = columns_up_to limits.digits

abbrev pub row_from : ℕ → List Value → ToleranceRow
row_from names row = record {
  names = names;
  class = letter_at 1 row;
  bath = record { 0 = integer_at 2 row };
  r = record { 0 = count_at 3 row };
  r0 = record { 0 = count_at 4 row };
}

abbrev pub row_of : List ℕ → ToleranceRow
row_of line = row_from (names_length line) (values columns line)

abbrev pub parsed_as : List ℕ → Result ToleranceRow Fault
parsed_as = parsed_by columns row_of
