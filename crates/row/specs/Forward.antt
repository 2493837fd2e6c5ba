-- A list of steps to be taken forward: its columns, and what a row says.
use Rattle.std.specs.Prelude.{List, [], ◌∷◌, ℕ, Result}
use Rattle.text.specs.declared.columns.Fault.{Fault}
use Rattle.text.specs.declared.columns.Holds.TheVariants.{Id, Name, Natural, Signed}
use Rattle.text.specs.Columns.{Column, ◌holds◌, Value, values, integer_at, names_length}
use Rattle.row.specs.declared.forward.ForwardRow.{ForwardRow}
use Rattle.row.specs.Parsing.{parsed_by}
use Rattle.row.specs.Places.{digits, given_at}

abbrev pub columns : List Column
columns =
    "id" holds Id
    ∷ "law" holds Name
    ∷ "t" holds Signed digits
    ∷ "a" holds Signed digits
    ∷ "b" holds Signed digits
    ∷ "c" holds Signed digits
    ∷ "d" holds Signed digits
    ∷ "wal" holds Natural digits
    ∷ []

abbrev pub row_from : ℕ → List Value → ForwardRow
row_from names row = record { names = names; certificate = given_at 3 row; step = record { 0 = integer_at 2 row } }

abbrev pub row_of : List ℕ → ForwardRow
row_of line = row_from (names_length line) (values columns line)

abbrev pub parsed_as : List ℕ → Result ForwardRow Fault
parsed_as = parsed_by columns row_of
