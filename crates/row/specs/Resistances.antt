-- A list of records given as resistances: its columns, and what a row says.
use Rattle.std.specs.Prelude.{List, [], ◌∷◌, ℕ, Result}
use Rattle.text.specs.declared.columns.Fault.{Fault}
use Rattle.certificate.specs.declared.resistances.Pair.{Pair}
use Rattle.certificate.specs.declared.record.Record.{Record}
use Rattle.text.specs.declared.columns.Holds.TheVariants.{Id, Name, Natural}
use Rattle.text.specs.Columns.{Column, ◌holds◌, Value, values, name_at, count_at, names_length}
use Rattle.text.specs.Numbers.{is_number, value_of}
use Rattle.text.specs.Scanned.{scanned_at}
use Rattle.text.specs.declared.field.Scanned.{Scanned}
use Rattle.row.specs.declared.resistances.ResistancesRow.{ResistancesRow}
use Rattle.row.specs.Parsing.{parsed_by}
use Rattle.row.specs.Limits.{limits}

-- Its resistances have at most so many digits.
abbrev pub columns_up_to : ℕ → List Column
columns_up_to most =
    "id" holds Id
    ∷ "subrange" holds Name
    ∷ "hg" holds Natural most
    ∷ "hg0" holds Natural most
    ∷ "ga" holds Natural most
    ∷ "ga0" holds Natural most
    ∷ "in" holds Natural most
    ∷ "in0" holds Natural most
    ∷ "sn" holds Natural most
    ∷ "sn0" holds Natural most
    ∷ "zn" holds Natural most
    ∷ "zn0" holds Natural most
    ∷ "al" holds Natural most
    ∷ "al0" holds Natural most
    ∷ "ag" holds Natural most
    ∷ "ag0" holds Natural most
    ∷ []

abbrev pub columns : List Column
columns = columns_up_to limits.digits

-- The sensor's resistance in a cell, and in the water cell.
abbrev pub pair_of : ℕ → ℕ → Pair
pair_of r r0 = record { r = record { 0 = r }; r0 = record { 0 = r0 } }

-- What an inner function answers: the pair in the two fields from an offset on, and where the next field starts.
abbrev pub pair_at : List ℕ → ℕ → Scanned Pair
pair_at line from =
    let r = scanned_at (is_number limits.digits) value_of line from in
    let r0 = scanned_at (is_number limits.digits) value_of line r.next in
    record { value = pair_of r.value r0.value; next = r0.next }

abbrev pub resistances_from : List Value → Record Pair
resistances_from row = record {
  subrange = record { 0 = name_at 1 row };
  mercury = pair_of (count_at 2 row) (count_at 3 row);
  gallium = pair_of (count_at 4 row) (count_at 5 row);
  indium = pair_of (count_at 6 row) (count_at 7 row);
  tin = pair_of (count_at 8 row) (count_at 9 row);
  zinc = pair_of (count_at 10 row) (count_at 11 row);
  aluminium = pair_of (count_at 12 row) (count_at 13 row);
  silver = pair_of (count_at 14 row) (count_at 15 row);
}

abbrev pub row_from : ℕ → List Value → ResistancesRow
row_from names row = record { names = names; cells = resistances_from row }

abbrev pub row_of : List ℕ → ResistancesRow
row_of line = row_from (names_length line) (values columns line)

abbrev pub parsed_as : List ℕ → Result ResistancesRow Fault
parsed_as = parsed_by columns row_of
