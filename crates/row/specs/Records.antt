-- A list of records of cell ratios: its columns, and what a row says.
use Rattle.std.specs.Prelude.{List, [], ◌∷◌, ℕ, Result}
use Rattle.text.specs.declared.columns.Fault.{Fault}
use Rattle.quantity.specs.declared.resistance.Ratio.{Ratio}
use Rattle.certificate.specs.declared.record.Record.{Record}
use Rattle.text.specs.declared.columns.Holds.TheVariants.{Id, Name, Natural}
use Rattle.text.specs.Columns.{Column, ◌holds◌, Value, values, name_at, count_at, names_length}
use Rattle.row.specs.declared.records.RecordRow.{RecordRow}
use Rattle.row.specs.Parsing.{parsed_by}
use Rattle.row.specs.Places.{digits}

abbrev pub columns : List Column
columns =
    "id" holds Id
    ∷ "subrange" holds Name
    ∷ "hg" holds Natural digits
    ∷ "ga" holds Natural digits
    ∷ "in" holds Natural digits
    ∷ "sn" holds Natural digits
    ∷ "zn" holds Natural digits
    ∷ "al" holds Natural digits
    ∷ "ag" holds Natural digits
    ∷ []

abbrev pub record_from : List Value → Record Ratio
record_from row = record {
  subrange = record { 0 = name_at 1 row };
  mercury = record { 0 = count_at 2 row };
  gallium = record { 0 = count_at 3 row };
  indium = record { 0 = count_at 4 row };
  tin = record { 0 = count_at 5 row };
  zinc = record { 0 = count_at 6 row };
  aluminium = record { 0 = count_at 7 row };
  silver = record { 0 = count_at 8 row };
}

abbrev pub row_from : ℕ → List Value → RecordRow
row_from names row = record { names = names; cells = record_from row }

abbrev pub row_of : List ℕ → RecordRow
row_of line = row_from (names_length line) (values columns line)

abbrev pub parsed_as : List ℕ → Result RecordRow Fault
parsed_as = parsed_by columns row_of
