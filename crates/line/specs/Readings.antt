-- The list of readings, and how many bytes hold each of its answers.
use Rattle.std.specs.Prelude.{[], ◌∷◌, ℕ, ◌+◌}
use Rattle.law.specs.Answers.{LawAndStep}
use Rattle.reading.specs.Reading.{read_given_up_to}
use Rattle.text.specs.Decimal.{signed_decimal}
use Rattle.text.specs.Columns.{longest_id, longest_name}
use Rattle.row.specs.Limits.{Limits, limits}
use Rattle.row.specs.Readings.{columns_up_to, row_from}
use Rattle.line.specs.Kinds.{Kind}

-- A row's resistances, r and r0, read by its certificate; t is the step that was read.
abbrev pub readings_up_to : Limits → Kind
readings_up_to most = record {
  columns = columns_up_to most.digits;
  second = "law";
  own = "t" ∷ [];
  Answer = LawAndStep;
  rule = λ row. let said = row_from 0 row in read_given_up_to most.largest said.certificate said.r.0 said.r0.0;
  written = λ a. signed_decimal a.step ∷ [];
}

abbrev pub readings : Kind
readings = readings_up_to limits

-- So many bytes hold every answer line: id, law, t, which has at most 8 bytes, and code, which then has 1, with three commas and CRLF.
abbrev pub reading_room : ℕ
reading_room = longest_id + 1 + longest_name + 1 + 8 + 1 + 1 + 2
