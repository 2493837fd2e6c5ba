-- The list of steps to be taken forward.
use Rattle.std.specs.Prelude.{[], ◌∷◌}
use Rattle.law.specs.Answers.{LawAndRatio}
use Rattle.reading.specs.Forward.{forward_given}
use Rattle.text.specs.Decimal.{decimal}
use Rattle.row.specs.Forward.{columns, row_from}
use Rattle.line.specs.Kinds.{Kind}

-- The ratio w of a row's step t by its certificate.
abbrev pub steps : Kind
steps = record {
  columns = columns;
  second = "law";
  own = "w" ∷ [];
  Answer = LawAndRatio;
  rule = λ row. let said = row_from 0 row in forward_given said.certificate said.step.0;
  written = λ a. decimal a.ratio ∷ [];
}
