-- The list of tolerance tests.
use Rattle.std.specs.Prelude.{Bool, true, false, List, [], ◌∷◌, ℕ}
use Rattle.whole.specs.Text.{ascii}
use Rattle.curve.specs.Tolerance.{LawAndResult, tolerance_test_up_to}
use Rattle.text.specs.Decimal.{signed_decimal}
use Rattle.row.specs.Limits.{Limits, limits}
use Rattle.row.specs.Tolerances.{columns_up_to, row_from}
use Rattle.line.specs.Kinds.{Kind}

abbrev pub result_word : Bool → List ℕ
result_word true = ascii "pass"
result_word false = ascii "fail"

-- Whether a row's thermometer is within its class in a bath at t, and its error.
abbrev pub tolerances_up_to : Limits → Kind
tolerances_up_to most = record {
  columns = columns_up_to most.digits;
  second = "class";
  own = "result" ∷ "error" ∷ [];
  Answer = LawAndResult;
  rule = λ row. let said = row_from 0 row in tolerance_test_up_to most.largest said.class said.bath.0 said.r.0 said.r0.0;
  written = λ a. result_word a.passes ∷ signed_decimal a.error ∷ [];
}

abbrev pub tolerances : Kind
tolerances = tolerances_up_to limits
