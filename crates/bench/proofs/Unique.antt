-- A row of each of the bench's lists has one outcome.
use mathlib.Core.Path.{◌≡◌}
use mathlib.Core.List.{List}
use Rattle.quantity.specs.Outcomes.{Outcome, Follows}
use Rattle.law.specs.Answers.{LawAndRatio}
use Rattle.curve.specs.Tolerance.{LawAndResult}
use Rattle.curve.proofs.Unique.{test_unique}
use Rattle.certificate.specs.Certificate.{LawAndPlaces}
use Rattle.certificate.proofs.Answers.{record_unique, resistances_unique}
use Rattle.reading.proofs.Unique.{ratio_unique}
use Rattle.text.specs.Columns.{Value, letter_at, integer_at, count_at}
use Rattle.row.specs.Places.{given_at}
use Rattle.row.specs.Limits.{Limits}
use Rattle.row.specs.Records.{record_from}
use Rattle.row.specs.Resistances.{resistances_from}
use Rattle.bench.specs.Certificates.{records, resistances_up_to}
use Rattle.bench.specs.Forward.{steps}
use Rattle.bench.specs.Tolerances.{tolerances_up_to}

-- ---- a record of ratios
pub record_row : (row : List Value) (o o' : Outcome LawAndPlaces) → Follows (records.rule row) o → Follows (records.rule row) o' → o ≡ o'
record_row row = record_unique (record_from row)

-- ---- a record of resistances
pub resistances_row : (limits : Limits) (row : List Value) (o o' : Outcome LawAndPlaces) → Follows ((resistances_up_to limits).rule row) o → Follows ((resistances_up_to limits).rule row) o' → o ≡ o'
resistances_row limits row = resistances_unique limits.largest (resistances_from row)

-- ---- a step taken forward
pub step_row : (row : List Value) (o o' : Outcome LawAndRatio) → Follows (steps.rule row) o → Follows (steps.rule row) o' → o ≡ o'
step_row row = ratio_unique (given_at 3 row) (integer_at 2 row)

-- ---- a tolerance test
pub test_row : (limits : Limits) (row : List Value) (o o' : Outcome LawAndResult) → Follows ((tolerances_up_to limits).rule row) o → Follows ((tolerances_up_to limits).rule row) o' → o ≡ o'
test_row limits row = test_unique limits.largest (letter_at 1 row) (integer_at 2 row) (count_at 3 row) (count_at 4 row)
