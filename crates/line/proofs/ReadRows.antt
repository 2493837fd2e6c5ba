-- What is answered to rows of readings: one outcome, with a number of one digit, and a step within all laws.
use mathlib.Core.Path.{◌≡◌, refl}
use mathlib.Core.Bool.{true}
use mathlib.Core.List.{List}
use Prim.Native.Nat.{ℕ, ◌+◌, ◌≤◌}
use native.Mathlib.Omega.{arith}
use lib.IntN.{ℤ, pos, negsuc}
use lib.Signed.{◌≤ℤ◌}
use lib.ListN.{length, length-append}
use Rattle.whole.proofs.Parts.{ints, abs_parts, one_part}
use Rattle.quantity.specs.Outcomes.{Outcome, Follows}
use Rattle.law.specs.declared.laws.Law.{Law}
use Rattle.law.specs.declared.laws.Law.TheVariants.{Curve, Scale}
use Rattle.law.specs.Subranges.{law_named}
use Rattle.law.specs.Answers.{LawAndStep, no_step}
use Rattle.certificate.specs.Certificate.{certificate_of}
use Rattle.reading.specs.Laws.{range_of}
use Rattle.reading.specs.Reading.{read_certificate}
use Rattle.reading.proofs.Ends.{tops}
use Rattle.reading.proofs.Demand.{largest_step}
use Rattle.reading.proofs.Unique.{read_unique}
use Rattle.text.specs.Decimal.{signed_decimal}
use Rattle.text.specs.Columns.{Value, well_formed, field_at, count_at}
use Rattle.text.proofs.Longest.{fields-short}
use Rattle.row.specs.Places.{given_at}
use Rattle.row.specs.Limits.{Limits, limits}
use Rattle.row.specs.Readings.{columns}
use Rattle.line.specs.Readings.{readings_up_to, readings, reading_room}
use Rattle.line.specs.Promised.{LinesKept, ReadingsShort}
use Rattle.line.proofs.Unique.{Small, lines_kept}
use Rattle.line.proofs.Short.{names_short, name-short, signed_few, small_row}

pub reading_row : (limits : Limits) (row : List Value) (o o' : Outcome LawAndStep) → Follows ((readings_up_to limits).rule row) o → Follows ((readings_up_to limits).rule row) o' → o ≡ o'
reading_row limits row = read_unique limits.largest (given_at 4 row) (count_at 2 row) (count_at 3 row)

-- ---- how many bytes an answer has
-- the steps of every law
ends : (law : Law) (value t : ℤ) → (range_of law).StepOf value t → (negsuc 1_999_999 ≤ℤ t) × (t ≤ℤ pos 9_617_800)
ends Curve value t l = (omega (ints, l.from_first), omega (ints, l.to_last))
ends (Scale s) value t h =
    let l = largest_step s value t h in
    (omega (ints, l.from_first), omega (ints, l.to_last, (tops s).1))

step_few : (z : ℤ) → (negsuc 1_999_999 ≤ℤ z) × (z ≤ℤ pos 9_617_800) → length (signed_decimal z) ≤ 8
step_few z h = signed_few 6 z (omega (ints, h.0, h.1, abs_parts z, one_part z))

small_reading : (row : List Value) (o : Outcome LawAndStep) → Follows (readings.rule row) o → Small readings 9 o
small_reading row =
    let k = given_at 4 row in
    let r = count_at 2 row in
    let r0 = count_at 3 row in
    small_row readings 9 no_step (law_named k.law.0) (λ law. read_certificate (certificate_of law k) r r0) (λ law. refl) (omega arith)
    (λ law e a n is. simp length-append (omega (arith, step_few a.step (ends law _ a.step is.1))))

short : (line : List ℕ) → well_formed columns line ≡ true → length (field_at 0 line) + length (field_at 1 line) ≤ 24
short line w = names_short _ name-short _ _ _ _ line w

pub readings_kept : LinesKept readings reading_room
readings_kept = lines_kept readings 9 (reading_row limits) small_reading short (omega arith) (omega arith)

pub readings-short : ReadingsShort
readings-short = fields-short readings.columns
