-- The lines of each of the bench's lists are answered as promised: once, in so many bytes, by a number of their own.
use mathlib.Core.Path.{◌≡◌, refl, sym}
use mathlib.Core.Bool.{Bool, true, false}
use mathlib.Core.List.{List, ◌++◌}
use Rattle.std.specs.Prelude.{None, Some}
use Rattle.std.proofs.lemmas.Option.{none-some}
use Prim.Native.Nat.{ℕ, ◌+◌, ◌*◌, ◌≤◌}
use Prim.Native.Char.{code}
use native.Mathlib.Omega.{arith}
use lib.Dec.{eqb}
use lib.IntN.{ℤ, nat_abs, ◌-ℤ◌}
use lib.Signed.{◌≤ℤ◌}
use lib.ListN.{length, length-append}
use Rattle.whole.specs.Choice.{if◌then◌otherwise◌}
use Rattle.whole.specs.Text.{ascii}
use Rattle.whole.specs.Largest.{Largest}
use Rattle.whole.proofs.Parts.{ints, sub_parts, abs_parts, one_part}
use Rattle.quantity.specs.Outcomes.{Outcome, number_given, Follows}
use Rattle.quantity.specs.Quantities.{ratio_of, largest_ratio}
use Rattle.quantity.specs.Ratios.{ratio_tests}
use Rattle.quantity.proofs.Outcomes.{both_pass, passed}
use Rattle.law.specs.declared.subrange.Subrange.{Subrange}
use Rattle.law.specs.declared.laws.Law.{Law}
use Rattle.law.specs.Subranges.{subrange_named, law_named}
use Rattle.law.specs.Ranges.{value_tests, step_tests}
use Rattle.law.specs.Answers.{LawAndRatio, no_ratio}
use Rattle.curve.specs.declared.tolerance.Class.{Class}
use Rattle.curve.specs.Curve.{exact, units, first, last}
use Rattle.curve.specs.Ways.{range}
use Rattle.curve.specs.Tolerance.{class_a, class_b, class_named, allows, LawAndResult, no_result, test_by_class}
use Rattle.quantity.specs.declared.resistance.Ratio.{Ratio}
use Rattle.certificate.specs.declared.record.Record.{Record}
use Rattle.certificate.specs.declared.soundness.Given.{Given}
use Rattle.certificate.specs.Certificate.{LawAndPlaces, no_places, held, certificate_of, sound_tests}
use Rattle.certificate.specs.Record.{made, record_of}
use Rattle.certificate.specs.Resistances.{outside, ratios_of, resistances_of}
use Rattle.certificate.proofs.Made.{made-sized}
use Rattle.reading.specs.Laws.{range_of}
use Rattle.reading.specs.Forward.{forward_certificate}
use Rattle.reading.proofs.LeastRatio.{inside, ratio_most}
use Rattle.text.specs.Columns.{Value, letter_at, integer_at, count_at}
use Rattle.text.proofs.Decimals.{few_digits}
use Rattle.row.specs.Places.{given_at}
use Rattle.row.specs.Limits.{limits}
use Rattle.row.specs.Records.{record_from}
use Rattle.row.specs.Resistances.{resistances_from}
use Rattle.line.specs.Writing.{commaed}
use Rattle.line.specs.Promised.{LinesKept}
use Rattle.line.proofs.Unique.{Small, lines_kept}
use Rattle.line.proofs.Short.{names_short, name-short, letter-short, signed_few, small_row}
use Rattle.bench.specs.Certificates.{places_written, records, resistances}
use Rattle.bench.specs.Forward.{steps}
use Rattle.bench.specs.Tolerances.{result_word, tolerances}
use Rattle.bench.proofs.Unique.{record_row, resistances_row, step_row, test_row}
use Rattle.bench.specs.Rooms.{certificate_room, ratio_room, result_room}

-- how many bytes the own columns of an answer take, a comma after each counted
abbrev places_bytes : ℕ
places_bytes = 4 * 11 + 11

abbrev ratio_bytes : ℕ
ratio_bytes = 11

abbrev result_bytes : ℕ
result_bytes = 5 + 10

-- ---- certificates
places-short : (s : Subrange) (ratios : Record Ratio) (a : LawAndPlaces) → number_given (record_of s ratios).tests ≡ 0 → a ≡ held (made s ratios) → length (commaed (places_written a.places)) ≤ places_bytes
places-short s ratios a e is =
    let k = (made s ratios).places in
    let sized = made-sized s ratios e in
    rw is (simp length-append (omega (
      arith,
      signed_few 8 k.a (omega (arith, sized.small.a)),
      signed_few 8 k.b (omega (arith, sized.small.b)),
      signed_few 8 k.c (omega (arith, sized.small.c)),
      signed_few 8 k.d (omega (arith, sized.small.d)),
      few_digits 9 k.wal.0 (omega (arith, sized.aluminium)),
    )))

small_record : (row : List Value) (o : Outcome LawAndPlaces) → Follows (records.rule row) o → Small records places_bytes o
small_record row =
    let cells = record_from row in
    small_row records places_bytes no_places (subrange_named cells.subrange.0) (λ s. record_of s cells) (λ s. refl) (omega arith) (λ s n a. places-short s cells a)

pub records_kept : LinesKept records certificate_room
records_kept = lines_kept records places_bytes record_row small_record (names_short _ name-short _ _ _ _) (omega arith) (omega arith)

small-resistances : (row : List Value) (o : Outcome LawAndPlaces) → Follows (resistances.rule row) o → Small resistances places_bytes o
small-resistances row =
    let cells = resistances_from row in
    small_row resistances places_bytes no_places (subrange_named cells.subrange.0) (λ s. resistances_of s cells) (λ s. refl) (omega arith)
    (λ s n a e. places-short s (ratios_of cells) a (passed (outside cells) 1 (record_of s (ratios_of cells)).tests (omega arith) e).1)

pub resistances_kept : LinesKept resistances certificate_room
resistances_kept = lines_kept resistances places_bytes (resistances_row limits) small-resistances (names_short _ name-short _ _ _ _) (omega arith) (omega arith)

-- ---- steps taken forward
ratio-short : (given : Given) (step : ℤ) (law : Law) (a : LawAndRatio) → number_given (forward_certificate (certificate_of law given) step).tests ≡ 0
    → (forward_certificate (certificate_of law given) step).Answer a → length (commaed (steps.written a)) ≤ ratio_bytes
ratio-short given step law a e h =
    let inside-range = (both_pass (sound_tests (certificate_of law given)) (step_tests (range_of law).bottom (range_of law).top step) refl e).1 in
    let w : a.ratio ≤ largest_ratio = ratio_most law given.places step a.ratio inside-range h.1 in
    simp length-append (omega (arith, few_digits 9 a.ratio (omega arith)))

small-step : (row : List Value) (o : Outcome LawAndRatio) → Follows (steps.rule row) o → Small steps ratio_bytes o
small-step row =
    let given = given_at 3 row in
    small_row steps ratio_bytes no_ratio (law_named given.law.0) (λ law. forward_certificate (certificate_of law given) (integer_at 2 row)) (λ law. refl) (omega arith)
    (λ law n. ratio-short given (integer_at 2 row) law)

pub steps_kept : LinesKept steps ratio_room
steps_kept = lines_kept steps ratio_bytes step_row small-step (names_short _ name-short _ _ _ _) (omega arith) (omega arith)

-- ---- tolerance tests
some_is : (class class' : Class) → Some class ≡ Some class' → class ≡ class'
some_is class class' e = cc

-- no class goes past the curve
class_top : (letter : ℕ) (class : Class) → class_named letter ≡ Some class → class.top ≤ℤ last
class_top letter class = by (eqb letter (code "A")) (eqb letter (code "B"))
  where
    by : (a b : Bool) → (if a then Some class_a otherwise if b then Some class_b otherwise None) ≡ Some class → class.top ≤ℤ last
    by true b e = let is : class_a ≡ class = some_is class_a class e in rw (sym is) (omega ints)
    by false true e = let is : class_b ≡ class = some_is class_b class e in rw (sym is) (omega ints)
    by false false e = absurd (none-some class e)

-- the curve's step less the bath's
error-small : (bath value step : ℤ) → first ≤ℤ bath → bath ≤ℤ last → Largest exact first last value step → nat_abs (step -ℤ bath) ≤ 10_500_000
error-small bath value step p q l = omega (ints, l.from_first, l.to_last, sub_parts step bath, abs_parts (step -ℤ bath), one_part (step -ℤ bath))

pub word_few : (passes : Bool) → length (result_word passes ++ ascii ",") ≤ 5
word_few true = omega arith
word_few false = omega arith

result_short : (bath : ℤ) (r r0 : ℕ) (class : Class) → class.top ≤ℤ last → (a : LawAndResult) → number_given (test_by_class class bath r r0).tests ≡ 0
    → (test_by_class class bath r r0).Answer a → length (commaed (tolerances.written a)) ≤ result_bytes
result_short bath r r0 class top a e (step, l, is) =
    let value = units (ratio_of r r0) in
    let within = inside first class.top bath (both_pass (step_tests first class.top bath) (ratio_tests r r0 ++ value_tests range value) refl e).0 in
    let error = error-small bath value step within.0 (omega (ints, within.1)) l in
    rw is (simp length-append (omega (arith, simp length-append at (word_few (allows class bath (step -ℤ bath))), signed_few 7 (step -ℤ bath) (omega arith))))

small_test : (row : List Value) (o : Outcome LawAndResult) → Follows (tolerances.rule row) o → Small tolerances result_bytes o
small_test row =
    let letter = letter_at 1 row in
    small_row tolerances result_bytes no_result (class_named letter) (λ class. test_by_class class (integer_at 2 row) (count_at 3 row) (count_at 4 row)) (λ class. refl) (omega arith)
    (λ class n. result_short (integer_at 2 row) (count_at 3 row) (count_at 4 row) class (class_top letter class n))

pub results_kept : LinesKept tolerances result_room
results_kept = lines_kept tolerances result_bytes (test_row limits) small_test (names_short _ letter-short _ _ _ _) (omega arith) (omega arith)
