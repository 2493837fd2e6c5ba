-- Lists of records, which become certificates, and what is written of one.
use Rattle.std.specs.Prelude.{List, [], ◌∷◌, ◌++◌, ℕ, Err, Ok, Result, Option}
use Prim.Native.String.{String}
use Rattle.whole.specs.Text.{ascii}
use Rattle.quantity.specs.Refusals.{number_of}
use Rattle.deviation.specs.declared.places.Places.{Places}
use Rattle.quantity.specs.declared.refusal.Refusal.{Refusal}
use Rattle.certificate.specs.declared.soundness.Certificate.{Certificate}
use Rattle.certificate.specs.Certificate.{LawAndPlaces}
use Rattle.certificate.specs.Record.{record_rule}
use Rattle.certificate.specs.Resistances.{resistances_rule_up_to}
use Rattle.quantity.specs.Outcomes.{Rule}
use Rattle.text.specs.Decimal.{decimal, signed_decimal}
use Rattle.text.specs.Columns.{Column, Value}
use Rattle.row.specs.Limits.{Limits, limits}
use Rattle.row.specs.Records as ratios
use Rattle.row.specs.Resistances as pairs
use Rattle.line.specs.declared.lent.LineAnswer.{LineAnswer}
use Rattle.line.specs.Kinds.{Kind, blanks}
use Rattle.line.specs.Lent.{PlacedAs}
use Rattle.line.specs.Writing.{commaed, refused_text}

-- The places of a certificate, a to d and W(Al), each in its column.
abbrev pub places_written : Places → List (List ℕ)
places_written k = signed_decimal k.a ∷ signed_decimal k.b ∷ signed_decimal k.c ∷ signed_decimal k.d ∷ decimal k.wal.0 ∷ []

abbrev pub place_titles : List String
place_titles = "a" ∷ "b" ∷ "c" ∷ "d" ∷ "wal" ∷ []

-- A list whose rows become certificates.
abbrev pub certificates : List Column → (List Value → Rule LawAndPlaces) → Kind
certificates columns rule = record {
  columns = columns;
  second = "law";
  own = place_titles;
  Answer = LawAndPlaces;
  rule = rule;
  written = λ a. places_written a.places;
}

-- A list of records of ratios, and one of records given as resistances.
abbrev pub records : Kind
records = certificates ratios.columns (λ row. record_rule (ratios.record_from row))

abbrev pub resistances_up_to : Limits → Kind
resistances_up_to most = certificates (pairs.columns_up_to most.digits) (λ row. resistances_rule_up_to most.largest (pairs.resistances_from row))

abbrev pub resistances : Kind
resistances = resistances_up_to limits

-- What an inner function writes of a record's answer, after its names.
abbrev pub CertificatePlaced : Result Certificate Refusal → List ℕ → List ℕ → List ℕ → Option LineAnswer → Type 0
CertificatePlaced (Ok k) names out out' x = PlacedAs 0 (names ++ commaed (places_written k.places) ++ ascii "0\r\n") out out' x
CertificatePlaced (Err why) names out out' x = PlacedAs (number_of why) (refused_text names (commaed (blanks place_titles)) (number_of why)) out out' x
