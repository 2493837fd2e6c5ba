-- A certificate, whether it is sound, and what is answered to a given one.
use Rattle.std.specs.Prelude.{◌≡◌, Bool, ◌&&◌, not, List, [], ◌∷◌, ℕ, leb, ltb, eqb, ℤ, pos, nat_abs, Option, None, Some, Err, Ok, Result}
use Rattle.whole.specs.Choice.{if◌then◌otherwise◌}
use Rattle.quantity.specs.Refusals.{number_of}
use Rattle.quantity.specs.Outcomes.{Outcome, answered, refused, Test, ◌gives◌, Rule, if_named}
use Rattle.law.specs.declared.cell.Cell.TheVariants as cell
use Rattle.law.specs.declared.laws.Law.{Law}
use Rattle.law.specs.Cells.{Wr}
use Rattle.law.specs.Subranges.{law_name, law_named, law_coefficients, law_silver}
use Rattle.deviation.specs.declared.places.Places.{Places}
use Rattle.deviation.specs.Limits.{within, largest_coefficient}
use Rattle.certificate.specs.declared.soundness.Given.{Given}
use Rattle.certificate.specs.declared.soundness.Certificate.{Certificate}
use Rattle.quantity.specs.declared.refusal.Refusal.{Refusal}

-- Places 0 to 3 are a to d. Each of the first `used` keeps the limit, any other holds 0.
abbrev pub place_kept : ℕ → ℕ → ℤ → Bool
place_kept used place value = if ltb place used then leb (nat_abs value) largest_coefficient otherwise eqb (nat_abs value) 0

-- W(Al) keeps its deviation limit in an ag certificate and is 0 in any other.
abbrev pub aluminium_kept : Law → ℕ → Bool
aluminium_kept law wal = if law_silver law then within (Wr cell.Al) wal otherwise eqb wal 0

-- Each used place keeps its limit and each unused one is 0.
abbrev pub sound : Certificate → Bool
sound k =
    let used = law_coefficients k.law in
    let p = k.places in
    place_kept used 0 p.a && place_kept used 1 p.b && place_kept used 2 p.c && place_kept used 3 p.d && aluminium_kept k.law p.wal.0

-- 7: a certificate is not sound.
abbrev pub sound_tests : Certificate → List Test
sound_tests k = not (sound k) gives 7 ∷ []

-- A given certificate with its law known, and a certificate as it is given.
abbrev pub certificate_of : Law → Given → Certificate
certificate_of law given = record { law = law; places = given.places }

abbrev pub given_of : Certificate → Given
given_of k = record { law = record { 0 = law_name k.law }; places = k.places }

-- What is answered: the law and the places. A refusal names no law and holds zeros.
pub record LawAndPlaces : Type 0 where
  pub law : Option Law
  pub places : Places

abbrev pub no_places : LawAndPlaces
no_places = record { law = None; places = record { a = pos 0; b = pos 0; c = pos 0; d = pos 0; wal = record { 0 = 0 } } }

abbrev pub held : Certificate → LawAndPlaces
held k = record { law = Some k.law; places = k.places }

-- What each case of an answer stands for.
abbrev pub stated : Result Certificate Refusal → Outcome LawAndPlaces
stated (Ok k) = answered (held k)
stated (Err why) = refused no_places (number_of why)

-- Of a known law: 7, else the certificate itself.
abbrev pub given_by : Law → Given → Rule LawAndPlaces
given_by law given =
    let k = certificate_of law given in
    record { tests = sound_tests k; zeros = no_places; Answer = λ a. a ≡ held k }

-- 3: no law has the name; then 7.
abbrev pub given_rule : Given → Rule LawAndPlaces
given_rule given = if_named no_places (law_named given.law.0) (λ law. given_by law given)
