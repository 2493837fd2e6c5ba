-- A certificate in the columns of a row.
use Rattle.std.specs.Prelude.{List, ℕ, ◌+◌}
use Rattle.deviation.specs.declared.places.Places.{Places}
use Rattle.certificate.specs.declared.soundness.Given.{Given}
use Rattle.text.specs.Columns.{Value, name_at, integer_at, count_at}

-- The most digits of a number in a list, unless it is a resistance.
abbrev pub digits : ℕ
digits = 13

-- The places a, b, c, d and W(Al), in five columns from a place on.
abbrev pub places_at : ℕ → List Value → Places
places_at n row = record {
  a = integer_at n row;
  b = integer_at (n + 1) row;
  c = integer_at (n + 2) row;
  d = integer_at (n + 3) row;
  wal = record { 0 = count_at (n + 4) row };
}

-- The certificate of a row: its law is named in the second column.
abbrev pub given_at : ℕ → List Value → Given
given_at n row = record { law = record { 0 = name_at 1 row }; places = places_at n row }
