-- An entry of the register: a thermometer's number, the certificate and its serial, and the mark, the serial up to which certificates are withdrawn.
use Rattle.std.specs.Prelude.{Bool, ◌&&◌, not, ℕ, eqb, ltb}
use Rattle.std.specs.Ordering.{int_eq}
use Rattle.whole.specs.Choice.{if◌then◌otherwise◌}
use Rattle.quantity.specs.Outcomes.{number_given}
use Rattle.deviation.specs.declared.places.Places.{Places}
use Rattle.certificate.specs.declared.soundness.Given.{Given}
use Rattle.certificate.specs.Certificate.{no_places, given_rule}
use Rattle.entry.specs.declared.entry.Serial.{Serial}
use Rattle.entry.specs.declared.entry.Entry.{Entry}

-- The number that refuses a certificate: 3 where no law has its name, 7 where it is not sound; 0 where it is good.
abbrev pub fault : Given → ℕ
fault k = number_given (given_rule k).tests

abbrev pub is_unknown : Given → Bool
is_unknown k = eqb (fault k) 3

abbrev pub is_unsound : Given → Bool
is_unsound k = eqb (fault k) 7

abbrev pub is_bad : Given → Bool
is_bad k = not (eqb (fault k) 0)

-- The same certificate: one law by its name, and one number in each place.
abbrev pub same_places : Places → Places → Bool
same_places p q = int_eq p.a q.a && int_eq p.b q.b && int_eq p.c q.c && int_eq p.d q.d && eqb p.wal.0 q.wal.0

abbrev pub same : Given → Given → Bool
same k l = eqb k.law.0 l.law.0 && same_places k.places l.places

-- Number 0 is a free place.
abbrev pub is_free : Entry → Bool
is_free e = eqb e.number.0 0

-- What is held of a thermometer that has no place.
abbrev pub free : Entry
free =
    record {
      number = record { 0 = 0 };
      serial = record { 0 = 0 };
      mark = record { 0 = 0 };
      certificate = record { law = record { 0 = 0 }; places = no_places.places };
    }

-- A thermometer's certificate is live exactly when its serial is above the mark.
abbrev pub is_live : Entry → Bool
is_live e = not (is_free e) && ltb e.mark.0 e.serial.0

-- One serial with two certificates, one of them held.
abbrev pub clash : Entry → Entry → Bool
clash held e = not (is_free held) && eqb held.serial.0 e.serial.0 && not (same held.certificate e.certificate)

abbrev pub higher : Serial → Serial → Serial
higher x y = if ltb x.0 y.0 then y otherwise x

-- Two entries of one thermometer: the higher serial with its certificate, and the higher mark.
abbrev pub merged : Entry → Entry → Entry
merged held e =
    record {
      number = held.number;
      serial = higher held.serial e.serial;
      mark = higher held.mark e.mark;
      certificate = if ltb held.serial.0 e.serial.0 then e.certificate otherwise held.certificate;
    }

-- What is held of a thermometer once an entry has come in: a new one's entry, else the two merged.
abbrev pub joined : Entry → Entry → Entry
joined held e = if is_free held then e otherwise merged held e

-- A withdrawal raises the mark to a serial and never lowers it.
abbrev pub raised : Entry → Serial → Entry
raised held serial =
    record {
      number = held.number;
      serial = held.serial;
      mark = higher held.mark serial;
      certificate = held.certificate;
    }
