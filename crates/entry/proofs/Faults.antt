-- The number by which a given certificate is refused, by what its name names.
use mathlib.Core.Path.{◌≡◌, refl}
use mathlib.Core.Bool.{Bool, true, false, ◌||◌, not}
use Rattle.std.specs.Prelude.{Option, None, Some}
use Prim.Native.Nat.{ℕ}
use lib.Dec.{eqb}
use Rattle.whole.specs.Choice.{if◌then◌otherwise◌}
use Rattle.quantity.specs.Outcomes.{number_given, if_named}
use Rattle.law.specs.declared.laws.Law.{Law}
use Rattle.law.specs.Subranges.{law_named}
use Rattle.certificate.specs.declared.soundness.Given.{Given}
use Rattle.certificate.specs.Certificate.{certificate_of, sound, no_places, given_by}
use Rattle.entry.specs.Entry.{is_unknown, is_unsound, is_bad}

abbrev pub fault_by : Option Law → Given → ℕ
fault_by named k = number_given (if_named no_places named (λ law. given_by law k)).tests

-- a known law is no 3, and a 7 is what is not sound
pub known_no_3 : (law : Law) (k : Given) → eqb (fault_by (Some law) k) 3 ≡ false
known_no_3 law k = by (sound (certificate_of law k))
  where
    by : (t : Bool) → eqb (if not t then 7 otherwise 0) 3 ≡ false
    by true = refl
    by false = refl

pub known_7 : (law : Law) (k : Given) → eqb (fault_by (Some law) k) 7 ≡ not (sound (certificate_of law k))
known_7 law k = by (sound (certificate_of law k))
  where
    by : (t : Bool) → eqb (if not t then 7 otherwise 0) 7 ≡ not t
    by true = refl
    by false = refl

-- what is refused is refused by 3 or by 7
pub bad_by : (k : Given) → (is_unknown k || is_unsound k) ≡ is_bad k
bad_by k = by (law_named k.law.0)
  where
    known : (t : Bool) → (eqb (if not t then 7 otherwise 0) 3 || eqb (if not t then 7 otherwise 0) 7) ≡ not (eqb (if not t then 7 otherwise 0) 0)
    known true = refl
    known false = refl

    by : (named : Option Law) → (eqb (fault_by named k) 3 || eqb (fault_by named k) 7) ≡ not (eqb (fault_by named k) 0)
    by None = refl
    by (Some law) = known (sound (certificate_of law k))
