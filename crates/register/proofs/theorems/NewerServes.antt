-- A newer certificate takes the old one's place.
use mathlib.Core.Path.{◌≡◌, refl, ◌∙◌}
use mathlib.Core.Bool.{Bool, true, false, ◌&&◌, not}
use mathlib.Core.List.{[], ◌∷◌}
use Prim.Native.Nat.{ℕ, ◌<◌}
use native.Mathlib.Omega.{arith}
use borrow.Author.Tests.{eq-eqb, ne_eqb, lt-ltb}
use lib.Dec.{ltb}
use Rattle.whole.specs.Choice.{if◌then◌otherwise◌}
use Rattle.quantity.specs.Outcomes.{Outcome, Follows}
use Rattle.law.specs.Answers.{LawAndStep}
use Rattle.reading.specs.Reading.{read_given}
use Rattle.entry.specs.declared.entry.Entry.{Entry}
use Rattle.entry.specs.Entry.{same, is_free, is_live, clash, merged, joined}
use Rattle.examination.specs.Answering.{read_entry}
use Rattle.examination.proofs.Readings.{past_20}
use Rattle.register.specs.Table.{entry_of}
use Rattle.register.specs.Import.{import_refusal, imported}
use Rattle.register.specs.Reading.{ReadThrough}
use Rattle.register.specs.Promised.{NewerServes}
use Rattle.register.proofs.lists.JoinedEntries.{higher_is}
use Rattle.register.proofs.lists.PassedTests.{import-accepted}
use Rattle.register.proofs.theorems.ImportedTable.{import-good, import_joins}

-- ---- an entry of a higher serial than the one that is held
module _ (held e : Entry) (s : held.serial.0 < e.serial.0) where
  -- does not clash with it
  newer-clash : clash held e ≡ false
  newer-clash = rw (ne_eqb held.serial.0 e.serial.0 (λ q. omega (arith, q, s))) (by (is_free held))
    where
      by : (f : Bool) → (not f && false && not (same held.certificate e.certificate)) ≡ false
      by true = refl
      by false = refl

  -- brings its certificate
  newer-certificate : (joined held e).certificate ≡ e.certificate
  newer-certificate = by (is_free held)
    where
      by : (f : Bool) → (if f then e otherwise merged held e).certificate ≡ e.certificate
      by true = refl
      by false = rw (lt-ltb held.serial.0 e.serial.0 s)

  -- and is live where its serial is above both marks
  newer-live : is_free e ≡ false → held.mark.0 < e.serial.0 → e.mark.0 < e.serial.0 → is_live (joined held e) ≡ true
  newer-live named m own = by (is_free held) refl
    where
      above : (merged held e).mark.0 < (merged held e).serial.0
      above = omega (arith, s, m, own, higher_is held.mark e.mark, higher_is held.serial e.serial)

      by : (f : Bool) → is_free held ≡ f → is_live (if f then e otherwise merged held e) ≡ true
      by true f = rw (named, lt-ltb e.mark.0 e.serial.0 own)
      by false f =
          let t : ltb (merged held e).mark.0 (merged held e).serial.0 ≡ true = lt-ltb (merged held e).mark.0 (merged held e).serial.0 above in
          rw (f, t)

pub newer_serves : NewerServes
newer_serves table e bad named good room s m own = (made, reads)
  where
    n : ℕ
    n = e.number.0

    held : Entry
    held = entry_of table n

    made : import_refusal table (e ∷ []) ≡ 0
    made =
        import-accepted table (e ∷ []) (record {
          good_table = bad;
          all_known = rw good;
          all_sound = rw good;
          all_fit = rw named;
          no_clashes = rw (newer-clash held e s);
          all_find_room = room;
        })

    left : entry_of (imported table (e ∷ [])) n ≡ joined held e
    left = import_joins table (e ∷ []) n named made ∙ rw (eq-eqb n n refl)

    reads : (r r0 : ℕ) (o : Outcome LawAndStep) → ReadThrough (imported table (e ∷ [])) n r r0 o → Follows (read_given e.certificate r r0) o
    reads r r0 o h =
        let k : Follows (read_entry false (joined held e) r r0) o = rw (import-good table (e ∷ []) bad, left) at h in
        rw (newer-certificate held e s) at (past_20 (joined held e) r r0 o (newer-live held e s named m own) k)
