-- An import and a withdrawal keep the places of a table: there are as many, and a thermometer stays at the one that it has.
use mathlib.Core.Path.{◌≡◌, refl, sym, ◌∙◌, ap}
use mathlib.Core.Bool.{Bool, true, false}
use mathlib.Core.List.{List, [], ◌∷◌}
use Prim.Native.Nat.{ℕ, zero, suc}
use borrow.Author.Tests.{eqb-true}
use lib.Dec.{eqb}
use lib.ListN.{length, get_or}
use Rattle.whole.specs.Choice.{if◌then◌otherwise◌}
use Rattle.entry.specs.declared.entry.Entry.{Entry}
use Rattle.entry.specs.declared.entry.Serial.{Serial}
use Rattle.entry.specs.Entry.{is_free, free, joined, raised}
use Rattle.register.specs.Table.{has, entry_of, put}
use Rattle.register.specs.Import.{placed, placed_all, import_refusal, imported}
use Rattle.register.specs.Withdrawal.{withdrawal_refusal, withdrawn}
use Rattle.register.specs.Promised.{Keeps, KeepsPlaces}
use Rattle.register.proofs.lists.TableEntries.{entry_there}
use Rattle.register.proofs.lists.PassedTests.{withdrawal_passed}
use Rattle.register.proofs.lists.JoinedEntries.{joined-held}

keeps_self : (table : List Entry) → Keeps table table
keeps_self table = record { as_many = refl; stays = λ place f. refl }

-- ---- an entry put at a place
put-length : (es : List Entry) (n : ℕ) (x : Entry) → length (put es n x) ≡ length es
put-length [] n x = refl
put-length (y ∷ ys) n x = by (has n y) (put-length ys n x)
  where
    by : (t : Bool) → length (put ys n x) ≡ length ys → length (if t then x ∷ ys otherwise y ∷ put ys n x) ≡ suc (length ys)
    by true rest = refl
    by false rest = ap suc rest

-- where it has the number of what it takes the place of
module _ (n : ℕ) (x : Entry) (own : (y : Entry) → has n y ≡ true → is_free y ≡ false → x.number ≡ y.number) where
  put-stays : (es : List Entry) (place : ℕ) → is_free (get_or es place free) ≡ false → (get_or (put es n x) place free).number ≡ (get_or es place free).number
  put-stays [] place f = refl
  put-stays (y ∷ ys) place f = by (has n y) refl (λ p. put-stays ys p) place f
    where
      by : (t : Bool) → has n y ≡ t → ((place : ℕ) → is_free (get_or ys place free) ≡ false → (get_or (put ys n x) place free).number ≡ (get_or ys place free).number)
          → (place : ℕ) → is_free (get_or (y ∷ ys) place free) ≡ false
          → (get_or (if t then x ∷ ys otherwise y ∷ put ys n x) place free).number ≡ (get_or (y ∷ ys) place free).number
      by true h rest zero f = own y h f
      by true h rest (suc place) f = refl
      by false h rest zero f = refl
      by false h rest (suc place) f = rest place f

  put_keeps : (es : List Entry) → Keeps es (put es n x)
  put_keeps es = record { as_many = put-length es n x; stays = put-stays es }

-- ---- entries that come in
placed-keeps : (table : List Entry) (e : Entry) → Keeps table (placed table e)
placed-keeps table e = put_keeps held.number.0 (joined held e) own table
  where
    held : Entry
    held = entry_of table e.number.0

    -- where a place is not free, its number is held, and what is merged keeps it
    own : (y : Entry) → has held.number.0 y ≡ true → is_free y ≡ false → (joined held e).number ≡ y.number
    own y h f =
        let q : y.number.0 ≡ held.number.0 = eqb-true y.number.0 held.number.0 h in
        let named : is_free held ≡ false = rw q at f in
        ap (λ (z : Entry). z.number) (joined-held held e named) ∙ (λ i. record { 0 = sym q i })

keeps_more : (table between left : List Entry) → Keeps table between → Keeps between left → Keeps table left
keeps_more table between left a b = record { as_many = b.as_many ∙ a.as_many; stays = more }
  where
    more : (place : ℕ) → is_free (get_or table place free) ≡ false → (get_or left place free).number ≡ (get_or table place free).number
    more place f =
        let q : (get_or between place free).number ≡ (get_or table place free).number = a.stays place f in
        b.stays place (rw q f) ∙ q

placed_all_keeps : (table list : List Entry) → Keeps table (placed_all table list)
placed_all_keeps table [] = keeps_self table
placed_all_keeps table (e ∷ es) =
    let between : List Entry = placed table e in
    keeps_more table between (placed_all between es) (placed-keeps table e) (placed_all_keeps between es)

import_keeps : (table list : List Entry) → Keeps table (imported table list)
unfolding imported
import_keeps table list = by (eqb (import_refusal table list) 0)
  where
    by : (t : Bool) → Keeps table (if t then placed_all table list otherwise table)
    by true = placed_all_keeps table list
    by false = keeps_self table

-- ---- a withdrawal
withdrawal_keeps : (table : List Entry) (n : ℕ) (serial : Serial) → Keeps table (withdrawn table n serial)
unfolding withdrawn
withdrawal_keeps table n serial = by (eqb (withdrawal_refusal table n) 0) refl
  where
    held : Entry
    held = entry_of table n

    own : withdrawal_refusal table n ≡ 0 → (y : Entry) → has n y ≡ true → is_free y ≡ false → (raised held serial).number ≡ y.number
    own a y h f =
        let p : held.number.0 ≡ n = (entry_there table n (withdrawal_passed table n a).1).1 in
        let q : y.number.0 ≡ n = eqb-true y.number.0 n h in
        let s : held.number.0 ≡ y.number.0 = p ∙ sym q in
        λ i. record { 0 = s i }

    by : (t : Bool) → eqb (withdrawal_refusal table n) 0 ≡ t → Keeps table (if t then put table n (raised held serial) otherwise table)
    by true a = put_keeps n (raised held serial) (own (eqb-true (withdrawal_refusal table n) 0 a)) table
    by false a = keeps_self table

pub keeps-places : KeepsPlaces
keeps-places = (import_keeps, withdrawal_keeps)
