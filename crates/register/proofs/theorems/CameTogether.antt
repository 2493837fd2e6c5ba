-- Whatever is held of a thermometer came for it, with its serial and its certificate.
use mathlib.Core.Path.{◌≡◌, refl, sym, ◌∙◌, ap}
use mathlib.Core.Bool.{Bool, true, false, true≢false}
use mathlib.Core.List.{List, [], ◌∷◌}
use Prim.Native.Nat.{ℕ, ◌<◌}
use native.Mathlib.Decide.{dec_lt}
use native.Mathlib.Omega.{arith}
use borrow.Author.Tests.{eqb-true, ltb-true}
use lib.Dec.{eqb, ltb}
use lib.ListN.{length}
use Rattle.whole.specs.Choice.{if◌then◌otherwise◌}
use Rattle.entry.specs.declared.entry.Entry.{Entry}
use Rattle.entry.specs.declared.entry.Serial.{Serial}
use Rattle.entry.specs.Entry.{is_free, merged, joined, raised}
use Rattle.register.specs.Table.{first_at, entry_of}
use Rattle.register.specs.Import.{import_refusal, imported}
use Rattle.register.specs.Withdrawal.{withdrawal_refusal, withdrawn}
use Rattle.register.specs.Promised.{Act, Import, Withdraw, after, after_all, StoodIn, CameIn, at_first, now, later, CameTogether}
use Rattle.register.proofs.lists.TableEntries.{Sought, there, missing, sought, entry_there}
use Rattle.register.proofs.lists.NumberPlace.{entry-at-place, entry-past-end}
use Rattle.register.proofs.theorems.ImportedTable.{import-refused, import_joins}
use Rattle.register.proofs.theorems.WithdrawnTable.{withdrawal-refused, withdrawal_raises}

-- two entries of one thermometer with one serial and one certificate
record Matches (held e : Entry) : Type 0 where
  named : is_free held ≡ false
  number : held.number ≡ e.number
  serial : held.serial ≡ e.serial
  certificate : held.certificate ≡ e.certificate

-- such a one is what a list holds of a thermometer
abbrev Held : List Entry → ℕ → Entry → Type 0
Held entries n e = Matches (entry_of entries n) e

-- it stands in the list then
held_stood : (entries : List Entry) (n : ℕ) (e : Entry) → Held entries n e → StoodIn entries e
held_stood entries n e h = by (dec_lt (first_at entries n) (length entries))
  where
    by : Dec (first_at entries n < length entries) → StoodIn entries e
    by (yes l) =
        let f = entry-at-place entries n (first_at entries n) refl l in
        record {
          place = first_at entries n;
          there = l;
          number_is = ap (λ (x : Entry). x.number) f ∙ h.number;
          serial_is = ap (λ (x : Entry). x.serial) f ∙ h.serial;
          certificate_is = ap (λ (x : Entry). x.certificate) f ∙ h.certificate;
        }
    by (no l) = absurd (true≢false (ap is_free (entry-past-end entries n (first_at entries n) refl (omega arith)) ∙ h.named))

-- ---- one act
-- What is held after it was held before, or by the list that was accepted.
data From (table : List Entry) (n : ℕ) (e : Entry) : Act → Type 0 where
  kept : (act : Act) → Held table n e → From table n e act
  brought : (list : List Entry) → import_refusal table list ≡ 0 → Held list n e → From table n e (Import list)

-- What is joined of two has the serial and the certificate of one of them.
joined_from : (table list : List Entry) (n : ℕ) (e : Entry) → import_refusal table list ≡ 0 → Matches (joined (entry_of table n) (entry_of list n)) e → From table n e (Import list)
joined_from table list n e accepted = by (is_free a) refl (ltb a.serial.0 b.serial.0) refl
  where
    a : Entry
    a = entry_of table n

    b : Entry
    b = entry_of list n

    -- the two merged, the second's serial being the higher or not
    one : Bool → Entry
    one t =
        record {
          number = a.number;
          serial = if t then b.serial otherwise a.serial;
          mark = (merged a b).mark;
          certificate = if t then b.certificate otherwise a.certificate;
        }

    -- an entry above another's serial is no free place
    above : a.serial.0 < b.serial.0 → Sought list n b → b.number.0 ≡ n
    above l (there m k) = k
    above l (missing f k) =
        let s : b.serial.0 ≡ 0 = ap (λ (x : Entry). x.serial.0) f in
        absurd (omega (arith, l, s))

    by : (f : Bool) → is_free a ≡ f → (t : Bool) → ltb a.serial.0 b.serial.0 ≡ t
        → Matches (if f then b otherwise one t) e
        → From table n e (Import list)
    by true f t l h = brought list accepted h
    by false f false l h = kept (Import list) (record { named = f; number = h.number; serial = h.serial; certificate = h.certificate })
    by false f true l h =
        let p : a.number.0 ≡ n = (entry_there table n f).1 in
        let q : b.number.0 ≡ n = above (ltb-true a.serial.0 b.serial.0 l) (sought list n) in
        let s : b.number.0 ≡ a.number.0 = q ∙ sym p in
        let named : is_free b ≡ false = ap (λ (m : ℕ). eqb m 0) s ∙ f in
        brought list accepted (record { named = named; number = (λ i. record { 0 = s i }) ∙ h.number; serial = h.serial; certificate = h.certificate })

import_from : (table list : List Entry) (n : ℕ) (e : Entry) → Held (imported table list) n e → From table n e (Import list)
import_from table list n e h = by (eqb (import_refusal table list) 0) refl
  where
    by : (t : Bool) → eqb (import_refusal table list) 0 ≡ t → From table n e (Import list)
    by false r = kept (Import list) (rw (import-refused table list r) at h)
    by true r =
        let z : eqb n 0 ≡ false = rw (entry_there (imported table list) n h.named).1 at h.named in
        let accepted : import_refusal table list ≡ 0 = eqb-true (import_refusal table list) 0 r in
        joined_from table list n e accepted (rw (import_joins table list n z accepted) at h)

-- A withdrawal changes a mark only.
withdrawal_from : (table : List Entry) (i : ℕ) (serial : Serial) (n : ℕ) (e : Entry) → Held (withdrawn table i serial) n e → Held table n e
withdrawal_from table i serial n e h = by (eqb (withdrawal_refusal table i) 0) refl (eqb i n) refl
  where
    own : withdrawal_refusal table i ≡ 0 → Held (withdrawn table i serial) i e → Held table i e
    own r h =
        let k : Matches (raised (entry_of table i) serial) e = rw (withdrawal_raises table i serial r).0 at h in
        record { named = k.named; number = k.number; serial = k.serial; certificate = k.certificate }

    by : (t : Bool) → eqb (withdrawal_refusal table i) 0 ≡ t → (s : Bool) → eqb i n ≡ s → Held table n e
    by false r s q = rw (withdrawal-refused table i serial r) at h
    by true r false q = rw ((withdrawal_raises table i serial (eqb-true (withdrawal_refusal table i) 0 r)).1 n q) at h
    by true r true q =
        let same : i ≡ n = eqb-true i n q in
        let before : Held table i e = own (eqb-true (withdrawal_refusal table i) 0 r) (rw (sym same) at h) in
        rw same at before

act_from : (table : List Entry) (act : Act) (n : ℕ) (e : Entry) → Held (after table act) n e → From table n e act
act_from table (Import list) n e h = import_from table list n e h
act_from table (Withdraw i serial) n e h = kept (Withdraw i serial) (withdrawal_from table i serial n e h)

-- ---- any number of acts
-- What is held after them was held at first, or came since, whatever was held at first.
data Came (table : List Entry) (n : ℕ) (e : Entry) (acts : List Act) : Type 0 where
  held : Held table n e → Came table n e acts
  since : ((first : List Entry) → CameIn first e table acts) → Came table n e acts

came : (table : List Entry) (acts : List Act) (n : ℕ) (e : Entry) → Held (after_all table acts) n e → Came table n e acts
came table [] n e h = held h
came table (act ∷ acts) n e h = by (came (after table act) acts n e h)
  where
    first-act : (act : Act) → From table n e act → Came table n e (act ∷ acts)
    first-act act (kept _ h) = held h
    first-act act (brought list accepted h) = since (λ first. now table list acts accepted (held_stood list n e h))

    by : Came (after table act) n e acts → Came table n e (act ∷ acts)
    by (held h) = first-act act (act_from table act n e h)
    by (since c) = since (λ first. later table act acts (c first))

pub came_together : CameTogether
came_together table acts n f = by (came table acts n e (record { named = f; number = refl; serial = refl; certificate = refl }))
  where
    e : Entry
    e = entry_of (after_all table acts) n

    by : Came table n e acts → CameIn table e table acts
    by (held h) = at_first table acts (held_stood table n e h)
    by (since c) = c table
