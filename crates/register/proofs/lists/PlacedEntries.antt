-- The entries of an accepted list come into a table one after another.
use mathlib.Core.Path.{◌≡◌, refl, sym, ◌∙◌, ap, subst}
use mathlib.Core.Bool.{Bool, true, false, ◌&&◌, not}
use mathlib.Core.List.{List, [], ◌∷◌}
use Prim.Native.Nat.{ℕ, suc, ◌<◌, ◌≤◌}
use native.Mathlib.Omega.{arith}
use borrow.Author.Tests.{eqb-true, eq-eqb}
use lib.Dec.{eqb}
use Rattle.std.specs.List.{list_any}
use Rattle.whole.specs.Choice.{if◌then◌otherwise◌}
use Rattle.whole.proofs.Any.{or_false}
use Rattle.entry.specs.declared.entry.Entry.{Entry}
use Rattle.entry.specs.Entry.{is_bad, is_free, free, merged, joined}
use Rattle.register.specs.Table.{has, entry_of, put, count, twice, places}
use Rattle.register.specs.Import.{is_new, placed, placed_all}
use Rattle.register.proofs.lists.JoinedEntries.{merged-free, joined-held, merged_good}
use Rattle.register.proofs.lists.TableEntries.{Member, member_fails, member_passes, count_same, Sought, there, missing, sought, entry_of_none, not_twice_others, not_twice_rest, eqb_false_turned}
use Rattle.register.proofs.lists.TableEntries.{entry_put, entry_other, any-put, twice-put, places-put, twice-new, places-new, free-there}

-- a bad entry of a table, and one of a list
abbrev pub bad : Entry → Bool
bad e = not (is_free e) && is_bad e.certificate

abbrev pub faulty : Entry → Bool
faulty e = is_bad e.certificate

-- ---- one entry
module _ (table : List Entry) (e : Entry) (named : is_free e ≡ false) where
  abbrev held : Entry
  held = entry_of table e.number.0

  -- a new thermometer takes the first free place
  as-new : held ≡ free → placed table e ≡ put table 0 e
  as-new h = rw h

  -- the entry of another is merged at its own place
  pub placed-at-own : held.number.0 ≡ e.number.0 → placed table e ≡ put table e.number.0 (merged held e)
  placed-at-own h = rw (h, named)

  named-too : held.number.0 ≡ e.number.0 → is_free held ≡ false
  named-too h = rw h named

  -- what comes of its thermometer
  entry-placed : (is_new table e ≡ true → 0 < places table) → entry_of (placed table e) e.number.0 ≡ joined held e
  entry-placed room = by (sought table e.number.0)
    where
      by : Sought table e.number.0 held → entry_of (placed table e) e.number.0 ≡ joined held e
      by (missing h k) =
          ap (λ (t : List Entry). entry_of t e.number.0) (as-new h)
          ∙ entry_put table 0 e.number.0 e refl (free-there table (room (rw h refl))) (λ y m p. member_fails (has e.number.0) table y k m)
          ∙ sym (ap (λ (x : Entry). joined x e) h)
      by (there m h) =
          let found = member_passes (has e.number.0) table held (eq-eqb held.number.0 e.number.0 h) m in
          ap (λ (t : List Entry). entry_of t e.number.0) (placed-at-own h)
          ∙ entry_put table e.number.0 e.number.0 (merged held e) h found (λ y m p. p)
          ∙ sym (joined-held held e (named-too h))

  -- and of any other
  entry_kept : (n : ℕ) → eqb n 0 ≡ false → eqb e.number.0 n ≡ false → entry_of (placed table e) n ≡ entry_of table n
  entry_kept n z o = by (sought table e.number.0)
    where
      by : Sought table e.number.0 held → entry_of (placed table e) n ≡ entry_of table n
      by (missing h k) = ap (λ (t : List Entry). entry_of t n) (as-new h) ∙ entry_other table 0 n e (eqb_false_turned n 0 z) o
      by (there m h) = ap (λ (t : List Entry). entry_of t n) (placed-at-own h) ∙ entry_other table e.number.0 n (merged held e) o (rw h o)

  -- room for so many new ones after it
  room_after : (c : ℕ) → (if is_new table e then suc c otherwise c) ≤ places table → c ≤ places (placed table e)
  room_after c room = by (sought table e.number.0)
    where
      by : Sought table e.number.0 held → c ≤ places (placed table e)
      by (missing h k) =
          let r : suc c ≤ places table = rw h at room in
          let p : suc (places (put table 0 e)) ≡ places table = places-new e named table (free-there table (omega (arith, r))) in
          let q : places (placed table e) ≡ places (put table 0 e) = ap places (as-new h) in
          omega (arith, p, q, r)
      by (there m h) =
          let r : c ≤ places table = rw (named-too h) at room in
          let p : places (put table e.number.0 (merged held e)) ≡ places table = places-put e.number.0 (merged held e) h table in
          let q : places (placed table e) ≡ places (put table e.number.0 (merged held e)) = ap places (placed-at-own h) in
          omega (arith, p, q, r)

  -- no thermometer twice, no bad certificate
  twice-placed : twice table ≡ false → twice (placed table e) ≡ false
  twice-placed a = by (sought table e.number.0)
    where
      by : Sought table e.number.0 held → twice (placed table e) ≡ false
      by (missing h k) = ap twice (as-new h) ∙ twice-new e named table k a
      by (there m h) = ap twice (placed-at-own h) ∙ twice-put e.number.0 (merged held e) h table ∙ a

  bad-placed : list_any bad table ≡ false → faulty e ≡ false → list_any bad (placed table e) ≡ false
  bad-placed a f = by (sought table e.number.0)
    where
      by : Sought table e.number.0 held → list_any bad (placed table e) ≡ false
      by (missing h k) = ap (list_any bad) (as-new h) ∙ any-put bad table 0 e a (rw named f)
      by (there m h) =
          let g : faulty held ≡ false = rw (named-too h) at (member_fails bad table held a m) in
          ap (list_any bad) (placed-at-own h) ∙ any-put bad table e.number.0 (merged held e) a (rw (named-too h) (merged_good held e g f))

-- ---- a list of entries
-- a thermometer that no list names keeps its entry
pub joined-none : (table : List Entry) (n : ℕ) → eqb n 0 ≡ false → joined (entry_of table n) free ≡ entry_of table n
joined-none table n z = by (sought table n)
  where
    by : Sought table n (entry_of table n) → joined (entry_of table n) free ≡ entry_of table n
    by (missing h k) = rw h
    by (there m k) = joined-held (entry_of table n) free (rw k z) ∙ merged-free (entry_of table n)

-- a table that is not bad, and a list of good certificates, of named thermometers once each, for whose new ones there is room
pub record Ready (table list : List Entry) : Type 0 where
  pub apart : twice table ≡ false
  pub kept_good : list_any bad table ≡ false
  pub good : list_any faulty list ≡ false
  pub named : list_any is_free list ≡ false
  pub distinct : twice list ≡ false
  pub room : count (is_new table) list ≤ places table

module _ (table : List Entry) (e : Entry) (es : List Entry) (r : Ready table (e ∷ es)) where
  named-first : is_free e ≡ false
  named-first = (or_false (is_free e) (list_any is_free es) r.named).0

  named-rest : list_any is_free es ≡ false
  named-rest = (or_false (is_free e) (list_any is_free es) r.named).1

  others-rest : list_any (has e.number.0) es ≡ false
  others-rest = not_twice_others e es r.distinct named-first

  -- the rest is as new as it was
  as-new-as : count (is_new (placed table e)) es ≡ count (is_new table) es
  as-new-as = count_same (is_new (placed table e)) (is_new table) es (λ f m. ap is_free (kept f m))
    where
      kept : (f : Entry) → Member f es → entry_of (placed table e) f.number.0 ≡ entry_of table f.number.0
      kept f m =
          entry_kept table e named-first f.number.0 (member_fails is_free es f named-rest m)
          (eqb_false_turned f.number.0 e.number.0 (member_fails (has e.number.0) es f others-rest m))

  ready-next : Ready (placed table e) es
  ready-next =
      record {
        apart = twice-placed table e named-first r.apart;
        kept_good = bad-placed table e named-first r.kept_good (or_false (faulty e) (list_any faulty es) r.good).0;
        good = (or_false (faulty e) (list_any faulty es) r.good).1;
        named = named-rest;
        distinct = not_twice_rest e es r.distinct;
        room = rw as-new-as (room_after table e named-first (count (is_new table) es) r.room);
      }

  new-room : is_new table e ≡ true → 0 < places table
  new-room h =
      let p : suc (count (is_new table) es) ≤ places table = rw h at r.room in
      omega (arith, p)

  -- what the table holds of a thermometer once the first has come in, joined with what the rest has of it
  joined-next : (n : ℕ) → eqb n 0 ≡ false → joined (entry_of (placed table e) n) (entry_of es n) ≡ joined (entry_of table n) (entry_of (e ∷ es) n)
  joined-next n z = by (has n e) refl
    where
      by : (t : Bool) → has n e ≡ t → joined (entry_of (placed table e) n) (entry_of es n) ≡ joined (entry_of table n) (if t then e otherwise entry_of es n)
      by false h = ap (λ (x : Entry). joined x (entry_of es n)) (entry_kept table e named-first n z h)
      by true h =
          let q : e.number.0 ≡ n = eqb-true e.number.0 n h in
          let f : entry_of es n ≡ free = entry_of_none es n (subst (λ (m : ℕ). list_any (has m) es ≡ false) q others-rest) in
          ap (joined (entry_of (placed table e) n)) f
          ∙ joined-none (placed table e) n z
          ∙ subst (λ (m : ℕ). entry_of (placed table e) m ≡ joined (entry_of table m) e) q (entry-placed table e named-first new-room)

-- all of them
pub ready_all : (table list : List Entry) → Ready table list → Ready (placed_all table list) []
ready_all table [] r = r
ready_all table (e ∷ es) r = ready_all (placed table e) es (ready-next table e es r)

pub entry_all : (table list : List Entry) → Ready table list → (n : ℕ) → eqb n 0 ≡ false
    → entry_of (placed_all table list) n ≡ joined (entry_of table n) (entry_of list n)
entry_all table [] r n z = sym (joined-none table n z)
entry_all table (e ∷ es) r n z = entry_all (placed table e) es (ready-next table e es r) n z ∙ joined-next table e es r n z
