-- What an accepted import and an accepted withdrawal have passed.
use mathlib.Core.Path.{◌≡◌, refl, sym, ◌∙◌}
use mathlib.Core.Bool.{Bool, true, false}
use mathlib.Core.List.{List}
use Prim.Native.Nat.{ℕ, suc}
use native.Mathlib.Omega.{arith}
use borrow.Author.Tests.{eqb-true, not-false, ltb-false}
use lib.Dec.{eqb}
use Rattle.std.specs.List.{list_any}
use Rattle.whole.specs.Choice.{if◌then◌otherwise◌}
use Rattle.whole.proofs.Any.{or_false}
use Rattle.entry.specs.declared.entry.Entry.{Entry}
use Rattle.certificate.specs.declared.soundness.Given.{Given}
use Rattle.entry.specs.Entry.{fault, is_bad, is_free}
use Rattle.entry.proofs.Faults.{bad_by}
use Rattle.register.specs.Table.{entry_of, count, twice, bad_table, places}
use Rattle.register.specs.Import.{unknown, unsound, unfit, clashing, is_new, short, import_refusal}
use Rattle.register.specs.Withdrawal.{withdrawal_refusal}
use Rattle.register.proofs.lists.TableEntries.{Member, member_fails, any_fails}
use Rattle.register.proofs.lists.PlacedEntries.{bad, faulty, Ready}

-- ---- a certificate that is neither of unknown law nor unsound is good
not_faulty_good : (k : Given) → eqb (fault k) 3 ≡ false → eqb (fault k) 7 ≡ false → is_bad k ≡ false
not_faulty_good k p q = sym (bad_by k) ∙ rw (p, q)

-- and one that is not bad has no fault
pub good_fault : (k : Given) → is_bad k ≡ false → fault k ≡ 0
good_fault k h = eqb-true (fault k) 0 (not-false (eqb (fault k) 0) h)

-- ---- a table that is not bad
pub good_table_apart : (table : List Entry) → bad_table table ≡ false → twice table ≡ false
unfolding bad_table
good_table_apart table h = (or_false (twice table) (list_any bad table) h).0

pub good_table_sound : (table : List Entry) → bad_table table ≡ false → list_any bad table ≡ false
unfolding bad_table
good_table_sound table h = (or_false (twice table) (list_any bad table) h).1

pub table_not_bad : (table : List Entry) → twice table ≡ false → list_any bad table ≡ false → bad_table table ≡ false
unfolding bad_table
table_not_bad table p q = rw (p, q)

-- ---- imports
pub record Passed (table list : List Entry) : Type 0 where
  pub good_table : bad_table table ≡ false
  pub all_known : list_any unknown list ≡ false
  pub all_sound : list_any unsound list ≡ false
  pub all_fit : unfit list ≡ false
  pub no_clashes : list_any (clashing table) list ≡ false
  pub all_find_room : short table list ≡ false

-- a test whose number is not the answer has not fired
test_not_fired : (t : Bool) (k n : ℕ) → (if t then suc k otherwise n) ≡ 0 → (t ≡ false) × (n ≡ 0)
test_not_fired true k n e = absurd (omega (arith, e))
test_not_fired false k n e = (refl, e)

module _ (table list : List Entry) where
  pub import-passed : import_refusal table list ≡ 0 → Passed table list
  unfolding import_refusal
  import-passed e =
      let (a, e) = test_not_fired (bad_table table) 22 _ e in
      let (b, e) = test_not_fired (list_any unknown list) 2 _ e in
      let (c, e) = test_not_fired (list_any unsound list) 6 _ e in
      let (d, e) = test_not_fired (unfit list) 16 _ e in
      let (f, e) = test_not_fired (list_any (clashing table) list) 17 _ e in
      let (g, e) = test_not_fired (short table list) 18 _ e in
      record { good_table = a; all_known = b; all_sound = c; all_fit = d; no_clashes = f; all_find_room = g }

  pub import-accepted : Passed table list → import_refusal table list ≡ 0
  unfolding import_refusal
  import-accepted p = rw (p.good_table, p.all_known, p.all_sound, p.all_fit, p.no_clashes, p.all_find_room)

  pub import-ready : Passed table list → Ready table list
  import-ready p =
      let (named, distinct) = or_false (list_any is_free list) (twice list) p.all_fit in
      record {
        apart = good_table_apart table p.good_table;
        kept_good = good_table_sound table p.good_table;
        good = any_fails faulty list all-good;
        named = named;
        distinct = distinct;
        room = ltb-false (places table) (count (is_new table) list) p.all_find_room;
      }
    where
      all-good : (e : Entry) → Member e list → faulty e ≡ false
      all-good e m = not_faulty_good e.certificate (member_fails unknown list e p.all_known m) (member_fails unsound list e p.all_sound m)

-- ---- withdrawals
pub withdrawal_passed : (table : List Entry) (n : ℕ) → withdrawal_refusal table n ≡ 0 → (bad_table table ≡ false) × (is_free (entry_of table n) ≡ false)
unfolding withdrawal_refusal
withdrawal_passed table n e =
    let (a, e) = test_not_fired (bad_table table) 22 _ e in
    let (b, e) = test_not_fired (is_free (entry_of table n)) 19 _ e in
    (a, b)
