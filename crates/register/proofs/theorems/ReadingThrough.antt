-- A reading through the register is what a live and good certificate reads by its own law.
use mathlib.Core.Path.{◌≡◌, refl}
use mathlib.Core.Bool.{Bool, true, false, not}
use mathlib.Core.List.{◌∷◌}
use native.Mathlib.Omega.{arith}
use borrow.Author.Tests.{not-true, not-false}
use lib.Dec.{eqb, ltb}
use Rattle.whole.proofs.Choice.{and_true}
use Rattle.quantity.specs.Outcomes.{◌gives◌, Follows}
use Rattle.quantity.proofs.Outcomes.{answer-follows, follows-none, passed}
use Rattle.reading.specs.Reading.{read_given}
use Rattle.reading.proofs.Answered.{law_asked}
use Rattle.reading.proofs.Demand.{answers_close, answers_ordered}
use Rattle.reading.proofs.Whole.{accepted_reads}
use Rattle.entry.specs.Entry.{is_free, is_live}
use Rattle.examination.specs.Answering.{read_entry}
use Rattle.examination.proofs.Readings.{past_20, entry_widens}
use Rattle.register.specs.Table.{entry_of, bad_table}
use Rattle.register.specs.Promised.{ReadsLive, HeldGood, ThroughGood, ThroughLaw, ThroughClose, ThroughOrdered, ThroughWidens}
use Rattle.register.proofs.lists.TableEntries.{member_fails, entry_there}
use Rattle.register.proofs.lists.PlacedEntries.{bad}
use Rattle.register.proofs.lists.PassedTests.{good_fault, good_table_sound}

pub reads_live : ReadsLive
reads_live table n r r0 o h z =
    let held = entry_of table n in
    let rule = read_given held.certificate r r0 in
    let a = answer-follows (read_entry (bad_table table) held r r0) o z h in
    let not-23 = passed (bad_table table) 23 (not (is_live held) gives 20 ∷ rule.tests) (omega arith) a.0 in
    let not-20 = passed (not (is_live held)) 20 rule.tests (omega arith) not-23.1 in
    (not-false (is_live held) not-20.0, follows-none rule not-20.1 o z a.1)

pub held_good : HeldGood
held_good table n h f =
    let b : bad (entry_of table n) ≡ false = member_fails bad table (entry_of table n) (good_table_sound table h) (entry_there table n f).0 in
    good_fault (entry_of table n).certificate (rw f at b)

-- ---- refusals by 3 and 7
pub through_good : ThroughGood
through_good table n r r0 o h = by (bad_table table) refl (is_live (entry_of table n)) refl h
  where
    by : (t : Bool) → bad_table table ≡ t → (l : Bool) → is_live (entry_of table n) ≡ l → Follows (read_entry t (entry_of table n) r r0) o → (eqb o.code 3 ≡ false) × (eqb o.code 7 ≡ false)
    by true b l live h = rw h (refl, refl)
    by false b false live h = rw (rw live at h) (refl, refl)
    by false b true live h =
        let held = entry_of table n in
        let (named, _) = and_true (not (is_free held)) (ltb held.mark.0 held.serial.0) live in
        accepted_reads held.certificate (held_good table n b (not-true (is_free held) named)) r r0 o (past_20 held r r0 o live h)

-- ---- demands 2 and 3
pub through_law : ThroughLaw
through_law table n r r0 o h c = law_asked (entry_of table n).certificate r r0 o (reads_live table n r r0 o h c).1 c

pub through_close : ThroughClose
through_close table n r r0 o s l h c = answers_close (entry_of table n).certificate r r0 o s l (reads_live table n r r0 o h c).1 c

pub through_ordered : ThroughOrdered
through_ordered table n r r' r0 o o' h h' c c' l =
    answers_ordered (entry_of table n).certificate r r' r0 o o' (reads_live table n r r0 o h c).1 (reads_live table n r' r0 o' h' c').1 c c' l

-- ---- a larger resistance allowed
pub through_widens : ThroughWidens
through_widens table n = entry_widens (bad_table table) (entry_of table n)
