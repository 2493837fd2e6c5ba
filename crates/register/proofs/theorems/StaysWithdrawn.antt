-- What is withdrawn stays withdrawn: a reading is by a serial above every mark that was ever set.
use mathlib.Core.Path.{◌≡◌, ap}
use mathlib.Core.Bool.{false, not}
use Prim.Native.Nat.{◌<◌}
use native.Mathlib.Omega.{arith}
use borrow.Author.Tests.{ltb-true}
use lib.Dec.{ltb}
use Rattle.whole.proofs.Choice.{and_true}
use Rattle.entry.specs.declared.entry.Entry.{Entry}
use Rattle.entry.specs.Entry.{is_free, raised}
use Rattle.register.specs.Table.{entry_of}
use Rattle.register.specs.Withdrawal.{withdrawn}
use Rattle.register.specs.Promised.{after_all, mark_of, Names, MarkHolds, StaysWithdrawn}
use Rattle.register.proofs.lists.JoinedEntries.{higher_is}
use Rattle.register.proofs.lists.TableEntries.{entry_there}
use Rattle.register.proofs.lists.PassedTests.{withdrawal_passed}
use Rattle.register.proofs.theorems.WithdrawnTable.{withdrawal_raises}
use Rattle.register.proofs.theorems.NeverFalls.{mark_never_falls}
use Rattle.register.proofs.theorems.ReadingThrough.{reads_live}

pub mark_holds : MarkHolds
mark_holds table n z since r r0 o h c =
    let (live, _) = reads_live (after_all table since) n r r0 o h c in
    let held : Entry = entry_of (after_all table since) n in
    let (_, test) = and_true (not (is_free held)) (ltb held.mark.0 held.serial.0) live in
    let above : held.mark.0 < held.serial.0 = ltb-true held.mark.0 held.serial.0 test in
    omega (arith, above, mark_never_falls table since n z)

pub stays-withdrawn : StaysWithdrawn
stays-withdrawn table n serial a since r r0 o h c =
    let f : is_free (entry_of table n) ≡ false = (withdrawal_passed table n a).1 in
    let z : Names n = rw (entry_there table n f).1 at f in
    let raises : mark_of (withdrawn table n serial) n ≡ (raised (entry_of table n) serial).mark.0 = ap (λ (e : Entry). e.mark.0) (withdrawal_raises table n serial a).0 in
    let above : mark_of (withdrawn table n serial) n < (entry_of (after_all (withdrawn table n serial) since) n).serial.0 = mark_holds (withdrawn table n serial) n z since r r0 o h c in
    (omega (arith, above, raises, higher_is (entry_of table n).mark serial), (reads_live (after_all (withdrawn table n serial) since) n r r0 o h c).1)
