use Rattle.std.proofs.Common.{◌≡◌, ◌≤◌, drop}
use Rattle.examination.specs.Testing.{nothing_seen}
use Rattle.register.proofs.lists.GatheredTests.{seen_from}
use Rattle.register.proofs.table.examine.Given as goal

abbrev pub invariant-loop-i : goal.invariant-loop-i
invariant-loop-i l = record { few : l.s.places ≤ l.i; goes_on : seen_from l.table nothing_seen 0 l.table ≡ seen_from l.table l.s l.i (drop l.i l.table) }
