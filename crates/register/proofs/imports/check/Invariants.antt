use Rattle.std.proofs.Common.{◌≡◌, drop}
use Rattle.examination.specs.Testing.{nothing_noted}
use Rattle.register.proofs.lists.GatheredTests.{noted_from}
use Rattle.register.proofs.imports.check.Given as goal

abbrev pub invariant-loop-k : goal.invariant-loop-k
invariant-loop-k l = noted_from l.table l.list (nothing_noted l.places) 0 l.list ≡ noted_from l.table l.list l.s l.k (drop l.k l.list)
