use Rattle.std.proofs.Common.{◌≡◌, drop}
use Rattle.register.specs.Import.{placed_all}
use Rattle.register.proofs.imports.place_all.Given as goal

abbrev pub invariant-loop-e : goal.invariant-loop-e
invariant-loop-e l = placed_all l.initial.table l.list ≡ placed_all l.table (drop l.e-index l.list)
