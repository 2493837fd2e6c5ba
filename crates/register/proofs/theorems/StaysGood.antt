-- An import or a withdrawal that is refused changes nothing, and neither makes a good table bad.
use Rattle.register.specs.Promised.{RefusedUnchanged, StaysGood}
use Rattle.register.proofs.theorems.ImportedTable.{import-refused, import-good}
use Rattle.register.proofs.theorems.WithdrawnTable.{withdrawal-refused, withdrawal-good}

pub refused_unchanged : RefusedUnchanged
refused_unchanged = (import-refused, withdrawal-refused)

pub stays_good : StaysGood
stays_good = (import-good, withdrawal-good)
