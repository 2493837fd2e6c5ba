-- The working value lies less than 9 units from the exact sum.
use native.Mathlib.Omega.{arith}
use Rattle.exact.proofs.Loss.{near}
use Rattle.reference.specs.Reference.{n, working, exact, middle}
use Rattle.reference.specs.Promised.{Near}
use Rattle.reference.proofs.Steps.{span}

pub close : Near
unfolding working exact
close step p q = near middle (omega arith) (n step) (span step p q) _ _ _
