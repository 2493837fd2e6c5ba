use Prim.Native.Nat.{◌-◌}
use Rattle.quantity.proofs.Division.{Dividing}
use Rattle.quantity.proofs.resistance.divide.Given as goal

abbrev pub invariant-loop-done : goal.invariant-loop-done
invariant-loop-done l = Dividing l.n l.d l.turns l.x (l.turns - l.done)
