use native.Mathlib.Omega.{arith}
use mathlib.Core.Path.{ap}
use Prim.Native.Nat.{ℕ}
use Rattle.text.specs.declared.field.Scanned.{Scanned}
use Rattle.text.specs.Numbers.{most_digits}
use Rattle.text.proofs.Offsets.{number_most}
use Rattle.text.proofs.number.number_in.Goals as goal

pub returns-clause-small : goal.returns-clause-small
returns-clause-small c = omega (arith, number_most most_digits c.args.s.now (omega arith), ap (λ (x : Scanned ℕ). x.value) c.number_of-n.ensures)
