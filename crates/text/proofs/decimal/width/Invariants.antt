use Rattle.text.specs.Decimal.{decimal}
use lib.ListN.{length}
use Prim.Native.Nat.{◌+◌, ◌≤◌}
use mathlib.Core.Path.{◌≡◌}
use Rattle.text.proofs.decimal.width.Given as goal

-- `text::decimal::width` meets its contract: each turn takes off seven digits and counts them.
abbrev pub invariant-loop-rest : goal.invariant-loop-rest
invariant-loop-rest l = (l.off + length (decimal l.rest) ≡ length (decimal l.n)) × (l.off + l.rest ≤ l.n)

abbrev pub decreases-loop-rest : goal.decreases-loop-rest
decreases-loop-rest l = l.rest
