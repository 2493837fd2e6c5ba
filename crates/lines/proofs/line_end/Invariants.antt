use Rattle.lines.proofs.Scan.{AtFeed}
use lib.ListN.{length}
use Prim.Native.Nat.{◌-◌}
use Rattle.lines.proofs.line_end.Given as goal

-- `lines::line_end` meets its contract: none of the bytes passed ends a line.
abbrev pub invariant-loop-i : goal.invariant-loop-i
invariant-loop-i l = AtFeed l.last l.s l.i

abbrev pub decreases-loop-i : goal.decreases-loop-i
decreases-loop-i l = length l.s - l.i
