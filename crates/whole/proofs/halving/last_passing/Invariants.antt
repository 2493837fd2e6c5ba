use Rattle.std.proofs.Common.{true, false, ◌+◌, ◌<◌, ◌≤◌, ◌^◌}
use Rattle.whole.proofs.halving.last_passing.Given as goal

-- one passes and one fails, no further apart than the turns left can halve to one
abbrev pub invariant-loop-left : goal.invariant-loop-left
invariant-loop-left g l =
    (l.low < l.high) × (l.high ≤ l.low + 2 ^ l.left) × (l.from ≤ l.low) × (l.high ≤ l.to)
    × goal.F-post g l.passes l.low true × goal.F-post g l.passes l.high false
