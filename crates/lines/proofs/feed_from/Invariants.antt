use Rattle.lines.specs.Feeds.{NoFeed}
use Prim.Native.Nat.{◌+◌}
use Rattle.lines.proofs.feed_from.Given as goal

-- `lines::feed_from` meets its contract: the bytes passed are no LF.
abbrev pub invariant-loop-k : goal.invariant-loop-k
invariant-loop-k l = NoFeed l.fn.s l.fn.from (l.start + l.k)
