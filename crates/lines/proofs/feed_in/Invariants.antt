use Rattle.std.proofs.Common.{◌≡◌, take, drop}
use Rattle.std.specs.List.{list_any}
use Rattle.lines.specs.Feeds.{feed}
use Rattle.lines.proofs.feed_in.Given as goal

-- `lines::feed_in` meets its contract: `found` says whether a LF stands among the bytes passed.
abbrev pub invariant-loop-b : goal.invariant-loop-b
invariant-loop-b g l = l.found ≡ list_any feed (take l.b-index (drop l.i l.s))
