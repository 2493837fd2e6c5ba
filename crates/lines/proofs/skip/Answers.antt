use Rattle.lines.proofs.Feeds.{no_feed_more}
use mathlib.Core.Path.{sym, ◌∙◌}
use native.Mathlib.Omega.{arith}
use Rattle.lines.proofs.skip.Goals as goal

pub loop-i-preserved : goal.loop-i-preserved
loop-i-preserved c = no_feed_more c.loop-i.invariant 16 (omega (arith, c.loop-i.invariant.within, c.loop-i-test.true)) (sym c.feed_in.ensures ∙ c.if-feed_in.false)
