use Rattle.lines.proofs.Feeds.{no_feed_more}
use mathlib.Core.Path.{sym, ◌∙◌}
use native.Mathlib.Omega.{arith}
use Rattle.lines.proofs.skip_more.Goals as goal

pub returns : goal.returns
returns c = let skipped = c.skip-i in
    no_feed_more skipped.ensures 8 (omega (arith, skipped.ensures.within, c.if-s-i-lt8.false)) (sym c.feed_in.ensures ∙ c.if-feed_in.false)
