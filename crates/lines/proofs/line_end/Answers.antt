use Rattle.lines.specs.Lines.{ends_after}
use Rattle.lines.specs.Ends.{byte_before}
use Rattle.lines.proofs.Scan.{no_end_start, no-end-next, at-feed}
use mathlib.Core.Bool.{false}
use mathlib.Core.Path.{◌≡◌, ◌∙◌}
use lib.Dec.{eqb}
use lib.ListN.{get_or}
use borrow.Author.Tests.{ne_eqb}
use Rattle.lines.proofs.line_end.Goals as goal

pub loop-i-init : goal.loop-i-init
loop-i-init c = at-feed c.args.last c.args.s.now (no_end_start c.args.last c.args.s.now) c.feed_from-i.ensures

pub loop-i-preserved : goal.loop-i-preserved
loop-i-preserved c = let at = c.loop-i in
    let last = c.args.last in
    let s = c.args.s.now in
    let no_return : eqb (byte_before last s at.i) 13 ≡ false = ne_eqb (byte_before last s at.i) 13 (λ e. c.if-byte_before-eq13.false (c.byte_before.ensures ∙ e)) in
    let alone : ends_after (byte_before last s at.i) (get_or s at.i 0) ≡ false = rw (at.invariant.here c.loop-i-test.true, no_return) in
    at-feed last s (no-end-next last s at.invariant.none c.loop-i-test.true alone) c.feed_from-i-in-loop-i.ensures
