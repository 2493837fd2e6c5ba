use Rattle.lines.proofs.Appending.{fill-copied, fill-full}
use mathlib.Core.Path.{◌∙◌}
use Rattle.lines.proofs.fill.Goals as goal

pub returns-then-count-lt-LAST_HELD : goal.returns-then-count-lt-LAST_HELD
returns-then-count-lt-LAST_HELD c = c.put.ensures ∙ fill-copied c.args.held.now c.args.s.now c.args.count c.requires.0 c.requires.1 c.if-count-lt-LAST_HELD.true c.requires.2

pub returns-else-count-lt-LAST_HELD : goal.returns-else-count-lt-LAST_HELD
returns-else-count-lt-LAST_HELD c = fill-full c.args.held.now c.args.s.now c.args.count c.requires.0 c.requires.1 c.if-count-lt-LAST_HELD.false
