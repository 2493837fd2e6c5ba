use Rattle.std.proofs.Common.{◌∙◌}
use Rattle.register.proofs.lists.NumberPlace.{entry-at-place, entry-past-end}
use Rattle.register.proofs.table.lookup.Goals as goal

pub returns-then-i-table : goal.returns-then-i-table
returns-then-i-table c = entry-at-place c.args.table.now c.args.number c.find-i.result c.find-i.ensures c.if-i-table.true

pub returns : goal.returns
returns c = c.free.ensures ∙ entry-past-end c.args.table.now c.args.number c.find-i.result c.find-i.ensures c.if-i-table.false
