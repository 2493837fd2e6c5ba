use Rattle.register.proofs.lists.NumberPlace.{set-at-place, set-past-end}
use Rattle.register.proofs.table.put.Goals as goal

pub returns-then-i-table : goal.returns-then-i-table
returns-then-i-table c = set-at-place c.args.table.now c.args.number c.find-i.result c.args.e c.find-i.ensures c.if-i-table.true

pub returns-else-i-table : goal.returns-else-i-table
returns-else-i-table c = set-past-end c.args.table.now c.args.number c.find-i.result c.args.e c.find-i.ensures c.if-i-table.false
