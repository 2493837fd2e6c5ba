-- All entries are passed, so what was noted is what the whole list shows.
use Rattle.std.proofs.Common.{◌∙◌, subst}
use Rattle.register.specs.Import.{Tested}
use Rattle.register.proofs.lists.GatheredTests.{noted-all, noted-end}
use Rattle.register.proofs.imports.check.Goals as goal

pub returns : goal.returns
returns c =
    let table = c.args.table.now in
    let list = c.args.list.now in
    subst (Tested table list c.args.places) (c.loop-k.invariant ∙ noted-end table list c.loop-k.s c.loop-k.k c.loop-k-test.false)
    (noted-all table list c.args.places)
