use Rattle.std.proofs.Common.{◌∙◌}
use Rattle.register.proofs.lists.NumberPlace.{place-found}
use Rattle.register.proofs.table.find.Goals as goal

pub returns : goal.returns
returns c = rw c.place.ensures at c.unwrap_or.ensures ∙ place-found c.args.entries.now c.args.number
