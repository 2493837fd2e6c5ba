use borrow.Author.Rules.{rules}
use Rattle.fit.specs.Fit.{◌÷◌}
use Rattle.fit.proofs.over.Goals as goal

pub returns : goal.returns
unfolding ◌÷◌
returns c = search rules
