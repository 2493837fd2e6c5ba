use borrow.Author.Rules.{rules}
use Rattle.deviation.specs.Limits.{δ}
use Rattle.deviation.proofs.limit.cell_deviation.Goals as goal

pub returns : goal.returns
unfolding δ
returns c = search rules
