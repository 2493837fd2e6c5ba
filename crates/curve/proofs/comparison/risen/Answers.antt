use Rattle.curve.proofs.Sides.{exact_up}
use Rattle.curve.proofs.comparison.risen.Goals as goal

pub returns : goal.returns
returns c = exact_up c.args.n c.requires
