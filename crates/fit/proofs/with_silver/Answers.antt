use native.Mathlib.Omega.{arith}
use Rattle.whole.proofs.Size.{abs_sub}
use Rattle.whole.proofs.Machine.{back}
use Rattle.deviation.specs.Working.{plain_deviation}
use Rattle.deviation.proofs.Sized.{plain_size}
use Rattle.fit.proofs.Within.{all_within}
use Rattle.fit.proofs.Sizes as sizes
use Rattle.fit.proofs.with_silver.Goals as goal

pub coefficient_d-d-requires : goal.coefficient_d-d-requires
coefficient_d-d-requires c = let k = c.args.k in
    let ag = c.args.ag in
    let w = all_within k c.requires.0 in
    let plain = plain_size k w ag.x (sizes.x_size ag c.requires.1.2) in
    rw (back c.excess-e.result c.excess-e.type_inv, c.excess-e.ensures)
    (omega (arith, abs_sub ag.delta (plain_deviation k ag.x), sizes.δ-size ag c.requires.1.2, plain), c.requires.1)
