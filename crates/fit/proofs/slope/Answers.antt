use native.Mathlib.Omega.{arith}
use lib.IntN.{◌-ℤ◌}
use mir.Syntax.{w64}
use mir.Val.{SFits}
use mir.Facts.{to_z-of_z}
use Rattle.whole.proofs.Size.{difference-fits}
use Rattle.whole.proofs.Machine.{back}
use Rattle.fit.proofs.Sizes.{x_size, x_fits}
use Rattle.fit.proofs.slope.Goals as goal

pub returns : goal.returns
returns c =
    let k1 = c.requires.2 in
    let k2 = c.requires.3 in
    let rise : SFits w64 (c.args.high -ℤ c.args.low) = difference-fits c.args.high c.args.low (omega (arith, c.requires.0, c.requires.1)) in
    let run : SFits w64 (c.args.p2.x -ℤ c.args.p1.x) = difference-fits c.args.p2.x c.args.p1.x (omega (arith, x_size c.args.p1 k1, x_size c.args.p2 k2)) in
    rw (back c.over.result c.over.type_inv, c.over.ensures, to_z-of_z c.ranges.high, to_z-of_z c.ranges.low, to_z-of_z rise, to_z-of_z (x_fits c.args.p2 k2), to_z-of_z (x_fits c.args.p1 k1), to_z-of_z run)
