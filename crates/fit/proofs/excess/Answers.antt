use mathlib.Core.Path.{◌≡◌}
use mathlib.Core.Bool.{false}
use native.Mathlib.Omega.{arith}
use lib.IntN.{◌-ℤ◌}
use mir.Syntax.{w64}
use mir.Val.{SFits}
use mir.Facts.{to_z-of_z}
use Rattle.whole.proofs.Size.{difference-fits}
use Rattle.whole.proofs.Machine.{back}
use Rattle.deviation.specs.declared.places.Places.{Places}
use Rattle.deviation.specs.Working.{plain_deviation}
use Rattle.deviation.proofs.Sized.{plain_size}
use Rattle.fit.specs.declared.Point.{Point}
use Rattle.fit.specs.Fit.{beyond}
use Rattle.fit.specs.Room.{Kept}
use Rattle.fit.proofs.Within.{all_within}
use Rattle.fit.proofs.Sizes as sizes
use Rattle.fit.proofs.excess.Goals as goal

fits : (k : Places) (ag : Point) → beyond k ≡ false → Kept ag → SFits w64 (ag.delta -ℤ plain_deviation k ag.x)
fits k ag e h =
    difference-fits ag.delta (plain_deviation k ag.x) (omega (arith, sizes.δ-size ag h, plain_size k (all_within k e) ag.x (sizes.x_size ag h)))

pub plain_deviation-requires : goal.plain_deviation-requires
plain_deviation-requires c = rw (to_z-of_z (sizes.x_fits c.args.ag c.requires.1)) (all_within c.args.k c.requires.0, omega (arith, sizes.x_size c.args.ag c.requires.1))

pub overflow_sub-result : goal.overflow_sub-result
overflow_sub-result c =
    let ag = c.args.ag in
    rw (to_z-of_z (sizes.δ-fits ag c.requires.1), back c.plain_deviation.result c.plain_deviation.type_inv, c.plain_deviation.ensures, to_z-of_z (sizes.x_fits ag c.requires.1))
    (fits c.args.k ag c.requires.0 c.requires.1)

pub returns : goal.returns
returns c =
    let ag = c.args.ag in
    rw (to_z-of_z (sizes.δ-fits ag c.requires.1), back c.plain_deviation.result c.plain_deviation.type_inv, c.plain_deviation.ensures, to_z-of_z (sizes.x_fits ag c.requires.1), to_z-of_z (fits c.args.k ag c.requires.0 c.requires.1))
