use mathlib.Core.Path.{◌≡◌}
use native.Mathlib.Omega.{arith}
use lib.IntN.{◌-ℤ◌}
use mir.Syntax.{w64}
use mir.Val.{SFits, to_z, of_z}
use mir.Facts.{to_z-of_z}
use Rattle.whole.proofs.Size.{difference-fits}
use Rattle.whole.proofs.Machine.{back}
use Rattle.fit.specs.declared.Point.{Point}
use Rattle.fit.specs.Room.{Kept, wide}
use Rattle.fit.proofs.Sizes as sizes
use Rattle.fit.proofs.coefficient_d.Goals as goal

-- z, read back from its bits
z : (al ag : Point) → Kept al → Kept ag → to_z w64 (of_z w64 (to_z w64 (of_z w64 ag.x) -ℤ to_z w64 (of_z w64 al.x))) ≡ ag.x -ℤ al.x
z al ag k k' =
    let fits : SFits w64 (ag.x -ℤ al.x) = difference-fits ag.x al.x (omega (arith, sizes.x_size al k, sizes.x_size ag k')) in
    rw (to_z-of_z (sizes.x_fits ag k'), to_z-of_z (sizes.x_fits al k), to_z-of_z fits)

pub over-requires-2 : goal.over-requires-2
over-requires-2 c =
    let al = c.args.al in
    let ag = c.args.ag in
    let s = c.requires.1 in
    let far = sizes.apart al ag wide (omega arith) s.1 in
    let first = sizes.over_size c.args.e (ag.x -ℤ al.x) 6_000_000_000 wide 9_100_000_000 far c.requires.0 (sizes.gap_size al ag wide s.1) (omega arith) in
    rw (back c.over.result c.over.type_inv, c.over.ensures, to_z-of_z c.ranges.e, z al ag s.0 s.2) (omega (arith, first), far)

pub returns : goal.returns
returns c =
    let s = c.requires.1 in
    rw (back c.over-2.result c.over-2.type_inv, c.over-2.ensures, back c.over.result c.over.type_inv, c.over.ensures, to_z-of_z c.ranges.e, z c.args.al c.args.ag s.0 s.2)
