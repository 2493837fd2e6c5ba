use mathlib.Core.Path.{◌≡◌}
use native.Mathlib.Omega.{arith}
use lib.IntN.{ℤ, pos, ◌+ℤ◌, ◌*ℤ◌}
use mir.Syntax.{w64}
use mir.Val.{to_z, of_z}
use mir.Facts.{to_z-of_z}
use Rattle.whole.specs.Floor.{floor}
use Rattle.whole.proofs.Machine.{back}
use Rattle.exact.specs.Polynomial.{rounded}
use Rattle.exact.proofs.Sizes.{turn-size, turn-room}
use Rattle.quantity.specs.Quantities.{one, largest_ratio}
use Rattle.deviation.specs.Limits.{largest_coefficient}
use Rattle.deviation.proofs.working.twice.Goals as goal

pub turn-requires-2 : goal.turn-requires-2
turn-requires-2 c =
    let first : ℤ = floor (c.args.d *ℤ c.args.z) one +ℤ pos 0 in
    let is_first : to_z w64 (of_z w64 c.turn.result) ≡ first = rw (back c.turn.result c.turn.type_inv, c.turn.ensures, to_z-of_z c.ranges.d, to_z-of_z c.ranges.z) in
    rw (is_first, to_z-of_z c.ranges.z) (turn-room one largest_ratio (omega arith) c.args.z c.requires.1 first (pos 0) 440_000_001 0 (omega (arith, turn-size one largest_ratio (omega arith) c.args.z c.requires.1 c.args.d (pos 0) largest_coefficient 0 c.requires.0 (omega arith))) (omega arith) (omega arith) (omega arith))

pub returns : goal.returns
unfolding rounded
returns c =
    let first : ℤ = floor (c.args.d *ℤ c.args.z) one +ℤ pos 0 in
    let is_first : to_z w64 (of_z w64 c.turn.result) ≡ first = rw (back c.turn.result c.turn.type_inv, c.turn.ensures, to_z-of_z c.ranges.d, to_z-of_z c.ranges.z) in
    rw (back c.turn-2.result c.turn-2.type_inv, c.turn-2.ensures, is_first, to_z-of_z c.ranges.z)
