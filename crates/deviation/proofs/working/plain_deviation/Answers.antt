use mathlib.Core.Path.{◌≡◌}
use Prim.Native.Nat.{◌≤◌}
use native.Mathlib.Omega.{arith}
use lib.IntN.{ℤ, pos, nat_abs}
use mir.Syntax.{w64}
use mir.Val.{to_z, of_z}
use mir.Facts.{to_z-of_z}
use Rattle.whole.proofs.Machine.{back}
use Rattle.whole.proofs.Size.{abs→fits}
use Rattle.exact.specs.Polynomial.{rounded}
use Rattle.exact.proofs.Sizes.{turn-room}
use Rattle.quantity.specs.Quantities.{one}
use Rattle.deviation.specs.Limits.{largest_coefficient}
use Rattle.deviation.specs.Working.{plain_deviation}
use Rattle.deviation.proofs.Sized.{farthest, linear, square, linear-size, square-size}
use Rattle.deviation.proofs.working.plain_deviation.Goals as goal

-- a coefficient, read back from its bits
read : (z : ℤ) → nat_abs z ≤ largest_coefficient → to_z w64 (of_z w64 z) ≡ z
read z h = to_z-of_z (abs→fits z (omega (arith, h)))

pub turn-linear-requires : goal.turn-linear-requires
turn-linear-requires c =
    let k = c.args.k in
    let s = c.requires.0 in
    rw (read k.c s.c, to_z-of_z c.ranges.x, read k.b s.b)
    (turn-room one farthest (omega arith) c.args.x (omega (arith, c.requires.1)) k.c k.b largest_coefficient largest_coefficient s.c s.b (omega arith) (omega arith))

pub turn-square-requires : goal.turn-square-requires
turn-square-requires c =
    let k = c.args.k in
    let s = c.requires.0 in
    let near : nat_abs c.args.x ≤ farthest = omega (arith, c.requires.1) in
    rw (back c.turn-linear.result c.turn-linear.type_inv, c.turn-linear.ensures, read k.c s.c, to_z-of_z c.ranges.x, read k.b s.b, read k.a s.a)
    (turn-room one farthest (omega arith) c.args.x near (linear k s c.args.x near) k.a 440_000_001 largest_coefficient (linear-size k s c.args.x near) s.a (omega arith) (omega arith))

pub turn-requires : goal.turn-requires
turn-requires c =
    let k = c.args.k in
    let s = c.requires.0 in
    let near : nat_abs c.args.x ≤ farthest = omega (arith, c.requires.1) in
    rw (back c.turn-square.result c.turn-square.type_inv, c.turn-square.ensures, back c.turn-linear.result c.turn-linear.type_inv, c.turn-linear.ensures, read k.c s.c, to_z-of_z c.ranges.x, read k.b s.b, read k.a s.a)
    (turn-room one farthest (omega arith) c.args.x near (square k s c.args.x near) (pos 0) 1_596_000_004 0 (square-size k s c.args.x near) (omega arith) (omega arith) (omega arith))

pub returns : goal.returns
unfolding plain_deviation rounded
returns c =
    let k = c.args.k in
    let s = c.requires.0 in
    rw (back c.turn.result c.turn.type_inv, c.turn.ensures, back c.turn-square.result c.turn-square.type_inv, c.turn-square.ensures, back c.turn-linear.result c.turn-linear.type_inv, c.turn-linear.ensures, read k.c s.c, to_z-of_z c.ranges.x, read k.b s.b, read k.a s.a)
