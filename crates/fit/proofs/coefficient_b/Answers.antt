use Prim.Native.Nat.{◌≤◌}
use native.Mathlib.Nat.{mul-le-mul}
use native.Mathlib.Omega.{arith}
use lib.IntN.{ℤ, nat_abs, ◌+ℤ◌, ◌-ℤ◌}
use mir.Syntax.{w64}
use mir.Val.{SFits}
use mir.Facts.{to_z-of_z}
use Rattle.whole.proofs.Size.{abs_add, abs→fits, difference-fits}
use Rattle.whole.proofs.Machine.{back}
use Rattle.fit.specs.declared.Point.{Point}
use Rattle.fit.specs.Fit.{◌·◌}
use Rattle.fit.specs.Room.{Kept}
use Rattle.fit.proofs.Sizes.{x_size, x_fits, times_size}
use Rattle.fit.proofs.coefficient_b.Goals as goal

both : (p p' : Point) → Kept p → Kept p' → nat_abs (p.x +ℤ p'.x) ≤ 6_800_000_000
both p p' k k' = omega (arith, abs_add p.x p'.x, x_size p k, x_size p' k')

sum-fits : (p p' : Point) → Kept p → Kept p' → SFits w64 (p.x +ℤ p'.x)
sum-fits p p' k k' = abs→fits (p.x +ℤ p'.x) (omega (arith, both p p' k k'))

fits : (r12 c : ℤ) (p p' : Point) → nat_abs r12 ≤ 500_000_000 → nat_abs c ≤ 500_000_000 → Kept p → Kept p' → SFits w64 (r12 -ℤ c · (p.x +ℤ p'.x))
fits r12 c p p' h g k k' =
    difference-fits r12 (c · (p.x +ℤ p'.x)) (omega (arith, h, times_size c (p.x +ℤ p'.x) 500_000_000 6_800_000_000 g (both p p' k k')))

pub times-requires : goal.times-requires
times-requires c =
    let p1 = c.args.p1 in
    let p2 = c.args.p2 in
    let k1 = c.requires.2 in
    let k2 = c.requires.3 in
    rw (to_z-of_z c.ranges.c, to_z-of_z (x_fits p1 k1), to_z-of_z (x_fits p2 k2), to_z-of_z (sum-fits p1 p2 k1 k2))
    (omega (arith, mul-le-mul c.requires.1 (both p1 p2 k1 k2)))

pub overflow_sub-result : goal.overflow_sub-result
overflow_sub-result c =
    let p1 = c.args.p1 in
    let p2 = c.args.p2 in
    let k1 = c.requires.2 in
    let k2 = c.requires.3 in
    rw (to_z-of_z c.ranges.r12, back c.times.result c.times.type_inv, c.times.ensures, to_z-of_z c.ranges.c, to_z-of_z (x_fits p1 k1), to_z-of_z (x_fits p2 k2), to_z-of_z (sum-fits p1 p2 k1 k2))
    (fits c.args.r12 c.args.c p1 p2 c.requires.0 c.requires.1 k1 k2)

pub returns : goal.returns
returns c =
    let p1 = c.args.p1 in
    let p2 = c.args.p2 in
    let k1 = c.requires.2 in
    let k2 = c.requires.3 in
    rw (to_z-of_z c.ranges.r12, back c.times.result c.times.type_inv, c.times.ensures, to_z-of_z c.ranges.c, to_z-of_z (x_fits p1 k1), to_z-of_z (x_fits p2 k2), to_z-of_z (sum-fits p1 p2 k1 k2), to_z-of_z (fits c.args.r12 c.args.c p1 p2 c.requires.0 c.requires.1 k1 k2))
