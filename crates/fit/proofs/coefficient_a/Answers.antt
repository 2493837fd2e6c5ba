use Prim.Native.Nat.{◌≤◌}
use native.Mathlib.Nat.{mul-le-mul}
use native.Mathlib.Omega.{arith}
use lib.IntN.{ℤ, nat_abs, ◌-ℤ◌}
use mir.Syntax.{w64}
use mir.Val.{SFits}
use mir.Facts.{to_z-of_z}
use Rattle.whole.proofs.Size.{abs_sub, abs→fits, difference-fits}
use Rattle.whole.proofs.Machine.{back}
use Rattle.fit.specs.Fit.{◌·◌}
use Rattle.fit.proofs.Sizes.{times_size}
use Rattle.fit.proofs.coefficient_a.Goals as goal

module _ (q1 b c x : ℤ) (p : nat_abs q1 ≤ 500_000_000) (q : nat_abs b ≤ 3_000_000_000) (r : nat_abs c ≤ 500_000_000) (h : nat_abs x ≤ 2_500_000_000) where
  linear-size : nat_abs (q1 -ℤ b · x) ≤ 8_000_000_001
  linear-size = omega (arith, abs_sub q1 (b · x), p, times_size b x 3_000_000_000 2_500_000_000 q h)

  cx-size : nat_abs (c · x) ≤ 1_250_000_001
  cx-size = times_size c x 500_000_000 2_500_000_000 r h

  linear-fits : SFits w64 (q1 -ℤ b · x)
  linear-fits = abs→fits (q1 -ℤ b · x) (omega (arith, linear-size))

  fits : SFits w64 (q1 -ℤ b · x -ℤ c · x · x)
  fits = difference-fits (q1 -ℤ b · x) (c · x · x) (omega (arith, linear-size, times_size (c · x) x 1_250_000_001 2_500_000_000 cx-size h))

pub overflow_sub-result : goal.overflow_sub-result
overflow_sub-result c =
    let r = c.requires in
    rw (to_z-of_z c.ranges.q1, back c.times.result c.times.type_inv, c.times.ensures, to_z-of_z c.ranges.b, to_z-of_z (abs→fits c.args.p1.x (omega (arith, r.3))))
    (linear-fits c.args.q1 c.args.b c.args.c c.args.p1.x r.0 r.1 r.2 r.3)

pub times-requires-3 : goal.times-requires-3
times-requires-3 c =
    let r = c.requires in
    rw (back c.times-2.result c.times-2.type_inv, c.times-2.ensures, to_z-of_z c.ranges.c, to_z-of_z (abs→fits c.args.p1.x (omega (arith, r.3))))
    (omega (arith, mul-le-mul (cx-size c.args.q1 c.args.b c.args.c c.args.p1.x r.0 r.1 r.2 r.3) r.3))

pub overflow_sub-result-2 : goal.overflow_sub-result-2
overflow_sub-result-2 c =
    let r = c.requires in
    rw (to_z-of_z c.ranges.q1, back c.times.result c.times.type_inv, c.times.ensures, to_z-of_z c.ranges.b, back c.times-3.result c.times-3.type_inv, c.times-3.ensures, back c.times-2.result c.times-2.type_inv, c.times-2.ensures, to_z-of_z c.ranges.c, to_z-of_z (abs→fits c.args.p1.x (omega (arith, r.3))), to_z-of_z (linear-fits c.args.q1 c.args.b c.args.c c.args.p1.x r.0 r.1 r.2 r.3))
    (fits c.args.q1 c.args.b c.args.c c.args.p1.x r.0 r.1 r.2 r.3)

pub returns : goal.returns
returns c =
    let r = c.requires in
    rw (to_z-of_z c.ranges.q1, back c.times.result c.times.type_inv, c.times.ensures, to_z-of_z c.ranges.b, back c.times-3.result c.times-3.type_inv, c.times-3.ensures, back c.times-2.result c.times-2.type_inv, c.times-2.ensures, to_z-of_z c.ranges.c, to_z-of_z (abs→fits c.args.p1.x (omega (arith, r.3))), to_z-of_z (linear-fits c.args.q1 c.args.b c.args.c c.args.p1.x r.0 r.1 r.2 r.3), to_z-of_z (fits c.args.q1 c.args.b c.args.c c.args.p1.x r.0 r.1 r.2 r.3))
