use mathlib.Core.Path.{◌≡◌}
use Prim.Native.Nat.{ℕ, ◌+◌, ◌*◌, ◌/◌, ◌%◌, ◌^◌}
use native.Mathlib.Omega.{arith}
use lib.IntN.{pos, neg_ℤ}
use Rattle.whole.proofs.Parts.{ints, add_parts}
use Rattle.curve.specs.Curve.{exact}
use Rattle.curve.proofs.Sides.{fallen, exact_down}
use Rattle.curve.proofs.Places.{fallen_under}
use Rattle.curve.proofs.comparison.fallen.Goals as goal

-- the units and the rest are all that the ratio fell
joined : (m hi lo : ℕ) → hi * 10 ^ 12 + lo ≡ 4_183 * (m * (m + 1_000_000)) * m * m → (390_830_000_000 * m + 5_775 * (m * m) + hi / 10) * 10 ^ 13 + (hi % 10 * 10 ^ 12 + lo) ≡ fallen m
joined m hi lo e = omega arith

pub returns : goal.returns
returns c =
    let m = c.args.m in
    let once : c.times.result.hi * 10 ^ 12 + c.times.result.lo ≡ 4_183 * (m * (m + 1_000_000)) * m = rw c.new.ensures at c.times.ensures in
    let twice : c.times-q.result.hi * 10 ^ 12 + c.times-q.result.lo ≡ 4_183 * (m * (m + 1_000_000)) * m * m = rw once at c.times-q.ensures in
    let under = fallen_under m c.requires in
    rw (joined m c.times-q.result.hi c.times-q.result.lo twice)
    (omega (ints, under, exact_down m, add_parts (exact (neg_ℤ (pos m))) (pos (fallen m))), under)
