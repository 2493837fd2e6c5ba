use mathlib.Core.Path.{ap}
use Prim.Native.Nat.{◌+◌, ◌*◌, ◌≤◌, ◌^◌}
use native.Mathlib.Omega.{arith}
use lib.IntN.{pos}
use Rattle.curve.proofs.Places.{below, above, cut_whole, cut_rest, cut_up}
use Rattle.curve.proofs.comparison.nine_decimals.Goals as goal

pub returns-then-f-eq0 : goal.returns-then-f-eq0
returns-then-f-eq0 c =
    let f = c.fallen-f.ensures in
    let under : c.fallen-f.result.units * 10 ^ 13 + 0 ≤ 10 ^ 31 = rw c.if-f-eq0.true at f.1 in
    rw (below c.args.place c.if-place-lt-ZERO.true, f.0, c.if-f-eq0.true) (ap pos (cut_whole c.fallen-f.result.units under))

pub returns-then-place-lt-ZERO : goal.returns-then-place-lt-ZERO
returns-then-place-lt-ZERO c =
    let f = c.fallen-f.ensures in
    rw (below c.args.place c.if-place-lt-ZERO.true, f.0)
    (ap pos (cut_rest c.fallen-f.result.units c.fallen-f.result.rest (omega arith) c.fallen-f.result.rest_lt f.1))

pub returns : goal.returns
returns c = rw (above c.args.place c.if-place-lt-ZERO.false, c.risen.ensures) (ap pos (cut_up c.risen.result))
