use Rattle.curve.proofs.Places.{below, above, compared_down, compared_up}
use Rattle.curve.proofs.comparison.reached.Goals as goal

pub returns-then-place-lt-ZERO : goal.returns-then-place-lt-ZERO
returns-then-place-lt-ZERO c =
    let f = c.fallen-f in
    rw (below c.args.place c.if-place-lt-ZERO.true, f.ensures.0) (compared_down f.result.units f.result.rest c.args.w f.result.rest_lt f.ensures.1)

pub returns : goal.returns
returns c = rw (above c.args.place c.if-place-lt-ZERO.false, c.risen.ensures) (compared_up c.risen.result c.args.w)
