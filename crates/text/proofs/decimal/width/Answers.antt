use Rattle.text.proofs.Decimals.{seven_longer, word-digits}
use native.Mathlib.Omega.{arith}
use Rattle.text.proofs.decimal.width.Goals as goal

pub loop-rest-preserved : goal.loop-rest-preserved
loop-rest-preserved c = let turn = c.loop-rest in
    (omega (arith, turn.invariant.0, seven_longer turn.rest c.loop-rest-test.true), omega (arith, turn.invariant.1, c.loop-rest-test.true))

pub overflow_add-result : goal.overflow_add-result
overflow_add-result c = omega (arith, c.loop-rest.invariant.0, c.width_to_seven.ensures, word-digits c.args.n (omega (arith, c.ranges.n)))
