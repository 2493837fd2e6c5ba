use Rattle.text.proofs.Decimals.{write-more, write-last, some_digit}
use native.Mathlib.Omega.{arith}
use Rattle.text.proofs.decimal.put_digits.Goals as goal

pub overflow_sub-i : goal.overflow_sub-i
overflow_sub-i c = omega (arith, c.loop-rest.invariant.offset, some_digit c.loop-rest.rest)

pub loop-rest-preserved : goal.loop-rest-preserved
loop-rest-preserved c = rw c.digit.ensures (write-more c.loop-rest.invariant c.loop-rest-test.true)

pub returns : goal.returns
returns c = rw c.digit-2.ensures (write-last c.loop-rest.invariant c.loop-rest-test.false)

pub bounds-out-i : goal.bounds-out-i
bounds-out-i c = omega (arith, c.loop-rest.invariant.offset, c.loop-rest.invariant.same, c.loop-rest.invariant.within, some_digit c.loop-rest.rest)

pub bounds-out-at : goal.bounds-out-at
bounds-out-at c = omega (arith, c.loop-rest.invariant.offset, c.loop-rest.invariant.same, c.loop-rest.invariant.within, some_digit c.loop-rest.rest)
