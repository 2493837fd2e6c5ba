use Rattle.text.proofs.Decimals.{Writing}
use Rattle.text.proofs.decimal.put_digits.Given as goal

-- `text::decimal::put_digits` meets its contract: the digits still to be written stand before those that are.
abbrev pub invariant-loop-rest : goal.invariant-loop-rest
invariant-loop-rest l = Writing l.initial.out l.at l.n l.out l.rest l.i

abbrev pub decreases-loop-rest : goal.decreases-loop-rest
decreases-loop-rest l = l.rest
