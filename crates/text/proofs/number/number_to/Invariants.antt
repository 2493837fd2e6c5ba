use Rattle.text.proofs.Numbers.{Figures}
use Rattle.text.proofs.number.number_to.Given as goal

-- `text::number::number_to` meets its contract: the bytes passed are digits, and `value` is their value.
abbrev pub invariant-loop-i : goal.invariant-loop-i
invariant-loop-i l = Figures l.s l.value l.i
