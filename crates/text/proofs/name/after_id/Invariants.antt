use Rattle.text.proofs.Spans.{Span}
use Rattle.text.specs.Columns.{id_byte, longest_id}
use Prim.Native.Nat.{◌≤◌}
use Rattle.text.proofs.name.after_id.Given as goal

-- `text::name::after_id` meets its contract.
abbrev pub invariant-loop-i : goal.invariant-loop-i
invariant-loop-i l = Span id_byte l.s l.i × (l.i ≤ longest_id)
