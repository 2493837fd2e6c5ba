use Rattle.text.proofs.Spans.{Span}
use Rattle.text.specs.Columns.{longest_name}
use Rattle.text.specs.Fields.{small}
use Rattle.whole.specs.Text.{name_of}
use lib.ListN.{take}
use Prim.Native.Nat.{◌^◌, ◌≤◌, ◌<◌}
use mathlib.Core.Path.{◌≡◌}
use Rattle.text.proofs.name.name_in.Given as goal

-- `text::name::name_in` meets its contract.
abbrev pub invariant-loop-i : goal.invariant-loop-i
invariant-loop-i l = Span small l.s l.i × (l.i ≤ longest_name) × (l.value ≡ name_of (take l.i l.s)) × (l.value < 256 ^ l.i)
