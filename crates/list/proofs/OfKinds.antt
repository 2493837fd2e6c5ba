-- What holds of every kind of list: its lines are answered as promised, and its header has a field for each column.
use mathlib.Core.Path.{◌≡◌, refl, sym, ap, ◌∙◌}
use mathlib.Core.Bool.{true≢false, ◌||◌}
use mathlib.Core.List.{List}
use Prim.Native.Nat.{ℕ}
use lib.Dec.{leb}
use Rattle.quantity.specs.Refusals.{number_of}
use Rattle.quantity.specs.declared.refusal.Refusal.TheVariants.{BufferShort}
use Rattle.line.specs.Kinds.{is_fault, Answered}
use Rattle.line.specs.Promised.{LinesKept}
use Rattle.line.proofs.ReadRows.{readings_kept}
use Rattle.bench.proofs.Rooms as rooms
use Rattle.list.specs.declared.kinds.Kind.{Kind}
use Rattle.list.specs.declared.kinds.Kind.TheVariants.{Readings, Records, Resistances, Steps, Tolerances}
use Rattle.list.specs.Kinds.{kind_of, room_of}
use Rattle.list.specs.Promised.{HeaderFields}

pub kept_of : (k : Kind) → LinesKept (kind_of k) (room_of k)
kept_of Readings = readings_kept
kept_of Records = rooms.records_kept
kept_of Resistances = rooms.resistances_kept
kept_of Steps = rooms.steps_kept
kept_of Tolerances = rooms.results_kept

-- so none of their numbers is that of a short buffer
pub never_short : (k : Kind) (line : List ℕ) (n : ℕ) (t : List ℕ) → Answered (kind_of k) line n t → n ≡ number_of BufferShort → ⊥
never_short k line n t h e = true≢false (sym ((kept_of k).numbers line n t h) ∙ ap (λ (n : ℕ). leb n 9 || is_fault n) e)

-- the header of a list has a field for each column
pub header_fields : HeaderFields
header_fields Readings = refl
header_fields Records = refl
header_fields Resistances = refl
header_fields Steps = refl
header_fields Tolerances = refl
