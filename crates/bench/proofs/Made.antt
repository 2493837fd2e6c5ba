-- A text that was made in a place of its own and then went into the lent buffer.
use Rattle.std.specs.Prelude.{Option}
use mathlib.Core.Path.{◌≡◌, subst}
use mathlib.Core.List.{List}
use Prim.Native.Nat.{ℕ}
use lib.ListN.{take}
use Rattle.line.specs.declared.lent.LineAnswer.{LineAnswer}
use Rattle.line.specs.Lent.{PlacedAs}

pub made-placed : (made text out out' : List ℕ) (r : ℕ) (x : Option LineAnswer) → take r made ≡ text → PlacedAs 0 (take r made) out out' x → PlacedAs 0 text out out' x
made-placed made text out out' r x e p = subst (λ (t : List ℕ). PlacedAs 0 t out out' x) e p
