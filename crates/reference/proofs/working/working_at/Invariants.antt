use mathlib.Core.Path.{◌≡◌}
use mathlib.Core.List.{List, ◌∷◌}
use Prim.Native.Nat.{ℕ, ◌≤◌}
use lib.ListN.{take}
use lib.IntN.{ℤ}
use Rattle.std.specs.Iterator.Adapters.{rev_source}
use Rattle.std.specs.Slice.Iter.{iter_rest}
use Rattle.exact.proofs.Loops.{from}
use Rattle.reference.specs.Reference.{C₀, C₁₋₉, middle}
use Rattle.reference.proofs.working.working_at.Given as goal

-- `reference::working::working_at` meets its contract.
abbrev pub C : List ℤ
C = C₀ ∷ C₁₋₉

-- from C9 down to Ck, of which those below are left
abbrev pub invariant-loop-c : goal.invariant-loop-c
invariant-loop-c l =
    (goal.iterator-loop-c).can_next l.c-iterator × (goal.iterator-loop-c).is_finite l.c-iterator
    × ((k : ℕ) × (k ≤ 9) × (iter_rest (rev_source l.c-iterator) ≡ take k C) × (l.sum ≡ from middle l.n C k))
