-- The names of the scale's laws are those of its subranges.
use mathlib.Core.Path.{◌≡◌, refl}
use mathlib.Core.Bool.{Bool, true, false}
use mathlib.Core.List.{List, [], ◌∷◌, map}
use Rattle.std.specs.Prelude.{Option, None, Some, ◌==◌}
use Rattle.std.specs.List.{find}
use Rattle.std.proofs.Common.{cond}
use Prim.Native.Nat.{ℕ}
use Rattle.law.specs.declared.subrange.Subrange.{Subrange}
use Rattle.law.specs.declared.laws.Law.{Law}
use Rattle.law.specs.declared.laws.Law.TheVariants.{Scale}
use Rattle.law.specs.Subranges.{carried, law_name}

abbrev pub scale_if : Option Subrange → Option Law
scale_if None = None
scale_if (Some s) = Some (Scale s)

pub scale_named : (n : ℕ) (ss : List Subrange) → find (λ law. law_name law == n) (map Scale ss) ≡ scale_if (find (λ s. (carried s).name == n) ss)
scale_named n [] = refl
scale_named n (s ∷ ss) = by ((carried s).name == n) (scale_named n ss)
  where
    by : (b : Bool) → find (λ law. law_name law == n) (map Scale ss) ≡ scale_if (find (λ s. (carried s).name == n) ss)
        → cond b (Some (Scale s)) (find (λ law. law_name law == n) (map Scale ss)) ≡ scale_if (cond b (Some s) (find (λ s. (carried s).name == n) ss))
    by true e = refl
    by false e = e
