-- The coefficients are divided differences over the list of cells.
use mathlib.Core.Path.{◌≡◌, refl, ap, sym, ◌∙◌}
use mathlib.Core.List.{List, [], ◌∷◌, ◌++◌}
use Prim.Native.Nat.{suc}
use native.Mathlib.Omega.{arith}
use lib.ListN.{length}
use lib.IntN.{ℤ, pos, ◌-ℤ◌, zero-*ℤ}
use Rattle.whole.proofs.Parts.{ints, sub_parts}
use Rattle.fit.specs.declared.Point.{Point}
use Rattle.fit.specs.Fit.{◌·◌, ◌÷◌, q}
use Rattle.fit.specs.Differences.{onward, differences, last, difference}
use Rattle.fit.specs.Promised.{Divided, Highest, MadeOfDifferences}

-- ---- the rule, for any number of cells
last_is : (d : ℤ) (ds : List ℤ) (e : ℤ) → last d (ds ++ e ∷ []) ≡ e
last_is d [] e = refl
last_is d (d' ∷ ds) e = last_is d' ds e

-- as many differences as cells
onward-length : (p : Point) (ps : List Point) (without : List ℤ) (d : ℤ) → length ps ≡ length without → length (onward p d ps without) ≡ length ps
onward-length p [] without d h = refl
onward-length p (p' ∷ ps) [] d h = absurd (omega arith)
onward-length p (p' ∷ ps) (e ∷ without) d h = ap suc (onward-length p ps without _ (omega arith))

as_many : (ps : List Point) → length ps ≡ length (differences ps)
as_many [] = refl
as_many (p ∷ ps) = ap suc (sym (onward-length p ps (differences ps) (q p) (as_many ps)))

-- one cell more adds one difference, and leaves those before it
onward_more : (p : Point) (d : ℤ) (ps : List Point) (without : List ℤ) (p' : Point) (e : ℤ) → length ps ≡ length without → onward p d (ps ++ p' ∷ []) (without ++ e ∷ []) ≡ onward p d ps without ++ ((e -ℤ last d (onward p d ps without)) ÷ (p'.x -ℤ p.x)) ∷ []
onward_more p d [] [] p' e h = refl
onward_more p d [] (f ∷ without) p' e h = absurd (omega arith)
onward_more p d (s ∷ ps) [] p' e h = absurd (omega arith)
onward_more p d (s ∷ ps) (f ∷ without) p' e h =
    let d' = (f -ℤ d) ÷ (s.x -ℤ p.x) in
    ap (λ (ds : List ℤ). d' ∷ ds) (onward_more p d' ps without p' e (omega arith))

module _ (p : Point) (ps : List Point) (p' : Point) where
  before : List ℤ
  before = onward p (q p) ps (differences ps)

  by-rule : ℤ
  by-rule = (difference (ps ++ p' ∷ []) -ℤ last (q p) before) ÷ (p'.x -ℤ p.x)

  extended : differences (ps ++ p' ∷ []) ≡ differences ps ++ difference (ps ++ p' ∷ []) ∷ [] → onward p (q p) (ps ++ p' ∷ []) (differences (ps ++ p' ∷ [])) ≡ before ++ by-rule ∷ []
  unfolding before by-rule
  extended h = ap (onward p (q p) (ps ++ p' ∷ [])) h ∙ onward_more p (q p) ps (differences ps) p' (difference (ps ++ p' ∷ [])) (as_many ps)

more : (ps : List Point) (p' : Point) → differences (ps ++ p' ∷ []) ≡ differences ps ++ difference (ps ++ p' ∷ []) ∷ []
unfolding before
more [] p' = refl
more (p ∷ ps) p' = rw (extended p ps p' (more ps p'), last_is (q p) (before p ps p') (by-rule p ps p'))

pub divided : Divided
unfolding before by-rule
divided p ps p' = rw (extended p ps p' (more ps p')) (last_is (q p) (before p ps p') (by-rule p ps p'))

-- ---- the coefficients
pub highest : Highest
highest [] h = refl
highest (p₁ ∷ []) h = refl
highest (p₁ ∷ p₂ ∷ []) h = refl
highest (p₁ ∷ p₂ ∷ p₃ ∷ []) h = refl
highest (p₁ ∷ p₂ ∷ p₃ ∷ p₄ ∷ ps) h = absurd (omega arith)

-- what a coefficient that is 0 takes
nothing : (x : ℤ) → pos 0 · x ≡ pos 0
unfolding ◌·◌
nothing x = rw zero-*ℤ

less_nothing : (v : ℤ) → v -ℤ pos 0 ≡ v
less_nothing v = omega (ints, sub_parts v (pos 0))

pub made_of_differences : MadeOfDifferences
made_of_differences [] h = record { c = refl; b = simp (nothing, less_nothing); a = simp (nothing, less_nothing) }
made_of_differences (p₁ ∷ []) h = record { c = refl; b = simp (nothing, less_nothing); a = simp (nothing, less_nothing) }
made_of_differences (p₁ ∷ p₂ ∷ []) h = record { c = refl; b = simp (nothing, less_nothing); a = simp (nothing, less_nothing) }
made_of_differences (p₁ ∷ p₂ ∷ p₃ ∷ []) h = record { c = refl; b = refl; a = refl }
made_of_differences (p₁ ∷ p₂ ∷ p₃ ∷ p₄ ∷ []) h = record { c = refl; b = refl; a = refl }
made_of_differences (p₁ ∷ p₂ ∷ p₃ ∷ p₄ ∷ p₅ ∷ ps) h = absurd (omega arith)
