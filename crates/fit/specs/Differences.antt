-- Divided differences of q over a list of cells, of any length: what the coefficients are made of.
use Rattle.std.specs.Prelude.{List, [], ◌∷◌, ℤ, pos, ◌-ℤ◌}
use Rattle.fit.specs.declared.Point.{Point}
use Rattle.fit.specs.Fit.{◌÷◌, q}

-- The differences over p and ever more of the cells after it, after d: each is the one over the same cells without p, less the one before, which is over them
-- without the last, over x of the last less x of p, rounded once.
abbrev pub onward : Point → ℤ → List Point → List ℤ → List ℤ
onward p d [] without = []
onward p d (p' ∷ ps) [] = []
onward p d (p' ∷ ps) (e ∷ without) =
    let d' = (e -ℤ d) ÷ (p'.x -ℤ p.x) in
    d' ∷ onward p d' ps without

-- The difference over the first cell, which is its q, over the first two, over the first three, and so on.
abbrev pub differences : List Point → List ℤ
differences [] = []
differences (p ∷ ps) = q p ∷ onward p (q p) ps (differences ps)

-- The last of a list that starts with d.
abbrev pub last : ℤ → List ℤ → ℤ
last d [] = d
last d (d' ∷ ds) = last d' ds

-- The difference over all the cells.
abbrev pub difference : List Point → ℤ
difference ps = last (pos 0) (differences ps)
