-- What holds of the fit: its coefficients are divided differences over the list of cells, and the polynomial with them comes back to each cell. The scope
-- document does not name it.
use Rattle.std.specs.Prelude.{◌≡◌, List, [], ◌∷◌, ◌++◌, ℕ, ◌-◌, ◌≤◌, length, get_or, take, ℤ, pos, nat_abs, ◌+ℤ◌, ◌-ℤ◌}
use Rattle.exact.specs.Fraction.{Within}
use Rattle.exact.specs.Polynomial.{exactly, rounded}
use Rattle.quantity.specs.Quantities.{one}
use Rattle.deviation.specs.Exact.{exact_ratio}
use Rattle.deviation.specs.Working.{plain_deviation}
use Rattle.fit.specs.declared.Point.{Point}
use Rattle.deviation.specs.declared.places.Places.{Places}
use Rattle.fit.specs.Fit.{◌·◌, ◌÷◌, q, with_silver, fit}
use Rattle.fit.specs.Room.{Spread, wide, Roomy}
use Rattle.fit.specs.Differences.{differences, difference}

-- The rule of divided differences, for any number of cells: the difference without the first cell less the one without the last, over x of the last less x of
-- the first.
abbrev pub Divided : Type 0
Divided = (p : Point) (ps : List Point) (p' : Point) → difference (p ∷ ps ++ p' ∷ []) ≡ (difference (ps ++ p' ∷ []) -ℤ difference (p ∷ ps)) ÷ (p'.x -ℤ p.x)

-- The coefficients from the lowest up.
abbrev pub coefficients : Places → List ℤ
coefficients k = k.a ∷ k.b ∷ k.c ∷ []

-- Of one to three cells, the highest coefficient is the difference over all of them.
abbrev pub Highest : Type 0
Highest = (ps : List Point) → length ps ≤ 3 → get_or (coefficients (fit ps)) (length ps - 1) (pos 0) ≡ difference ps

-- x of the cell at a place of the list, and the difference over the cells up to it; 0 where there are not so many.
abbrev pub x_at : ℕ → List Point → ℤ
x_at i ps = (get_or ps i (record { x = pos 0; delta = pos 0 })).x

abbrev pub up_to : ℕ → List Point → ℤ
up_to i ps = get_or (differences ps) i (pos 0)

-- Each coefficient is its difference less what the higher ones take of it: c·x² has the difference x1 + x2 over two cells times c, and b·x + c·x² its value at
-- x1 over one.
pub record Made (ps : List Point) (k : Places) : Type 0 where
  pub c : k.c ≡ up_to 2 ps
  pub b : k.b ≡ up_to 1 ps -ℤ k.c · (x_at 0 ps +ℤ x_at 1 ps)
  pub a : k.a ≡ up_to 0 ps -ℤ k.b · x_at 0 ps -ℤ (k.c · x_at 0 ps) · x_at 0 ps

-- So it is of up to four cells; of four, a, b, c are those of the first three.
abbrev pub MadeOfDifferences : Type 0
MadeOfDifferences = (ps : List Point) → length ps ≤ 4 → Made ps (fit ps)

-- P holds of each cell.
abbrev pub Each : (Point → Type 0) → List Point → Type 0
Each P [] = Unit {0}
Each P (p ∷ ps) = P p × Each P ps

-- P holds of each cell that a, b, c are fitted to: of four, the first three.
abbrev pub EachFitted : (Places → Point → Type 0) → Type 0
EachFitted P = (ps : List Point) → length ps ≤ 4 → Roomy ps → Each (P (fit ps)) (take 3 ps)

-- The exact a + b·x + c·x² lies less than 22 units from q there: so much the roundings of the differences and of the products take at most.
abbrev pub missed : ℕ
missed = 22

abbrev pub Meets : Type 0
Meets = EachFitted (λ k p. Within missed (q p) (exactly (exact_ratio p.x) k.a (k.b ∷ k.c ∷ [])))

-- So the working deviation by a, b, c lies at most 93 units from the cell's δ there.
abbrev pub astray : ℕ
astray = 93

abbrev pub ComesBack : Type 0
ComesBack = EachFitted (λ k p. nat_abs (plain_deviation k p.x -ℤ p.delta) ≤ astray)

-- And at silver, with the d term, whatever a, b, c are.
abbrev pub SilverComesBack : Type 0
SilverComesBack = (k : Places) (al ag : Point) → Spread wide (al ∷ ag ∷ []) → nat_abs (plain_deviation k ag.x +ℤ rounded one (ag.x -ℤ al.x) (pos 0) (pos 0 ∷ (with_silver k al ag).d ∷ []) -ℤ ag.delta) ≤ astray
