-- A polynomial with whole coefficients c + c1 x + c2 x^2 + .. at x = n / unit. Coefficients are listed from the lowest up, the first apart from the others.
use Rattle.std.specs.Prelude.{List, [], ◌∷◌, ℕ, suc, ℤ, ◌+ℤ◌, ◌*ℤ◌}
use Rattle.whole.specs.Floor.{floor}
use Rattle.exact.specs.Fraction.{Fraction, integer, ◌+ᶠ◌, ◌*ᶠ◌, ◌^ᶠ◌}

-- The working value, by Horner's rule: it starts from the highest coefficient; as often as there is a lower one it is multiplied by n, divided by the
-- unit, rounded down, and the next lower coefficient added.
unfoldable pub rounded : ℕ → ℤ → ℤ → List ℤ → ℤ
rounded unit n c [] = c
rounded unit n c (c' ∷ cs) = floor (rounded unit n c' cs *ℤ n) unit +ℤ c

-- The exact value, term by term: c x^i + c' x^(i+1) + ..
unfoldable pub terms : Fraction → ℕ → ℤ → List ℤ → Fraction
terms x i c [] = integer c *ᶠ x ^ᶠ i
terms x i c (c' ∷ cs) = integer c *ᶠ x ^ᶠ i +ᶠ terms x (suc i) c' cs

-- All of the terms, from x^0 on.
abbrev pub exactly : Fraction → ℤ → List ℤ → Fraction
exactly x c cs = terms x 0 c cs
