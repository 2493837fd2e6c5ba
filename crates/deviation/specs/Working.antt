-- "From resistance to temperature": the working deviation at a ratio W, by the form of a deviation function and the places of a certificate, and Wr. Ratios are
-- in units of 10^-9, deviations and Wr in units of 10^-11.
use Rattle.std.specs.Prelude.{Bool, ◌&&◌, [], ◌∷◌, ℕ, ◌*◌, leb, ℤ, pos, ◌+ℤ◌, ◌-ℤ◌}
use Rattle.whole.specs.Choice.{if◌then◌otherwise◌}
use Rattle.exact.specs.Polynomial.{rounded}
use Rattle.quantity.specs.Quantities.{one}
use Rattle.law.specs.declared.subrange.Form.{Form}
use Rattle.law.specs.Subranges.{to_silver}
use Rattle.deviation.specs.declared.places.Places.{Places}
use Rattle.deviation.specs.Limits.{fine, x}

-- By a, b, c: a·x + b·x² + c·x³, taken from c inward and rounded down after each product.
unfoldable pub plain_deviation : Places → ℤ → ℤ
plain_deviation k x = rounded one x (pos 0) (k.a ∷ k.b ∷ k.c ∷ [])

-- There is a d term for ag, where W is at or above W(Al). Below W(Al) there is none (ITS-90 3.3.2).
unfoldable pub has_d_term : Form → Places → ℕ → Bool
has_d_term form k w = to_silver form && leb k.wal.0 w

-- z = W - W(Al)
unfoldable pub z : Places → ℕ → ℤ
z k w = pos w -ℤ pos k.wal.0

-- The d term: d·z², which is 0 + 0·z + d·z², rounded down after each of its two products.
unfoldable pub d_term : Form → Places → ℕ → ℤ
d_term form k w = if has_d_term form k w then rounded one (z k w) (pos 0) (pos 0 ∷ k.d ∷ []) otherwise pos 0

-- The working deviation.
unfoldable pub deviation : Form → Places → ℕ → ℤ
deviation form k w = plain_deviation k (x w) +ℤ d_term form k w

-- Wr is W less the deviation.
unfoldable pub Wr : Form → Places → ℕ → ℤ
Wr form k w = pos (fine * w) -ℤ deviation form k w
