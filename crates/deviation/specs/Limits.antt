-- x = W - 1, the deviation δ = W - Wr of a cell, and the limits that deviations and coefficients keep. Ratios and x are in units of 10^-9, Wr, deviations and
-- coefficients in units of 10^-11.
use Rattle.std.specs.Prelude.{◌≡◌, Bool, true, ℕ, ◌*◌, ◌≤◌, leb, ℤ, pos, nat_abs, ◌-ℤ◌}
use Rattle.quantity.specs.Quantities.{one}
use Rattle.law.specs.declared.cell.Cell.TheVariants.{Al}
use Rattle.law.specs.declared.subrange.Form.{Form}
use Rattle.law.specs.Cells as cells
use Rattle.law.specs.Subranges.{to_silver}
use Rattle.deviation.specs.declared.places.Places.{Places}

-- One unit of a ratio is 100 units of a deviation.
abbrev pub fine : ℕ
fine = 100

unfoldable pub x : ℕ → ℤ
x w = pos w -ℤ pos one

-- By a cell's Wr.
unfoldable pub δ : ℕ → ℕ → ℤ
δ wr w = pos (fine * w) -ℤ pos wr

-- |δ| is at most |x|/1000, multiplied out.
unfoldable pub keeps : ℤ → ℤ → Bool
keeps δ x = leb (1000 * nat_abs δ) (fine * nat_abs x)

-- A cell's deviation keeps its limit.
abbrev pub within : ℕ → ℕ → Bool
within wr w = keeps (δ wr w) (x w)

-- No cell's Wr is so high, 4.3: what the code asks of a Wr, so that nothing passes 64 bits.
abbrev pub highest_wr : ℕ
highest_wr = 430_000_000_000

-- Each coefficient's size is at most 0.001.
abbrev pub largest_coefficient : ℕ
largest_coefficient = 100_000_000

pub record Small (k : Places) : Type 0 where
  pub a : nat_abs k.a ≤ largest_coefficient
  pub b : nat_abs k.b ≤ largest_coefficient
  pub c : nat_abs k.c ≤ largest_coefficient
  pub d : nat_abs k.d ≤ largest_coefficient

-- Places within their limits: the coefficients are small and, to silver, W(Al) keeps its deviation limit.
pub record Limited (form : Form) (k : Places) : Type 0 where
  pub small : Small k
  pub aluminium : to_silver form ≡ true → within (cells.Wr Al) k.wal.0 ≡ true
