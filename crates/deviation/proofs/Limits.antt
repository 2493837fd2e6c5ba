-- How large x and the deviations of cells are, and that none keeps its limit past 4.4.
use mathlib.Core.Path.{◌≡◌}
use mathlib.Core.Bool.{true, false}
use Prim.Native.Nat.{ℕ, ◌+◌, ◌*◌, ◌<◌, ◌≤◌}
use native.Mathlib.Omega.{arith}
use borrow.Author.Tests.{lt-leb, leb-true}
use lib.IntN.{pos, nat_abs}
use Rattle.whole.proofs.Parts.{up, dn, one_part, sub_parts, abs_parts}
use Rattle.quantity.specs.Quantities.{one, largest_ratio}
use Rattle.deviation.specs.Limits.{fine, x, δ, keeps, within, highest_wr}

pub x_parts : (w : ℕ) → up (x w) + one ≡ dn (x w) + w
unfolding x
x_parts w = omega (arith, sub_parts (pos w) (pos one))

pub δ-parts : (wr w : ℕ) → up (δ wr w) + wr ≡ dn (δ wr w) + fine * w
unfolding δ
δ-parts wr w = omega (arith, sub_parts (pos (fine * w)) (pos wr))

pub x_size : (w : ℕ) → w ≤ largest_ratio → nat_abs (x w) + one ≤ largest_ratio
x_size w h = omega (arith, abs_parts (x w), one_part (x w), x_parts w)

pub δ-size : (wr w : ℕ) → wr ≤ highest_wr → w ≤ largest_ratio → nat_abs (δ wr w) ≤ 440_000_000_000
δ-size wr w k h = omega (arith, abs_parts (δ wr w), one_part (δ wr w), δ-parts wr w)

-- what a limit that is kept says
pub limit : (wr w : ℕ) → within wr w ≡ true → 1000 * nat_abs (δ wr w) ≤ fine * nat_abs (x w)
unfolding keeps
limit wr w e = leb-true (1000 * nat_abs (δ wr w)) (fine * nat_abs (x w)) e

-- past 4.4 the deviation is more than a thousandth of x
pub far : (wr w : ℕ) → wr ≤ highest_wr → largest_ratio < w → within wr w ≡ false
unfolding keeps
far wr w k h =
    lt-leb (1000 * nat_abs (δ wr w)) (fine * nat_abs (x w)) (omega (arith, abs_parts (δ wr w), one_part (δ wr w), δ-parts wr w, abs_parts (x w), one_part (x w), x_parts w))
