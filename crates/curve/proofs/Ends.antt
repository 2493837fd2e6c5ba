-- The exact ratios at the two ends, which the checker computes, and the ratios of whole units beside them.
use mathlib.Core.Path.{◌≡◌, refl}
use Prim.Native.Nat.{ℕ, ◌*◌, ◌<◌, ◌≤◌, ◌^◌}
use lib.IntN.{pos}
use lib.Signed.{◌≤ℤ◌, ◌<ℤ◌}
use Rattle.whole.proofs.Parts.{ints}
use Rattle.curve.specs.Curve.{quadratic, quartic, exact, units, first, past_last}

pub at_first : exact first ≡ pos (185_200_800 * 10 ^ 22)
unfolding exact quadratic quartic
at_first = refl

at_past_last : exact past_last ≡ pos (3_904_811_542_654_994_225 * 10 ^ 13)
unfolding exact quadratic
at_past_last = refl

pub under_first : (w : ℕ) → w < 185_200_800 → units w <ℤ exact first
unfolding units
under_first w h = rw at_first (omega ints)

pub not_under_first : (w : ℕ) → 185_200_800 ≤ w → exact first ≤ℤ units w
unfolding units
not_under_first w h = rw at_first (omega ints)

pub within-limit : (w : ℕ) → units w <ℤ exact past_last → w ≤ 4_400_000_000
unfolding units
within-limit w h = let k : pos (w * 10 ^ 22) <ℤ pos (3_904_811_542_654_994_225 * 10 ^ 13) = rw at_past_last at h in omega ints

pub under_past_last : (w : ℕ) → w < 3_904_811_543 → units w <ℤ exact past_last
unfolding units
under_past_last w h = rw at_past_last (omega ints)

pub not_under_past_last : (w : ℕ) → 3_904_811_543 ≤ w → exact past_last ≤ℤ units w
unfolding units
not_under_past_last w h = rw at_past_last (omega ints)
