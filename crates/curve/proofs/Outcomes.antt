-- What a ratio reads and what ratio a step has, from the side on which it lies.
use mathlib.Core.Path.{refl}
use Prim.Native.Nat.{ℕ, ◌<◌, ◌≤◌, ◌^◌}
use borrow.Author.Tests.{lt-ltb, le-ltb}
use lib.IntN.{ℤ, nat_abs}
use lib.Signed.{◌≤ℤ◌, ◌<ℤ◌}
use Rattle.whole.specs.Largest.{Largest}
use Rattle.whole.proofs.Parts.{ints, abs_parts, one_part}
use Rattle.whole.proofs.Machine.{yes_lt, no_lt, yes_le, no_le}
use Rattle.quantity.specs.Quantities.{largest_ratio}
use Rattle.quantity.specs.Outcomes.{refused, Follows}
use Rattle.law.specs.Answers.{no_step}
use Rattle.curve.specs.Curve.{exact, units, first, last, past_last}
use Rattle.curve.specs.Ways.{read_ratio}
use Rattle.curve.specs.Promised.{Reads}

pub reads-above : (w : ℕ) → largest_ratio < w → Follows (read_ratio w) (refused no_step 2)
reads-above w h = rw (lt-ltb largest_ratio w h) refl

pub reads-below : (w : ℕ) → w ≤ largest_ratio → units w <ℤ exact first → Follows (read_ratio w) (refused no_step 8)
reads-below w l h = rw (le-ltb largest_ratio w l, yes_lt h) refl

pub reads_past : (w : ℕ) → w ≤ largest_ratio → exact first ≤ℤ units w → exact past_last ≤ℤ units w → Follows (read_ratio w) (refused no_step 9)
reads_past w l h k = rw (le-ltb largest_ratio w l, no_lt h, yes_le k) refl

pub reads-step : (w : ℕ) (step : ℤ) → w ≤ largest_ratio → exact first ≤ℤ units w → units w <ℤ exact past_last → Largest exact first last (units w) step → Reads (read_ratio w) step
reads-step w step b h k l = rw (le-ltb largest_ratio w b, no_lt h, no_le k) (refl, (refl, l))

-- a step of the curve is small
pub step_small : (value step : ℤ) → Largest exact first last value step → nat_abs step < 2 ^ 31
step_small value step l = omega (ints, l.from_first, l.to_last, abs_parts step, one_part step)
