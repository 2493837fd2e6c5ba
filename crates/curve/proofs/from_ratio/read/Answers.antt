use mathlib.Core.Path.{◌≡◌}
use Prim.Native.Nat.{ℕ, ◌≤◌}
use native.Mathlib.Omega.{arith}
use lib.IntN.{pos, ◌+ℤ◌}
use mir.Syntax.{w64}
use mir.Val.{SFits, to_z}
use mir.Facts.{to_z_pos, to_z-of_z}
use Rattle.whole.proofs.Parts.{ints, one_part, add_parts}
use Rattle.curve.specs.Curve.{first}
use Rattle.curve.specs.Places.{step_at}
use Rattle.curve.proofs.Places.{as_sum, place_bound}
use Rattle.curve.proofs.Ends.{under_first, not_under_first, under_past_last, not_under_past_last}
use Rattle.curve.proofs.Outcomes.{reads-below, reads_past, reads-step}
use Rattle.curve.proofs.from_ratio.read.Goals as goal

-- a place, read as a signed number
signed : (place : ℕ) → place ≤ 10_500_000 → to_z w64 place ≡ pos place
signed place h = to_z_pos w64 (omega arith)

fits : (place : ℕ) → place ≤ 10_500_000 → SFits w64 (first +ℤ to_z w64 place)
fits place h = rw (signed place h) (omega (ints, add_parts first (pos place), one_part (first +ℤ pos place)))

pub returns-then-ratio-lt-AT_FIRST : goal.returns-then-ratio-lt-AT_FIRST
returns-then-ratio-lt-AT_FIRST c =
    let w = c.args.w.0 in
    reads-below w (omega arith) (under_first w (omega arith))

pub returns-then-ratio-ge-AT_PAST_LAST : goal.returns-then-ratio-ge-AT_PAST_LAST
returns-then-ratio-ge-AT_PAST_LAST c =
    let w = c.args.w.0 in
    reads_past w (omega arith) (not_under_first w (omega arith)) (not_under_past_last w (omega arith))

pub find-place-requires : goal.find-place-requires
find-place-requires c =
    let w = c.args.w.0 in
    (omega arith, not_under_first w (omega arith), under_past_last w (omega arith))

pub overflow_cast-result : goal.overflow_cast-result
overflow_cast-result c = omega (ints, place_bound c.find-place.result c.find-place.ensures.to_last)

pub overflow_add-result : goal.overflow_add-result
overflow_add-result c = fits c.find-place.result (place_bound c.find-place.result c.find-place.ensures.to_last)

pub returns : goal.returns
returns c =
    let w = c.args.w.0 in
    let place = c.find-place.result in
    let bound = place_bound place c.find-place.ensures.to_last in
    rw (to_z-of_z (fits place bound), signed place bound, as_sum place)
    (reads-step w (step_at place) (omega arith) (not_under_first w (omega arith)) (under_past_last w (omega arith)) c.find-place.ensures)
