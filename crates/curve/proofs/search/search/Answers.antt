use mathlib.Core.Path.{◌≡◌, refl}
use mathlib.Core.Bool.{true, false}
use Prim.Native.Nat.{◌+◌}
use native.Mathlib.Omega.{arith}
use borrow.Author.Rules.{rules}
use lib.Signed.{le_z, ◌<ℤ◌}
use Rattle.whole.proofs.Machine.{le_yes, le_no}
use Rattle.whole.proofs.Largest.{largest-by-next}
use Rattle.curve.specs.Curve.{exact, units, first, last}
use Rattle.curve.specs.Places.{step_at}
use Rattle.curve.proofs.Rising.{one_up}
use Rattle.curve.proofs.Places.{from_first, to_last, next_place}
use Rattle.curve.proofs.search.search.Goals as goal

-- neighbouring places: the lower one has the largest step
pub returns : goal.returns
returns c =
    let place = c.last_passing.result in
    let passed : true ≡ le_z (exact (step_at place)) (units c.args.w) = search rules in
    let failed : false ≡ le_z (exact (step_at (place + 1))) (units c.args.w) = search rules in
    let after : units c.args.w <ℤ exact (step_at (place + 1)) = le_no failed refl in
    largest-by-next exact first last one_up (units c.args.w) (step_at place) (from_first place)
    (to_last place (omega (arith, c.last_passing.ensures.within, c.requires.from_lt_to))) (le_yes passed refl) (rw (next_place place) after)
