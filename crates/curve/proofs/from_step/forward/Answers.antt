use borrow.Author.Rules.{rules}
use mathlib.Core.Path.{◌≡◌, refl}
use lib.IntN.{pos, nat_abs, ◌-ℤ◌}
use lib.Signed.{◌≤ℤ◌}
use mir.Syntax.{w64}
use mir.Val.{SFits}
use mir.Facts.{to_z-of_z}
use Rattle.whole.proofs.Parts.{ints, one_part, sub_parts, abs_parts}
use Rattle.whole.proofs.Machine.{lt_no, no_lt}
use Rattle.curve.specs.Curve.{first, last}
use Rattle.curve.specs.Ways.{RatioAt}
use Rattle.curve.proofs.Places.{as_difference}
use Rattle.curve.proofs.from_step.forward.Goals as goal

pub returns : goal.returns
returns c =
    let step = c.args.step.0 in
    let known : SFits w64 step = search rules in
    let not-under : first ≤ℤ step = lt_no refl (rw (to_z-of_z known) at c.if-t-lt-FIRST.false) in
    let not-over : step ≤ℤ last = lt_no refl (rw (to_z-of_z known) at c.if-t-gt-LAST.false) in
    let s = sub_parts step first in
    let o = one_part (step -ℤ first) in
    let fits : SFits w64 (step -ℤ first) = omega (ints, s, o) in
    let placed : step -ℤ first ≡ pos (nat_abs (step -ℤ first)) = omega (ints, s, o, abs_parts (step -ℤ first)) in
    let ratio : RatioAt step c.nine_decimals.result =
    rw (to_z-of_z known, to_z-of_z fits, as_difference step (nat_abs (step -ℤ first)) placed) at c.nine_decimals.ensures in
    rw (no_lt not-under, no_lt not-over) (refl, (refl, ratio))
