use borrow.Author.Rules.{rules}
use mir.Syntax.{w64}
use mir.Val.{SFits}
use mir.Facts.{to_z-of_z}
use Rattle.curve.proofs.tolerance.tolerance_test.Goals as goal

pub returns-in-65 : goal.returns-in-65
returns-in-65 c =
    let known : SFits w64 c.args.bath.0 = search rules in
    rw (c.in-65.is, ← to_z-of_z known) c.test_by_class.ensures

pub returns-in-66 : goal.returns-in-66
returns-in-66 c =
    let known : SFits w64 c.args.bath.0 = search rules in
    rw (c.in-66.is, ← to_z-of_z known) c.test_by_class-in-66.ensures
