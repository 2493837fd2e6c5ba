use mathlib.Core.Path.{◌≡◌, refl, sym}
use mathlib.Core.Bool.{true, false}
use Prim.Native.Nat.{◌+◌}
use native.Mathlib.Omega.{arith}
use borrow.Author.Rules.{rules}
use lib.Signed.{lt_z, ◌<ℤ◌}
use Rattle.whole.proofs.Parts.{ints}
use Rattle.whole.proofs.Machine.{yes_lt, no_lt, lt_yes, lt_no}
use Rattle.quantity.specs.Quantities.{largest_ratio}
use Rattle.reference.specs.Reference.{working}
use Rattle.deviation.specs.Working.{Wr}
use Rattle.deviation.proofs.Rising.{not_falling}
use Rattle.reading.proofs.Ends.{under_all, over-all}
use Rattle.reading.proofs.from_step.least_ratio.Goals as goal

pub last_passing-under-requires-clause-known : goal.last_passing-under-requires-clause-known
last_passing-under-requires-clause-known c =
    let step = c.args.step.0 in
    let r = c.requires in
    let low : true ≡ lt_z (Wr c.args.form c.args.k 0) (working step) = sym (yes_lt (under_all c.args.form c.args.k r.0 step r.1 r.2)) in
    let high : false ≡ lt_z (Wr c.args.form c.args.k largest_ratio) (working step) = sym (no_lt (over-all c.args.form c.args.k r.0 step r.1 r.2)) in
    search rules

pub returns : goal.returns
returns c =
    let step = c.args.step.0 in
    let under = c.last_passing-under.result in
    let passed : true ≡ lt_z (Wr c.args.form c.args.k under) (working step) = search rules in
    let failed : false ≡ lt_z (Wr c.args.form c.args.k (under + 1)) (working step) = search rules in
    let below : Wr c.args.form c.args.k under <ℤ working step = lt_yes passed refl in
    let within = c.last_passing-under.ensures.within in
    record {
      within = omega (arith, within);
      enough = lt_no failed refl;
      least = λ v h. omega (ints, below, not_falling c.args.form c.args.k c.requires.0 v under (omega arith) (omega (arith, within)));
    }
