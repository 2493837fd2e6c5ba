use mathlib.Core.Path.{◌≡◌, sym, ◌∙◌}
use mathlib.Core.Bool.{false}
use Rattle.law.specs.Subranges.{cells}
use Rattle.fit.specs.Fit.{beyond}
use Rattle.certificate.specs.Record.{ratio_above, cell_missing, purity_cell_missing, fitted}
use Rattle.certificate.specs.AtFault.{at_fault}
use Rattle.std.proofs.Common.{arith}
use Rattle.std.proofs.lemmas.Grind.{common_steps}
use Rattle.certificate.proofs.Firsts.{if_deviating}
use Rattle.certificate.proofs.fault.Record+Ratio.at_fault.Goals as goal

pub returns-then-above : goal.returns-then-above
unfolding at_fault
returns-then-above c = grind (arith, common_steps)

pub returns-then-missing : goal.returns-then-missing
unfolding at_fault
returns-then-missing c = grind (arith, common_steps)

pub returns-then-purity_cell_missing : goal.returns-then-purity_cell_missing
unfolding at_fault
returns-then-purity_cell_missing c = grind (arith, common_steps)

pub returns-then-impure : goal.returns-then-impure
unfolding at_fault
returns-then-impure c =
    let passed-2 : ratio_above c.args.self ≡ false = sym c.ratio_above-above.ensures ∙ c.if-above.false in
    let passed-4 : cell_missing c.args.self (cells c.args.subrange) ≡ false = rw c.cells-needed.ensures at (sym c.cell_missing-missing.ensures ∙ c.if-missing.false) in
    let passed-5 : purity_cell_missing c.args.self ≡ false = sym c.purity_cell_missing.ensures ∙ c.if-purity_cell_missing.false in
    rw (passed-2, passed-4, passed-5, sym c.impure.ensures ∙ c.if-impure.true) c.first_impure.ensures

pub returns : goal.returns
unfolding at_fault
returns c =
    let passed-2 : ratio_above c.args.self ≡ false = sym c.ratio_above-above.ensures ∙ c.if-above.false in
    let passed-4 : cell_missing c.args.self (cells c.args.subrange) ≡ false = rw c.cells-needed.ensures at (sym c.cell_missing-missing.ensures ∙ c.if-missing.false) in
    let passed-5 : purity_cell_missing c.args.self ≡ false = sym c.purity_cell_missing.ensures ∙ c.if-purity_cell_missing.false in
    let args = c.args in
    rw (passed-2, passed-4, passed-5, sym c.impure.ensures ∙ c.if-impure.false)
    (c.first_deviating.ensures ∙ if_deviating args.subrange args.self (beyond (fitted args.self (cells args.subrange))))
