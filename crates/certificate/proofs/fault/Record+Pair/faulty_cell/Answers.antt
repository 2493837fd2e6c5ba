use mathlib.Core.Path.{◌≡◌, sym, ◌∙◌}
use mathlib.Core.Bool.{false}
use Rattle.certificate.specs.Resistances.{outside}
use Rattle.certificate.specs.AtFault.{at_fault_by, cell_at_fault_by}
use Rattle.certificate.proofs.AtFault.{fault-of-ratios}
use Rattle.certificate.proofs.fault.Record+Pair.faulty_cell.Goals as goal

pub returns-in_err-subrange : goal.returns-in_err-subrange
unfolding cell_at_fault_by
returns-in_err-subrange c = rw (sym c.named.ensures ∙ c.in_err-subrange.was) c.from_residual.ensures

pub returns-then-outside : goal.returns-then-outside
unfolding cell_at_fault_by at_fault_by
returns-then-outside c = rw (sym c.named.ensures ∙ c.in_ok-subrange.was, sym c.outside.ensures ∙ c.if-outside.true) c.first_outside.ensures

pub returns : goal.returns
unfolding cell_at_fault_by
returns c =
    let inside : outside c.args.self ≡ false = sym c.outside.ensures ∙ c.if-outside.false in
    rw (sym c.named.ensures ∙ c.in_ok-subrange.was, fault-of-ratios c.in_ok-subrange.subrange c.args.self inside) (rw c.ratios.ensures at c.at_fault.ensures)
