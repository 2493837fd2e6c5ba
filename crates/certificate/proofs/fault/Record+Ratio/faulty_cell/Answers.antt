use mathlib.Core.Path.{sym, ◌∙◌}
use Rattle.certificate.specs.AtFault.{cell_at_fault}
use Rattle.certificate.proofs.fault.Record+Ratio.faulty_cell.Goals as goal

pub returns-in_err-named : goal.returns-in_err-named
unfolding cell_at_fault
returns-in_err-named c = rw (sym c.named.ensures ∙ c.in_err-named.was) c.from_residual.ensures

pub returns : goal.returns
unfolding cell_at_fault
returns c = rw (sym c.named.ensures ∙ c.in_ok-named.was) c.at_fault.ensures
