use Rattle.certificate.specs.Record.{purity_cell_missing}
use Rattle.certificate.proofs.record.Record+Ratio.purity_cell_missing.Goals as goal

pub returns : goal.returns
unfolding purity_cell_missing
returns c = rw (c.measured.ensures, c.measured-2.ensures)
