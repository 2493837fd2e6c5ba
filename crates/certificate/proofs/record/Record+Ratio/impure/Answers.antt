use Rattle.certificate.specs.Record.{impure}
use Rattle.certificate.proofs.record.Record+Ratio.impure.Goals as goal

pub returns : goal.returns
unfolding impure
returns c = rw (c.is_pure.ensures, c.to_silver-to_silver.ensures, c.form.ensures)
