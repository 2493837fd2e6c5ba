use Rattle.certificate.proofs.Records.{not_above, not_high}
use Rattle.certificate.proofs.record.Record+Ratio.point.Goals as goal

pub offset-requires : goal.offset-requires
offset-requires c = rw c.at-w.ensures (not_above c.args.self c.requires c.args.cell)

pub cell_deviation-requires : goal.cell_deviation-requires
cell_deviation-requires c = rw (c.reference.ensures, c.at-w.ensures) (not_high c.args.cell, not_above c.args.self c.requires c.args.cell)
