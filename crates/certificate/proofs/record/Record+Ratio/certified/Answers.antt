use Rattle.law.proofs.Subranges.{one_to_four}
use Rattle.certificate.proofs.Records.{roomy}
use Rattle.certificate.proofs.record.Record+Ratio.certified.Goals as goal

pub fitted-k-requires : goal.fitted-k-requires
fitted-k-requires c = record {
  above = c.requires.0;
  few = rw c.cells.ensures (one_to_four c.args.subrange);
  room = rw c.cells.ensures (roomy c.args.self c.requires.0 c.requires.4 c.args.subrange c.requires.1);
}
