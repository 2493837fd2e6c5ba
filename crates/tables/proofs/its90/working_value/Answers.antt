use Rattle.whole.proofs.Parts.{ints}
use Rattle.whole.proofs.Machine.{back}
use Rattle.reference.proofs.Rising.{between_ends}
use Rattle.reference.proofs.Values.{at_zero}
use Rattle.tables.proofs.its90.working_value.Goals as goal

pub returns : goal.returns
returns c = let ends = rw at_zero at (between_ends c.args.step (omega ints) (omega ints)) in
    rw (back _ c.working_at.type_inv, c.working_at.ensures, back _ c.ranges.step.sfits) (omega (ints, ends.0))
