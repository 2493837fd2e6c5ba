use Rattle.row.proofs.Read.{when-read, when-not-read, no-fault-none, not-read}
use Rattle.row.proofs.row.parse.Goals as goal

pub returns-in-Some : goal.returns-in-Some
returns-in-Some g c = when-read g.R.Row.columns g.R.Row.row_of c.args.line.now c.in-Some.row c.in-Some.ensures

pub fault_in-requires : goal.fault_in-requires
fault_in-requires g c =
    let no = when-not-read g.R.Row.columns g.R.Row.row_of c.args.line.now c.in-None.ensures in
    rw c.columns.ensures (g.met.R.Row.narrow, no-fault-none g.R.Row.columns g.R.Row.row_of c.args.line.now no)

pub returns-in-None : goal.returns-in-None
returns-in-None g c = not-read g.R.Row.columns g.R.Row.row_of c.args.line.now c.fault_in.result (rw c.columns.ensures at c.fault_in.ensures)
