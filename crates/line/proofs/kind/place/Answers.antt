use Rattle.row.proofs.Read.{is_row, is-fault}
use Rattle.line.proofs.Answers.{faulty}
use Rattle.line.proofs.kind.place.Goals as goal

pub answer_row-requires : goal.answer_row-requires
answer_row-requires g c =
    let row = is_row g.K.Row.Row.columns g.K.Row.Row.row_of c.args.line.now c.in-Ok.row c.in-Ok.ensures in
    (rw g.met.K.Kind.columns at row.0, row.1)

pub place_fault-requires : goal.place_fault-requires
place_fault-requires g c = rw c.commas.ensures g.met.K.Kind.few

pub returns-in-Err : goal.returns-in-Err
returns-in-Err g c =
    let found = rw g.met.K.Kind.columns at (is-fault g.K.Row.Row.columns g.K.Row.Row.row_of c.args.line.now c.in-Err.fault c.in-Err.ensures) in
    faulty g.K.Kind.kind g.met.K.Kind.own c.args.line.now c.args.out.now c.place_fault.new.out c.place_fault.result c.in-Err.fault found (rw c.commas.ensures at c.place_fault.ensures)
