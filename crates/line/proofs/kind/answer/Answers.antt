use Rattle.line.proofs.Buffers.{placed-or-short}
use Rattle.line.proofs.kind.answer.Goals as goal

pub returns : goal.returns
returns g c =
    let (number, text, due, placed) = c.place.ensures in
    (number, text, due, rw (c.unwrap_or.ensures, c.no_room.ensures) (placed-or-short number text c.args.out.now c.place.new.out c.place.result placed))
