use Rattle.lines.proofs.Appending.{append-over}
use native.Mathlib.Omega.{arith}
use Rattle.lines.proofs.append.Goals as goal

pub returns : goal.returns
returns c = append-over c.args.held.now c.args.s.now c.args.count c.requires.0 c.requires.1 c.fill.new.held (omega (arith, c.requires, c.if-s-room.false)) c.fill.ensures
