use Rattle.law.specs.declared.cell.Cell.TheVariants.{Hg, Ga, In, Sn, Zn, Al, Ag}
use Rattle.certificate.proofs.record.Record.map.Goals as goal

pub f-requires : goal.f-requires
f-requires g c = c.requires Hg

pub f-requires-2 : goal.f-requires-2
f-requires-2 g c = c.requires Ga

pub f-requires-3 : goal.f-requires-3
f-requires-3 g c = c.requires In

pub f-requires-4 : goal.f-requires-4
f-requires-4 g c = c.requires Sn

pub f-requires-5 : goal.f-requires-5
f-requires-5 g c = c.requires Zn

pub f-requires-6 : goal.f-requires-6
f-requires-6 g c = c.requires Al

pub f-requires-7 : goal.f-requires-7
f-requires-7 g c = c.requires Ag
