use mathlib.Core.Path.{sym}
use Rattle.law.specs.declared.cell.Cell.TheVariants.{Hg, Ga, In, Sn, Zn, Al, Ag}
use Rattle.certificate.proofs.AsRatios.{cell_inside}
use Rattle.certificate.proofs.resistances.Record+Pair.ratios.Goals as goal

pub map-requires : goal.map-requires
map-requires c = cell_inside c.args.self c.requires

pub returns : goal.returns
returns c =
    let made = c.map.ensures.cells in
    rw (sym (made Hg), sym (made Ga), sym (made In), sym (made Sn), sym (made Zn), sym (made Al), sym (made Ag), sym c.map.ensures.subrange)
