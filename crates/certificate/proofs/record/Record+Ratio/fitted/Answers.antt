use mathlib.Core.Path.{refl}
use Rattle.law.specs.declared.cell.Cell.TheVariants.{Hg}
use Rattle.certificate.specs.Record.{fitted}
use Rattle.certificate.proofs.Few.{one, two, three, four}
use Rattle.certificate.proofs.record.Record+Ratio.fitted.Goals as goal

pub returns-in-len1 : goal.returns-in-len1
unfolding fitted
returns-in-len1 c = rw (one Hg c.args.used.now c.in-len1.len_at_least c.in-len1.len_below, c.of_one.ensures, c.point.ensures) (record { verdict = refl; same = λ e. refl })

pub returns-in-len2 : goal.returns-in-len2
unfolding fitted
returns-in-len2 c = rw (two Hg c.args.used.now c.in-len2.len_at_least c.in-len2.len_below, c.of_two.ensures, c.point-in-len2.ensures, c.point-in-len2-2.ensures) (record { verdict = refl; same = λ e. refl })

pub returns-in-len3 : goal.returns-in-len3
unfolding fitted
returns-in-len3 c = rw (three Hg c.args.used.now c.in-len3.len_at_least c.in-len3.len_below, c.of_three.ensures, c.point-in-len3.ensures, c.point-in-len3-2.ensures, c.point-in-len3-3.ensures) (record { verdict = refl; same = λ e. refl })

pub returns-in-len4 : goal.returns-in-len4
unfolding fitted
returns-in-len4 c = rw (four Hg c.args.used.now c.in-len4.len_at_least c.in-len4.len_below) (rw (c.point-in-len4.ensures, c.point-in-len4-2.ensures, c.point-in-len4-3.ensures, c.point-in-len4-4.ensures) at c.of_four.ensures)
