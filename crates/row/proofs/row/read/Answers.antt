use Rattle.text.proofs.Rows.{too_long}
use Rattle.row.proofs.Read.{no-row}
use Rattle.row.proofs.row.read.Goals as goal

pub returns-then-line-gt-LONGEST_LINE : goal.returns-then-line-gt-LONGEST_LINE
returns-then-line-gt-LONGEST_LINE g c = no-row g.R.Row.columns g.R.Row.row_of c.args.line.now (too_long g.R.Row.columns c.args.line.now c.if-line-gt-LONGEST_LINE.true)
