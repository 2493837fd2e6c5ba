use lib.ListN.{length}
use native.Mathlib.Omega.{arith}
use mathlib.Core.Path.{sym, ap, ◌∙◌}
use mathlib.Core.Bool.{not}
use borrow.Author.Tests.{lt-ltb, le-ltb, eq-eqb, ne_eqb}
use Rattle.text.proofs.Faults.{is-long, is-miscounted, is_found}
use Rattle.text.proofs.columns.fault_of.Goals as goal

pub returns-then-line-gt-LONGEST_LINE : goal.returns-then-line-gt-LONGEST_LINE
returns-then-line-gt-LONGEST_LINE c = sym (is-long c.args.columns.now c.args.line.now (lt-ltb 200 (length c.args.line.now) (omega arith)))

pub returns-then-commas_in-columns : goal.returns-then-commas_in-columns
returns-then-commas_in-columns c =
    sym (is-miscounted c.args.columns.now c.args.line.now (le-ltb 200 (length c.args.line.now) (omega arith))
    (ap not (ne_eqb _ _ (λ e. omega arith))))

pub returns : goal.returns
returns c =
    c.first_broken.ensures
    ∙ sym (is_found c.args.columns.now c.args.line.now (le-ltb 200 (length c.args.line.now) (omega arith)) (ap not (eq-eqb _ _ (omega arith))))
