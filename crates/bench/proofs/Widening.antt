-- Wider limits of a resistance: of the bench's lists only those lines move that were refused by 1 or by 14.
use mathlib.Core.Path.{refl}
use Prim.Native.Nat.{ℕ, ◌≤◌}
use Rattle.curve.proofs.Widening.{tolerance_widens}
use Rattle.certificate.proofs.Widening.{resistances_widen as rule-widens}
use Rattle.text.specs.declared.columns.Holds.TheVariants.{Id, Name, Letter, Signed}
use Rattle.text.specs.Columns.{letter_at, integer_at, count_at}
use Rattle.text.proofs.Widening.{AllEased, none_left, eased, as_it_was, more_digits}
use Rattle.row.specs.Places.{digits}
use Rattle.row.specs.Resistances as pairs
use Rattle.row.specs.Tolerances as tests
use Rattle.line.specs.Promised.{Raised}
use Rattle.line.proofs.Unique.{one_answer}
use Rattle.line.proofs.Widening.{only_refused_move, raised}
use Rattle.bench.specs.Certificates.{resistances_up_to}
use Rattle.bench.specs.Tolerances.{tolerances_up_to}
use Rattle.bench.specs.Promised.{ResistanceListWidens, ToleranceListWidens}
use Rattle.bench.proofs.Unique.{resistances_row, test_row}

module _ (few many : ℕ) (h : few ≤ many) where
  tests-eased : AllEased (tests.columns_up_to few) (tests.columns_up_to many)
  tests-eased =
      eased (as_it_was Id) (eased (as_it_was Letter) (eased (as_it_was (Signed digits)) (eased (more_digits few many h) (eased (more_digits few many h) none_left))))

  pairs-eased : AllEased (pairs.columns_up_to few) (pairs.columns_up_to many)
  pairs-eased =
      let more = more_digits few many h in
      eased (as_it_was Id) (eased (as_it_was Name)
      (eased more (eased more (eased more (eased more (eased more (eased more (eased more (eased more (eased more (eased more (eased more (eased more (eased more (eased more none_left)))))))))))))))

-- ---- records given as resistances
pub resistances_widen : ResistanceListWidens
resistances_widen before after h =
    only_refused_move (resistances_up_to after) (resistances_up_to before).columns (resistances_up_to before).rule refl (pairs-eased before.digits after.digits h.digits)
    (λ row. rule-widens (pairs.resistances_from row) before.largest after.largest h.largest)
    (one_answer (resistances_up_to after) (resistances_row after))

pub resistances-raised : Raised resistances_up_to
resistances-raised = raised resistances_up_to resistances_widen

-- ---- tolerance tests
pub tolerances_widen : ToleranceListWidens
tolerances_widen before after h =
    only_refused_move (tolerances_up_to after) (tolerances_up_to before).columns (tolerances_up_to before).rule refl (tests-eased before.digits after.digits h.digits)
    (λ row. tolerance_widens (letter_at 1 row) (integer_at 2 row) (count_at 3 row) (count_at 4 row) before.largest after.largest h.largest)
    (one_answer (tolerances_up_to after) (test_row after))

pub tolerances-raised : Raised tolerances_up_to
tolerances-raised = raised tolerances_up_to tolerances_widen
