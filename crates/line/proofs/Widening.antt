-- Wider limits of a resistance: of a list's lines only those move that were refused by 1 or by 14.
use mathlib.Core.Path.{◌≡◌, refl, sym, ◌∙◌, subst}
use mathlib.Core.Bool.{false, true≢false}
use mathlib.Core.List.{List}
use Rattle.std.specs.Prelude.{Option, None, Some}
use Rattle.std.proofs.lemmas.Option.{none-some}
use Prim.Native.Nat.{ℕ, ◌≤◌}
use native.Mathlib.Omega.{arith}
use lib.Dec.{eqb}
use borrow.Author.Tests.{eq-eqb}
use Rattle.whole.proofs.Any.{or_false}
use Rattle.quantity.specs.Refusals.{number_of}
use Rattle.quantity.specs.Outcomes.{Rule, Follows}
use Rattle.quantity.specs.Promised.{OnlyOnesMove}
use Rattle.text.specs.declared.columns.Holds.TheVariants.{Id, Name, Natural, Signed}
use Rattle.text.specs.declared.columns.Fault.{Fault}
use Rattle.text.specs.declared.columns.Fault.TheVariants.{Broken}
use Rattle.text.specs.Columns.{Column, Value, header_of, fault_of, values, field_at, count_at}
use Rattle.text.proofs.Round.{number_read_back}
use Rattle.text.proofs.Widening.{AllEased, none_left, eased, as_it_was, more_digits, fault-stays, row_says}
use Rattle.reading.proofs.Widening.{given_widens}
use Rattle.row.specs.Limits.{Limits, limits, limits_before}
use Rattle.row.specs.Places.{digits, given_at}
use Rattle.row.specs.Readings.{columns_up_to}
use Rattle.line.specs.Kinds.{Kind, RowAnswered, AnsweredBy, Answered, answer_line, own_columns, fault_line, refusal_of}
use Rattle.line.specs.Readings.{readings_up_to}
use Rattle.line.specs.Promised.{OneAnswer, may_move, OnlyRefusedMove, ListWidens, ReadingListWidens, Raised, CanBeTyped}
use Rattle.line.proofs.Unique.{one_answer}
use Rattle.line.proofs.ReadRows.{reading_row}

-- the same kind by other columns and another rule
abbrev pub under : (kind : Kind) → List Column → (List Value → Rule kind.Answer) → Kind
under kind columns rule = record { columns = columns; second = kind.second; own = kind.own; Answer = kind.Answer; rule = rule; written = kind.written }

module _ (after : Kind) (columns : List Column) (rule : List Value → Rule after.Answer) (wider : AllEased columns after.columns)
    (moves : (row : List Value) → OnlyOnesMove (rule row) (after.rule row)) (one : OneAnswer after) (line : List ℕ) where
  abbrev before : Kind
  before = under after columns rule

  said : values columns line ≡ values after.columns line
  said = row_says columns after.columns wider line

  -- no field was broken where the number is not 14
  none-broken : (n : ℕ) (t : List ℕ) → Answered before line n t → eqb n 14 ≡ false → (k : ℕ) → fault_of columns line ≡ Some (Broken k) → ⊥
  none-broken n t h not-14 k e =
      let broken : AnsweredBy before line (Some (Broken k)) n t = rw e at h in
      true≢false (sym (eq-eqb n 14 broken.0) ∙ not-14)

  stays : (n : ℕ) (t : List ℕ) → Answered before line n t → may_move n ≡ false → Answered after line n t
  stays n t h stay = by (fault_of columns line) (fault-stays columns after.columns wider line (none-broken n t h neither.1)) h
    where
      neither : (eqb n 1 ≡ false) × (eqb n 14 ≡ false)
      neither = or_false (eqb n 1) (eqb n 14) stay

      by : (found : Option Fault) → fault_of after.columns line ≡ found → AnsweredBy before line found n t → Answered after line n t
      by None e (o, h, i, f) =
          let row = values after.columns line in
          let follows : Follows (rule row) o = rw said at h in
          let due : RowAnswered after line n t = (o, (moves row).stays o follows (rw i at neither.0), i, f) in
          subst (λ (found : Option Fault). AnsweredBy after line found n t) (sym e) due
      by (Some fault) e h = subst (λ (found : Option Fault). AnsweredBy after line found n t) (sym e) h

  had : (n : ℕ) (t : List ℕ) → Answered after line n t → (old : ℕ) × (old_text : List ℕ) × Answered before line old old_text
  had n t h = by (fault_of columns line) refl
    where
      by : (found : Option Fault) → fault_of columns line ≡ found → (old : ℕ) × (old_text : List ℕ) × Answered before line old old_text
      by (Some fault) e =
          let old = number_of (refusal_of fault) in
          let text = fault_line before fault in
          (old, text, subst (λ (found : Option Fault). AnsweredBy before line found old text) (sym e) (refl, refl))
      by None e =
          let row = values after.columns line in
          let still : fault_of after.columns line ≡ None = fault-stays columns after.columns wider line (λ k z. none-some (Broken k) (sym e ∙ z)) ∙ e in
          let (o', follows, i, f) : RowAnswered after line n t = rw still at h in
          let (o, old_follows) = (moves row).had o' follows in
          let text = answer_line (field_at 0 line) (field_at 1 line) (own_columns before o) o.code in
          let due : RowAnswered before line o.code text = (o, rw said old_follows, refl, refl) in
          (o.code, text, subst (λ (found : Option Fault). AnsweredBy before line found o.code text) (sym e) due)

pub only_refused_move : (after : Kind) (columns : List Column) (rule : List Value → Rule after.Answer) → header_of columns ≡ header_of after.columns → AllEased columns after.columns
    → ((row : List Value) → OnlyOnesMove (rule row) (after.rule row)) → OneAnswer after → OnlyRefusedMove (under after columns rule) after
only_refused_move after columns rule titles wider moves one =
    record {
      input = titles;
      output = refl;
      stays = stays after columns rule wider moves one;
      same = λ line old number old_text text h z k. one line number old text old_text k (stays after columns rule wider moves one line old old_text h z);
      had = had after columns rule wider moves one;
    }

-- ---- readings
module _ (few many : ℕ) (h : few ≤ many) where
  columns-eased : AllEased (columns_up_to few) (columns_up_to many)
  columns-eased =
      eased (as_it_was Id) (eased (as_it_was Name) (eased (more_digits few many h) (eased (more_digits few many h)
      (eased (as_it_was (Signed digits)) (eased (as_it_was (Signed digits)) (eased (as_it_was (Signed digits)) (eased (as_it_was (Signed digits))
      (eased (as_it_was (Natural digits)) none_left))))))))

pub readings_widen : ReadingListWidens
readings_widen before after h =
    only_refused_move (readings_up_to after) (readings_up_to before).columns (readings_up_to before).rule refl (columns-eased before.digits after.digits h.digits)
    (λ row. given_widens (given_at 4 row) (count_at 2 row) (count_at 3 row) before.largest after.largest h.largest)
    (one_answer (readings_up_to after) (reading_row after))

-- ---- request 9
pub raised : (kind : Limits → Kind) → ListWidens kind → Raised kind
raised kind widens = widens limits_before limits (record { largest = omega arith; digits = omega arith })

pub readings-raised : Raised readings_up_to
readings-raised = raised readings_up_to readings_widen

pub can_be_typed : CanBeTyped
can_be_typed r h = number_read_back limits.digits r (omega arith) (omega (arith, h))
