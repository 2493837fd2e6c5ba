-- What is written for a row, answered or refused, is its answer: for lists of every kind.
use mathlib.Core.Path.{◌≡◌, refl, sym, ap, ◌∙◌, subst}
use mathlib.Core.Bool.{true}
use mathlib.Core.List.{List, [], ◌∷◌, ◌++◌, append_assoc, append-nil}
use Rattle.std.specs.Prelude.{Option, Some}
use Prim.Native.Nat.{ℕ, ◌≤◌}
use Prim.Native.String.{String}
use lib.ListN.{take, length}
use native.Mathlib.Omega.{arith}
use Rattle.whole.specs.Text.{ascii}
use Rattle.quantity.specs.declared.refusal.Refusal.{Refusal}
use Rattle.quantity.specs.Refusals.{number_of}
use Rattle.quantity.specs.Outcomes.{Outcome, answered, refused, Follows}
use Rattle.quantity.proofs.Outcomes.{some_number}
use Rattle.text.specs.Joined.{joined}
use Rattle.text.specs.Decimal.{decimal}
use Rattle.text.specs.declared.columns.Fault.{Fault}
use Rattle.text.specs.declared.columns.Fault.TheVariants.{TooLong, WrongCount, Broken}
use Rattle.text.specs.Columns.{well_formed, fault_of, values, field_at}
use Rattle.text.proofs.Faults.{no_fault}
use Rattle.text.proofs.Names.{Repeated}
use Rattle.line.specs.declared.lent.LineAnswer.{LineAnswer}
use Rattle.line.specs.Kinds.{Kind, line_end, answer_line, blanks, own_columns, refusal_of, fault_columns, nameless_line, fault_line}
use Rattle.line.specs.Writing.{commaed, refused_text, fault_start, fault_text}
use Rattle.line.specs.Lent.{PlacedAs, AnsweredAs}

-- texts joined by commas, the last one aside, have a comma after each
joined-last : (xs : List (List ℕ)) (c : List ℕ) → joined (xs ++ (c ∷ [])) ≡ commaed xs ++ c
joined-last [] c = refl
joined-last (x ∷ []) c = ap (λ (l : List ℕ). l ++ c) (sym (append-nil (x ++ ascii ",")))
joined-last (x ∷ y ∷ ys) c = ap (λ (l : List ℕ). x ++ ascii "," ++ l) (joined-last (y ∷ ys) c) ∙ sym (append_assoc (x ++ ascii ",") (commaed (y ∷ ys)) c)

-- so an answer line is its two names, its own columns and the code
pub answer-text : (first second : List ℕ) (own : List (List ℕ)) (code : ℕ)
    → (first ++ ascii "," ++ second ++ ascii ",") ++ commaed own ++ decimal code ++ line_end ≡ answer_line first second own code
answer-text first second own code =
    ap (λ (l : List ℕ). l ++ decimal code ++ line_end) names ∙ ap (λ (l : List ℕ). l ++ line_end) (sym (joined-last (first ∷ second ∷ own) (decimal code)))
  where
    names : (first ++ ascii "," ++ second ++ ascii ",") ++ commaed own ≡ (first ++ ascii ",") ++ ((second ++ ascii ",") ++ commaed own)
    names = ap (λ (l : List ℕ). l ++ commaed own) (append_assoc (first ++ ascii ",") second (ascii ",")) ∙ append_assoc (first ++ ascii ",") (second ++ ascii ",") (commaed own)

-- a code of 0 in its digit
answered-end : (x : List ℕ) → x ++ ascii "0\r\n" ≡ x ++ decimal 0 ++ line_end
unfolding decimal
answered-end x = sym (append_assoc x (decimal 0) line_end)

module _ (kind : Kind) (line out out' : List ℕ) (x : Option LineAnswer) (w : well_formed kind.columns line ≡ true) (n : ℕ) (names : Repeated line n) where
  placed_row : (o : Outcome kind.Answer) → Follows (kind.rule (values kind.columns line)) o
      → PlacedAs o.code (take n line ++ commaed (own_columns kind o) ++ decimal o.code ++ line_end) out out' x → AnsweredAs kind line out out' x
  placed_row o r p =
      let text = ap (λ (l : List ℕ). l ++ commaed (own_columns kind o) ++ decimal o.code ++ line_end) names.first ∙ answer-text (field_at 0 line) (field_at 1 line) (own_columns kind o) o.code in
      (o.code, answer_line (field_at 0 line) (field_at 1 line) (own_columns kind o) o.code, rw (no_fault kind.columns line w) (o, r, refl, refl), subst (λ (t : List ℕ). PlacedAs o.code t out out' x) text p)

  pub placed-answered : (a : kind.Answer) → Follows (kind.rule (values kind.columns line)) (answered a)
      → PlacedAs 0 (take n line ++ commaed (kind.written a) ++ ascii "0\r\n") out out' x → AnsweredAs kind line out out' x
  placed-answered a r p = placed_row (answered a) r (subst (λ (t : List ℕ). PlacedAs 0 t out out' x) (answered-end (take n line ++ commaed (kind.written a))) p)

  pub placed-refused : (zeros : kind.Answer) (why : Refusal) → Follows (kind.rule (values kind.columns line)) (refused zeros (number_of why))
      → PlacedAs (number_of why) (refused_text (take n line) (commaed (blanks kind.own)) (number_of why)) out out' x → AnsweredAs kind line out out' x
  placed-refused zeros why r p = placed_row (refused zeros (number_of why)) r (rw (some_number why) p)

-- ---- a line that is no row
-- the names of a fault's answer, and then a comma for each own column: the first own column stands before the first comma
fault-text : (title : String) (titles : List String) (fault : Fault) (why : Refusal)
    → refused_text (fault_start fault) (commaed (blanks (title ∷ titles))) (number_of why) ≡ nameless_line (fault_columns (title ∷ titles) fault) why
fault-text title titles TooLong why = answer-text (ascii "?") (ascii "?") (blanks (title ∷ titles)) (number_of why)
fault-text title titles WrongCount why = answer-text (ascii "?") (ascii "?") (blanks (title ∷ titles)) (number_of why)
fault-text title titles (Broken n) why =
    ap (λ (l : List ℕ). l ++ decimal (number_of why) ++ line_end)
    (append_assoc (ascii "?,?,") (decimal n) (commaed (blanks (title ∷ titles))) ∙ ap (λ (l : List ℕ). ascii "?,?," ++ l) (sym (append_assoc (decimal n) (ascii ",") (commaed (blanks titles)))))
    ∙ answer-text (ascii "?") (ascii "?") (decimal n ∷ blanks titles) (number_of why)

pub placed-fault : (kind : Kind) (title : String) (titles : List String) → kind.own ≡ title ∷ titles → (line out out' : List ℕ) (x : Option LineAnswer) (fault : Fault) → fault_of kind.columns line ≡ Some fault
    → PlacedAs (number_of (refusal_of fault)) (fault_text fault (commaed (blanks kind.own))) out out' x → AnsweredAs kind line out out' x
placed-fault kind title titles own line out out' x fault found p =
    let text : fault_text fault (commaed (blanks kind.own)) ≡ fault_line kind fault =
    subst (λ (own : List String). fault_text fault (commaed (blanks own)) ≡ nameless_line (fault_columns own fault) (refusal_of fault)) (sym own) (fault-text title titles fault (refusal_of fault)) in
    (number_of (refusal_of fault), fault_line kind fault, rw found (refl, refl), subst (λ (t : List ℕ). PlacedAs (number_of (refusal_of fault)) t out out' x) text p)

-- of any kind that has an own column
pub faulty : (kind : Kind) → 1 ≤ length kind.own → (line out out' : List ℕ) (x : Option LineAnswer) (fault : Fault) → fault_of kind.columns line ≡ Some fault
    → PlacedAs (number_of (refusal_of fault)) (fault_text fault (commaed (blanks kind.own))) out out' x → AnsweredAs kind line out out' x
faulty kind some = by kind.own refl some
  where
    by : (own : List String) → kind.own ≡ own → 1 ≤ length own → (line out out' : List ℕ) (x : Option LineAnswer) (fault : Fault) → fault_of kind.columns line ≡ Some fault
        → PlacedAs (number_of (refusal_of fault)) (fault_text fault (commaed (blanks kind.own))) out out' x → AnsweredAs kind line out out' x
    by [] is none = absurd (omega arith)
    by (title ∷ titles) is some = placed-fault kind title titles is
