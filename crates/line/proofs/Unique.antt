-- A line has one answer, which is short, has a number of its own, and is what it was before request 2 unless that was 10: for lists of every kind.
use mathlib.Core.Path.{◌≡◌, refl, sym, ap, ◌∙◌, subst}
use mathlib.Core.Bool.{Bool, true, false, true≢false, ◌||◌}
use mathlib.Core.List.{List, [], ◌∷◌, ◌++◌}
use Rattle.std.specs.Prelude.{Option, None, Some}
use Prim.Native.Nat.{ℕ, ◌+◌, ◌≤◌}
use Prim.Native.String.{String}
use native.Mathlib.Omega.{arith}
use lib.Dec.{leb, eqb}
use lib.ListN.{length, length-append}
use borrow.Author.Tests.{le-leb, eq-eqb, ne_eqb}
use Rattle.whole.specs.Choice.{if◌then◌otherwise◌}
use Rattle.whole.specs.Text.{ascii}
use Rattle.whole.proofs.Choice.{if_both}
use Rattle.quantity.specs.Outcomes.{Outcome, Follows}
use Rattle.quantity.specs.Refusals.{number_of}
use Rattle.quantity.specs.declared.refusal.Refusal.TheVariants.{FieldBroken}
use Rattle.text.specs.declared.columns.Fault.{Fault}
use Rattle.text.specs.declared.columns.Fault.TheVariants.{TooLong, WrongCount, Broken}
use Rattle.text.specs.Decimal.{decimal}
use Rattle.text.specs.Columns.{Column, Value, fault_of, well_formed, values, field_at}
use Rattle.text.specs.Promised.{FirstToBreak}
use Rattle.text.proofs.Decimals.{few_digits}
use Rattle.text.proofs.Faults.{first-named, a-row, some_fault}
use Rattle.line.specs.declared.lent.LineAnswer.{LineAnswer}
use Rattle.line.specs.Kinds.{Kind, line_end, RowAnswered, AnsweredBy, answer_line, blanks, own_columns, refusal_of, is_fault, fault_columns, nameless_line}
use Rattle.line.specs.Writing.{commaed}
use Rattle.line.specs.Lent.{Placed, PlacedAs}
use Rattle.line.specs.Promised.{OneAnswer, OneAnswerInto, AnswersFit, NumbersOfLines, OthersBlank, FieldNamed, AnsweredBefore, WereTens, HadAnswer, LinesKept}
use Rattle.line.proofs.Answers.{answer-text}

-- ---- in a lent buffer
-- what is answered and what is left are the same two
both_are : {A B : Type 0} {a x y : A} {b u v : B} → (x ≡ a) × (u ≡ b) → (y ≡ a) × (v ≡ b) → (x ≡ y) × (u ≡ v)
both_are h k = (h.0 ∙ sym k.0, h.1 ∙ sym k.1)

pub one_placed : (n : ℕ) (t out out' out'' : List ℕ) (x y : LineAnswer) → Placed n t out out' x → Placed n t out out'' y → (x ≡ y) × (out' ≡ out'')
one_placed n t out out' out'' x y p q = if_both (leb (length t) (length out)) p q both_are both_are

-- the same where nothing is answered without room: whether there was room is one, too
pub one_placed_as : (n : ℕ) (t out out' out'' : List ℕ) (x y : Option LineAnswer) → PlacedAs n t out out' x → PlacedAs n t out out'' y → (x ≡ y) × (out' ≡ out'')
one_placed_as n t out out' out'' x y p q = if_both (leb (length t) (length out)) p q both_are both_are

-- ---- of a kind whose rows have one outcome each
module _ (kind : Kind) (one : (row : List Value) (o o' : Outcome kind.Answer) → Follows (kind.rule row) o → Follows (kind.rule row) o' → o ≡ o') where
  row-answer : (line : List ℕ) (n n' : ℕ) (t t' : List ℕ) → RowAnswered kind line n t → RowAnswered kind line n' t' → (n ≡ n') × (t ≡ t')
  row-answer line n n' t t' (o, h, e, f) (o', h', e', f') =
      let k : o ≡ o' = one (values kind.columns line) o o' h h' in
      (e ∙ ap (λ (o : Outcome kind.Answer). o.code) k ∙ sym e', f ∙ ap (λ (o : Outcome kind.Answer). answer_line (field_at 0 line) (field_at 1 line) (own_columns kind o) o.code) k ∙ sym f')

  pub one_answer : OneAnswer kind
  one_answer line n n' t t' = by (fault_of kind.columns line)
    where
      by : (found : Option Fault) → AnsweredBy kind line found n t → AnsweredBy kind line found n' t' → (n ≡ n') × (t ≡ t')
      by None h k = row-answer line n n' t t' h k
      by (Some fault) h k = both_are h k

  pub one-answer-into : OneAnswerInto kind
  one-answer-into line out out' out'' x y (n, t, a, p) (n', t', b, q) =
      let e = one_answer line n n' t t' a b in
      one_placed n t out out' out'' x y p
      (subst (λ (m : ℕ). Placed m t out out'' y) (sym e.0) (subst (λ (u : List ℕ). Placed n' u out out'' y) (sym e.1) q))

-- ---- of a kind whose outcomes have a number of one digit and own columns of no more than so many bytes, commas counted
pub record Small (kind : Kind) (bytes : ℕ) (o : Outcome kind.Answer) : Type 0 where
  pub code : o.code ≤ 9
  pub own : length (commaed (own_columns kind o)) ≤ bytes

-- the own columns of a fault have a number of at most two digits more than empty ones
fault-columns : (titles : List String) (fault : Fault) → ((n : ℕ) → fault ≡ Broken n → n ≤ 99) → length (commaed (fault_columns titles fault)) ≤ length (commaed (blanks titles)) + 2
fault-columns titles TooLong few = omega arith
fault-columns titles WrongCount few = omega arith
fault-columns [] (Broken n) few = omega arith
fault-columns (title ∷ titles) (Broken n) few =
    let digits : length (decimal n) ≤ 2 = few_digits 1 n (omega (arith, few n refl)) in
    let own : length (commaed (decimal n ∷ blanks titles)) ≡ length (decimal n) + 1 + length (commaed (blanks titles)) = simp length-append (omega arith) in
    omega (arith, own)

fault-number : (fault : Fault) → number_of (refusal_of fault) ≤ 99
fault-number TooLong = omega arith
fault-number WrongCount = omega arith
fault-number (Broken n) = omega arith

-- which numbers are those of a fault
few_no_fault : (n : ℕ) → n ≤ 9 → is_fault n ≡ false
few_no_fault n h = rw (ne_eqb n 12 (λ e. omega arith), ne_eqb n 13 (λ e. omega arith), ne_eqb n 14 (λ e. omega arith))

is-fault : (fault : Fault) (n : ℕ) → n ≡ number_of (refusal_of fault) → is_fault n ≡ true
is-fault TooLong n e = rw e
is-fault WrongCount n e = rw e
is-fault (Broken field) n e = rw e

or_true : (t : Bool) → (t || true) ≡ true
or_true true = refl
or_true false = refl

-- a fault that is found names a column, and no list has many
found_few : (columns : List Column) → length columns ≤ 99 → (line : List ℕ) (fault : Fault) → fault_of columns line ≡ Some fault → (n : ℕ) → fault ≡ Broken n → n ≤ 99
found_few columns few line fault found n is = omega (arith, (first-named columns line n (found ∙ ap Some is)).to_last)

module _ (kind : Kind) (bytes : ℕ) (small : (row : List Value) (o : Outcome kind.Answer) → Follows (kind.rule row) o → Small kind bytes o) where
  row-few : (line : List ℕ) (n : ℕ) (t : List ℕ) → RowAnswered kind line n t → n ≤ 9
  row-few line n t (o, h, e, f) = omega (arith, (small (values kind.columns line) o h).code, e)

  pub numbers-of-lines : NumbersOfLines kind
  numbers-of-lines line n t = by (fault_of kind.columns line)
    where
      by : (found : Option Fault) → AnsweredBy kind line found n t → (leb n 9 || is_fault n) ≡ true
      by None h = rw (le-leb n 9 (row-few line n t h))
      by (Some fault) h = rw (is-fault fault n h.0) (or_true (leb n 9))

  -- ---- how many bytes
  line-few : (first second : List ℕ) (own : List (List ℕ)) (code digits : ℕ) → length (decimal code) ≤ digits
      → length (answer_line first second own code) ≤ length first + length second + 4 + length (commaed own) + digits
  line-few first second own code digits h =
      let parts : length ((first ++ ascii "," ++ second ++ ascii ",") ++ commaed own ++ decimal code ++ line_end) ≡ length first + 1 + length second + 1 + length (commaed own) + length (decimal code) + 2 = simp length-append (omega arith) in
      omega (arith, ap length (answer-text first second own code), parts)

  module _ (short : (line : List ℕ) → well_formed kind.columns line ≡ true → length (field_at 0 line) + length (field_at 1 line) ≤ 24)
      (blank : length (commaed (blanks kind.own)) ≤ bytes) (few : length kind.columns ≤ 99) where
    pub answers-fit : AnswersFit kind (29 + bytes)
    answers-fit line n t = by (fault_of kind.columns line) refl
      where
        by : (found : Option Fault) → fault_of kind.columns line ≡ found → AnsweredBy kind line found n t → length t ≤ 29 + bytes
        by None e (o, h, i, f) =
            let s = small (values kind.columns line) o h in
            rw f (omega (arith, line-few (field_at 0 line) (field_at 1 line) (own_columns kind o) o.code 1 (few_digits 0 o.code (omega (arith, s.code))), s.own, short line (a-row kind.columns line e)))
        by (Some fault) e (i, f) =
            let number = number_of (refusal_of fault) in
            let own = fault_columns kind.own fault in
            rw f (omega (
              arith,
              line-few (ascii "?") (ascii "?") own number 2 (few_digits 1 number (omega (arith, fault-number fault))),
              fault-columns kind.own fault (found_few kind.columns few line fault e),
              blank,
            ))

  -- ---- what a refusal carries
  pub others_blank : OthersBlank kind
  others_blank line n t h not-read not-14 = by (fault_of kind.columns line) h
    where
      by : (found : Option Fault) → AnsweredBy kind line found n t
          → t ≡ (if is_fault n then answer_line (ascii "?") (ascii "?") (blanks kind.own) n otherwise answer_line (field_at 0 line) (field_at 1 line) (blanks kind.own) n)
      by None (o, h, e, f) =
          let own : own_columns kind o ≡ blanks kind.own = rw (ne_eqb o.code 0 (λ z. not-read (e ∙ z))) in
          rw (few_no_fault n (omega (arith, e, (small (values kind.columns line) o h).code)))
          (f ∙ ap (λ (own : List (List ℕ)). answer_line (field_at 0 line) (field_at 1 line) own o.code) own ∙ ap (answer_line (field_at 0 line) (field_at 1 line) (blanks kind.own)) (sym e))
      by (Some TooLong) (e, f) = rw (is-fault TooLong n e) (f ∙ ap (answer_line (ascii "?") (ascii "?") (blanks kind.own)) (sym e))
      by (Some WrongCount) (e, f) = rw (is-fault WrongCount n e) (f ∙ ap (answer_line (ascii "?") (ascii "?") (blanks kind.own)) (sym e))
      by (Some (Broken field)) (e, f) = absurd (not-14 e)

  pub field_named : FieldNamed kind
  field_named line t = by (fault_of kind.columns line) refl
    where
      by : (found : Option Fault) → fault_of kind.columns line ≡ found → AnsweredBy kind line found (number_of FieldBroken) t
          → (field : ℕ) × FirstToBreak kind.columns line field × (t ≡ nameless_line (fault_columns kind.own (Broken field)) FieldBroken)
      by None e h = absurd (omega (arith, row-few line (number_of FieldBroken) t h))
      by (Some TooLong) e (i, f) = absurd (omega (arith, i))
      by (Some WrongCount) e (i, f) = absurd (omega (arith, i))
      by (Some (Broken field)) e (i, f) = (field, first-named kind.columns line field e, f)

  -- ---- before request 2
  pub had_answer : HadAnswer kind
  had_answer line n t = by (fault_of kind.columns line) refl
    where
      by : (found : Option Fault) → fault_of kind.columns line ≡ found → AnsweredBy kind line found n t → (before : ℕ) × (text_before : List ℕ) × AnsweredBefore kind line before text_before
      by None e h = (n, t, rw (a-row kind.columns line e) h)
      by (Some fault) e h = (10, answer_line (ascii "?") (ascii "?") (blanks kind.own) 10, rw (some_fault kind.columns line fault e) (refl, refl))

  module _ (one : (row : List Value) (o o' : Outcome kind.Answer) → Follows (kind.rule row) o → Follows (kind.rule row) o' → o ≡ o') where
    pub were_tens : WereTens kind
    were_tens line n before t text_before h k = by (fault_of kind.columns line) refl h
      where
        by : (found : Option Fault) → fault_of kind.columns line ≡ found → AnsweredBy kind line found n t
            → (is_fault n ≡ eqb before 10) × (is_fault n ≡ false → (n ≡ before) × (t ≡ text_before))
        by None e h =
            let row : RowAnswered kind line before text_before = rw (a-row kind.columns line e) at k in
            let same = row-answer kind one line n before t text_before h row in
            (few_no_fault n (row-few line n t h) ∙ sym (ne_eqb before 10 (λ z. omega (arith, z, row-few line before text_before row))), λ z. same)
        by (Some fault) e h =
            let ten : (before ≡ 10) × (text_before ≡ answer_line (ascii "?") (ascii "?") (blanks kind.own) 10) = rw (some_fault kind.columns line fault e) at k in
            (is-fault fault n h.0 ∙ sym (eq-eqb before 10 ten.0), λ z. absurd (true≢false (sym (is-fault fault n h.0) ∙ z)))

-- ---- and so all of these
pub lines_kept : (kind : Kind) (bytes : ℕ) → ((row : List Value) (o o' : Outcome kind.Answer) → Follows (kind.rule row) o → Follows (kind.rule row) o' → o ≡ o')
    → ((row : List Value) (o : Outcome kind.Answer) → Follows (kind.rule row) o → Small kind bytes o)
    → ((line : List ℕ) → well_formed kind.columns line ≡ true → length (field_at 0 line) + length (field_at 1 line) ≤ 24)
    → length (commaed (blanks kind.own)) ≤ bytes → length kind.columns ≤ 99 → LinesKept kind (29 + bytes)
lines_kept kind bytes one small short blank few = record {
  one = one_answer kind one;
  one_into = one-answer-into kind one;
  fit = answers-fit kind bytes small short blank few;
  numbers = numbers-of-lines kind bytes small;
  others_blank = others_blank kind bytes small;
  field_named = field_named kind bytes small;
  were_tens = were_tens kind bytes small one;
  had_answer = had_answer kind bytes small;
}
