-- A list has a kind, and a line of it an answer.
use Rattle.std.specs.Prelude.{◌≡◌, Bool, ◌||◌, List, [], ◌∷◌, ◌++◌, map, ℕ, eqb, Option, None, Some}
use Prim.Native.String.{String}
use Rattle.whole.specs.Choice.{if◌then◌otherwise◌}
use Rattle.whole.specs.Text.{ascii}
use Rattle.quantity.specs.Refusals.{number_of}
use Rattle.quantity.specs.declared.refusal.Refusal.{Refusal}
use Rattle.quantity.specs.declared.refusal.Refusal.TheVariants.{WrongHeader, LineTooLong, WrongFieldCount, FieldBroken}
use Rattle.quantity.specs.Outcomes.{Outcome, Rule, Follows}
use Rattle.text.specs.Joined.{joined}
use Rattle.text.specs.Decimal.{decimal}
use Rattle.text.specs.declared.columns.Fault.{Fault}
use Rattle.text.specs.declared.columns.Fault.TheVariants.{TooLong, WrongCount, Broken}
use Rattle.text.specs.Columns.{Column, Value, header_of, fault_of, values, field_at}

-- A kind of list: the columns of a row; the title of the answer's second column, and of its own columns, which stand between that and the code; what is answered
-- to a row, by which rule; and what is written of it in the own columns.
pub record Kind : Type 1 where
  pub columns : List Column
  pub second : String
  pub own : List String
  pub Answer : Type 0
  pub rule : List Value → Rule Answer
  pub written : Answer → List (List ℕ)

abbrev pub line_end : List ℕ
line_end = ascii "\r\n"

-- The header of a list, and that of its answer.
abbrev pub input_header : Kind → List ℕ
input_header kind = header_of kind.columns

abbrev pub output_header : Kind → List ℕ
output_header kind = joined (ascii "id" ∷ ascii kind.second ∷ (map ascii kind.own ++ (ascii "code" ∷ []))) ++ line_end

-- An answer line: two names, the own columns, and the code.
abbrev pub answer_line : List ℕ → List ℕ → List (List ℕ) → ℕ → List ℕ
answer_line first second own code = joined (first ∷ second ∷ (own ++ (decimal code ∷ []))) ++ line_end

-- An empty column for each title.
abbrev pub blanks : List String → List (List ℕ)
blanks [] = []
blanks (title ∷ titles) = [] ∷ blanks titles

-- The own columns: what is answered, empty where the row is refused.
abbrev pub own_columns : (kind : Kind) → Outcome kind.Answer → List (List ℕ)
own_columns kind o = if eqb o.code 0 then kind.written o.answer otherwise blanks kind.own

-- What is answered to a row: by the kind's rule, in a line that repeats the row's first two fields.
abbrev pub RowAnswered : Kind → List ℕ → ℕ → List ℕ → Type 0
RowAnswered kind line number text =
    (o : Outcome kind.Answer) × Follows (kind.rule (values kind.columns line)) o × (number ≡ o.code)
    × (text ≡ answer_line (field_at 0 line) (field_at 1 line) (own_columns kind o) o.code)

-- The refusal that a line's fault is.
abbrev pub refusal_of : Fault → Refusal
refusal_of TooLong = LineTooLong
refusal_of WrongCount = WrongFieldCount
refusal_of (Broken number) = FieldBroken

abbrev pub is_fault : ℕ → Bool
is_fault number = eqb number (number_of LineTooLong) || eqb number (number_of WrongFieldCount) || eqb number (number_of FieldBroken)

-- The own columns of a faulty line, of which every kind has one at least. 14 is the one refusal that carries a number: that of the field, in the first of them.
-- Every other leaves them all empty.
abbrev pub fault_columns : List String → Fault → List (List ℕ)
fault_columns titles TooLong = blanks titles
fault_columns titles WrongCount = blanks titles
fault_columns [] (Broken number) = []
fault_columns (title ∷ titles) (Broken number) = decimal number ∷ blanks titles

-- An answer line without names, and those of a faulty line and of a wrong header.
abbrev pub nameless_line : List (List ℕ) → Refusal → List ℕ
nameless_line own why = answer_line (ascii "?") (ascii "?") own (number_of why)

abbrev pub fault_line : Kind → Fault → List ℕ
fault_line kind fault = nameless_line (fault_columns kind.own fault) (refusal_of fault)

abbrev pub wrong_header_line : Kind → List ℕ
wrong_header_line kind = nameless_line (blanks kind.own) WrongHeader

-- What is answered to a line, given without its CRLF: the number, 0 where there is an answer, and the bytes to be written. 12, 13, 14: its fault; then what its
-- row is answered.
abbrev pub AnsweredBy : Kind → List ℕ → Option Fault → ℕ → List ℕ → Type 0
AnsweredBy kind line None number text = RowAnswered kind line number text
AnsweredBy kind line (Some fault) number text = (number ≡ number_of (refusal_of fault)) × (text ≡ fault_line kind fault)

abbrev pub Answered : Kind → List ℕ → ℕ → List ℕ → Type 0
Answered kind line number text = AnsweredBy kind line (fault_of kind.columns line) number text
