-- What is promised of answers to lines besides each call's own outcome.
use Rattle.std.specs.Prelude.{◌≡◌, Bool, true, false, ◌||◌, List, map, ℕ, ◌≤◌, leb, eqb, length, None}
use Rattle.whole.specs.Choice.{if◌then◌otherwise◌}
use Rattle.whole.specs.Text.{ascii}
use Rattle.quantity.specs.Refusals.{number_of}
use Rattle.quantity.specs.declared.refusal.Refusal.TheVariants.{ResistanceOutside, FieldBroken}
use Rattle.text.specs.declared.columns.Fault.TheVariants.{Broken}
use Rattle.text.specs.Fields.{fields}
use Rattle.text.specs.Numbers.{is_number, value_of}
use Rattle.text.specs.Decimal.{decimal}
use Rattle.text.specs.Columns.{held, well_formed, first_broken, field_at}
use Rattle.text.specs.Promised.{FirstToBreak}
use Rattle.line.specs.declared.lent.LineAnswer.{LineAnswer}
use Rattle.line.specs.Kinds.{Kind, input_header, output_header, answer_line, blanks, is_fault, fault_columns, nameless_line, RowAnswered, Answered}
use Rattle.row.specs.Limits.{Limits, limits, limits_before, Widened}
use Rattle.line.specs.Lent.{AnsweredInto}
use Rattle.line.specs.Readings.{readings_up_to, readings}

-- A line has one answer.
abbrev pub OneAnswer : Kind → Type 0
OneAnswer kind = (line : List ℕ) (n n' : ℕ) (t t' : List ℕ) → Answered kind line n t → Answered kind line n' t' → (n ≡ n') × (t ≡ t')

-- Two outcomes that answering a line into a lent buffer allows are one, in every byte of the buffer.
abbrev pub OneAnswerInto : Kind → Type 0
OneAnswerInto kind = (line out out' out'' : List ℕ) (x y : LineAnswer) → AnsweredInto kind line out out' x → AnsweredInto kind line out out'' y → (x ≡ y) × (out' ≡ out'')

-- So many bytes hold every answer.
abbrev pub AnswersFit : Kind → ℕ → Type 0
AnswersFit kind room = (line : List ℕ) (number : ℕ) (text : List ℕ) → Answered kind line number text → length text ≤ room

-- A row is answered by a number of one digit, any other line by that of its fault. So 10 is for a wrong header alone, and 11 for a short buffer.
abbrev pub NumbersOfLines : Kind → Type 0
NumbersOfLines kind = (line : List ℕ) (number : ℕ) (text : List ℕ) → Answered kind line number text → (leb number 9 || is_fault number) ≡ true

-- 14 alone carries a number: any other refusal leaves the own columns empty, after the names of its row or after two question marks.
abbrev pub OthersBlank : Kind → Type 0
OthersBlank kind =
    (line : List ℕ) (number : ℕ) (text : List ℕ) → Answered kind line number text → (number ≡ 0 → ⊥) → (number ≡ number_of FieldBroken → ⊥)
    → text ≡ (if is_fault number then answer_line (ascii "?") (ascii "?") (blanks kind.own) number otherwise answer_line (field_at 0 line) (field_at 1 line) (blanks kind.own) number)

-- And the number that it carries is that of the first field from the left that breaks its rule, counted from 1.
abbrev pub FieldNamed : Kind → Type 0
FieldNamed kind =
    (line : List ℕ) (text : List ℕ) → Answered kind line (number_of FieldBroken) text
    → (field : ℕ) × FirstToBreak kind.columns line field × (text ≡ nameless_line (fault_columns kind.own (Broken field)) FieldBroken)

-- ---- what the three faults were before request 2
-- Under the limits that stand here, whichever they are: a line that is no row was answered by 10, and a row as it is now.
abbrev pub AnsweredBefore : Kind → List ℕ → ℕ → List ℕ → Type 0
AnsweredBefore kind line number text =
    if well_formed kind.columns line then RowAnswered kind line number text
    otherwise (number ≡ 10) × (text ≡ answer_line (ascii "?") (ascii "?") (blanks kind.own) 10)

-- A line is 12, 13 or 14 exactly when it was 10, and any other line is answered by the same number and the same bytes.
abbrev pub WereTens : Kind → Type 0
WereTens kind =
    (line : List ℕ) (number before : ℕ) (text text_before : List ℕ) → Answered kind line number text → AnsweredBefore kind line before text_before
    → (is_fault number ≡ eqb before 10) × (is_fault number ≡ false → (number ≡ before) × (text ≡ text_before))

-- Nor was the old rule empty: a line that is answered now had an answer then.
abbrev pub HadAnswer : Kind → Type 0
HadAnswer kind = (line : List ℕ) (number : ℕ) (text : List ℕ) → Answered kind line number text → (before : ℕ) × (text_before : List ℕ) × AnsweredBefore kind line before text_before

-- ---- all of these, of a kind of list whose answers so many bytes hold
pub record LinesKept (kind : Kind) (room : ℕ) : Type 0 where
  pub one : OneAnswer kind
  pub one_into : OneAnswerInto kind
  pub fit : AnswersFit kind room
  pub numbers : NumbersOfLines kind
  pub others_blank : OthersBlank kind
  pub field_named : FieldNamed kind
  pub were_tens : WereTens kind
  pub had_answer : HadAnswer kind

-- ---- wider limits of a resistance
-- A line that was refused by 1 or by 14 may be answered otherwise under wider ones.
abbrev pub may_move : ℕ → Bool
may_move number = eqb number (number_of ResistanceOutside) || eqb number (number_of FieldBroken)

-- Of one kind of list under limits and under wider ones. Both have the same headers. What was answered to a line stays, its number and every byte, unless it was
-- refused by 1 or by 14: it is answered still, and nothing else is. And a line that is answered now had an answer then.
pub record OnlyRefusedMove (before after : Kind) : Type 0 where
  pub input : input_header before ≡ input_header after
  pub output : output_header before ≡ output_header after
  pub stays : (line : List ℕ) (number : ℕ) (text : List ℕ) → Answered before line number text → may_move number ≡ false → Answered after line number text
  pub same : (line : List ℕ) (old number : ℕ) (old_text text : List ℕ) → Answered before line old old_text → may_move old ≡ false → Answered after line number text
      → (number ≡ old) × (text ≡ old_text)
  pub had : (line : List ℕ) (number : ℕ) (text : List ℕ) → Answered after line number text → (old : ℕ) × (old_text : List ℕ) × Answered before line old old_text

-- So it is with a kind, whichever limits are taken, the second no narrower. The limits alone are spoken of: it holds however a ratio is rounded and whichever laws
-- there are, as long as a row has one outcome.
abbrev pub ListWidens : (Limits → Kind) → Type 0
ListWidens kind = (before after : Limits) → Widened before after → OnlyRefusedMove (kind before) (kind after)

abbrev pub ReadingListWidens : Type 0
ReadingListWidens = ListWidens readings_up_to

-- Request 9 raised the limits: its instance.
abbrev pub Raised : (Limits → Kind) → Type 0
Raised kind = OnlyRefusedMove (kind limits_before) (kind limits)

-- Whoever has a resistance within its limits can type it: its digits are a number that a list takes, and say it.
abbrev pub CanBeTyped : Type 0
CanBeTyped = (r : ℕ) → r ≤ limits.largest → (is_number limits.digits (decimal r) ≡ true) × (value_of (decimal r) ≡ r)

-- ---- how long a line of readings is
-- So the limit of 200 bytes refuses none whose fields keep their rules.
abbrev pub ReadingsShort : Type 0
ReadingsShort =
    (line : List ℕ) → length (fields line) ≡ length readings.columns → first_broken 1 (map held readings.columns) (fields line) ≡ None
    → length line ≤ 129
