-- The answer to a line in a lent buffer.
use Rattle.std.specs.Prelude.{◌≡◌, List, ◌++◌, ℕ, leb, length, drop, Option, None, Some}
use Rattle.whole.specs.Choice.{if◌then◌otherwise◌}
use Rattle.quantity.specs.Refusals.{number_of}
use Rattle.quantity.specs.declared.refusal.Refusal.TheVariants.{BufferShort}
use Rattle.line.specs.declared.lent.LineAnswer.{LineAnswer}
use Rattle.line.specs.Kinds.{Kind, Answered}

-- A text in a buffer that may be too short for it: the buffer's first bytes are the text and the others stay, or 11 and every byte stays.
abbrev pub Placed : ℕ → List ℕ → List ℕ → List ℕ → LineAnswer → Type 0
Placed number text out out' x =
    if leb (length text) (length out) then (x ≡ record { code = number; wrote = length text }) × (out' ≡ text ++ drop (length text) out)
    otherwise (x ≡ record { code = number_of BufferShort; wrote = 0 }) × (out' ≡ out)

-- What answering a line promises of the number, the count of bytes written and every byte of the buffer.
abbrev pub AnsweredInto : Kind → List ℕ → List ℕ → List ℕ → LineAnswer → Type 0
AnsweredInto kind line out out' x = (number : ℕ) × (text : List ℕ) × Answered kind line number text × Placed number text out out' x

-- The same two where the caller goes on by whether there was room: nothing is answered where the text does not fit.
abbrev pub PlacedAs : ℕ → List ℕ → List ℕ → List ℕ → Option LineAnswer → Type 0
PlacedAs number text out out' x =
    if leb (length text) (length out) then (x ≡ Some (record { code = number; wrote = length text })) × (out' ≡ text ++ drop (length text) out)
    otherwise (x ≡ None) × (out' ≡ out)

abbrev pub AnsweredAs : Kind → List ℕ → List ℕ → List ℕ → Option LineAnswer → Type 0
AnsweredAs kind line out out' x = (number : ℕ) × (text : List ℕ) × Answered kind line number text × PlacedAs number text out out' x
