-- What the inner functions of answering write; no promise to a caller rests on it.
use Rattle.std.specs.Prelude.{List, [], ◌∷◌, ◌++◌, ℕ}
use Rattle.whole.specs.Text.{ascii}
use Rattle.quantity.specs.Refusals.{number_of}
use Rattle.quantity.specs.declared.refusal.Refusal.TheVariants.{BufferShort}
use Rattle.text.specs.declared.columns.Fault.{Fault}
use Rattle.text.specs.declared.columns.Fault.TheVariants.{TooLong, WrongCount, Broken}
use Rattle.text.specs.Decimal.{decimal}
use Rattle.line.specs.declared.lent.LineAnswer.{LineAnswer}
use Rattle.line.specs.Kinds.{refusal_of}

-- The answer line after its names, for a row that was read and for one that was refused, whose own columns are as many commas.
abbrev pub read_text : List ℕ → List ℕ → List ℕ
read_text names t = names ++ t ++ ascii ",0\r\n"

abbrev pub refused_text : List ℕ → List ℕ → ℕ → List ℕ
refused_text names commas number = names ++ commas ++ decimal number ++ ascii "\r\n"

-- What the answer line of a fault starts with, up to the comma after its first own column; and all of it, `commas` being one for each own column.
abbrev pub fault_start : Fault → List ℕ
fault_start TooLong = ascii "?,?,"
fault_start WrongCount = ascii "?,?,"
fault_start (Broken number) = ascii "?,?," ++ decimal number

abbrev pub fault_text : Fault → List ℕ → List ℕ
fault_text fault commas = refused_text (fault_start fault) commas (number_of (refusal_of fault))

-- Texts with a comma after each.
abbrev pub commaed : List (List ℕ) → List ℕ
commaed [] = []
commaed (text ∷ texts) = (text ++ ascii ",") ++ commaed texts

-- What is said of a text that does not fit.
abbrev pub without_room : LineAnswer
without_room = record { code = number_of BufferShort; wrote = 0 }
