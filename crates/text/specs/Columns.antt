-- A list's columns are a table. From it come the rules of a row, what the row says, and why a line is no row.
use Rattle.std.specs.Prelude.{List, [], ◌∷◌, map, Bool, ◌&&◌, ◌||◌, not, ℕ, ◌+◌, ◌-◌, ltb, eqb, ℤ, pos, length, get_or, Option, None, Some}
use Rattle.std.specs.Option.{is_none}
use Prim.Native.Char.{code}
use Prim.Native.String.{String}
use Rattle.std.specs.List.{list_all}
use Rattle.whole.specs.Choice.{if◌then◌otherwise◌}
use Rattle.whole.specs.Text.{ascii, name_of}
use Rattle.text.specs.declared.columns.Holds.{Holds}
use Rattle.text.specs.declared.columns.Holds.TheVariants.{Id, Name, Letter, Natural, Signed}
use Rattle.text.specs.declared.columns.Fault.{Fault}
use Rattle.text.specs.declared.columns.Fault.TheVariants.{TooLong, WrongCount, Broken}
use Rattle.text.specs.Fields.{fields, sized, digit, capital, small, letter}
use Rattle.text.specs.Joined.{joined}
use Rattle.text.specs.Numbers.{is_number, is_signed, value_of, signed_of}

-- What a column holds is a case of `Holds`, an enum of the code: an id, a name, a letter, a number from 0 up or a number of either sign, these two of at most
-- so many digits.
-- A column: the title that the header has for it, and what it holds.
infix 70 ◌holds◌
pub data Column : Type 0 where
  ◌holds◌ : String → Holds → Column

abbrev pub title : Column → List ℕ
title (text holds what) = ascii text

abbrev pub held : Column → Holds
held (text holds what) = what

-- The column at a place, counted from 0; past the last, an id without a title.
abbrev pub column_at : ℕ → List Column → Column
column_at place columns = get_or columns place ("" holds Id)

-- The header of a list: its titles, in their order.
abbrev pub header_of : List Column → List ℕ
header_of columns = joined (map title columns)

abbrev pub id_byte : ℕ → Bool
id_byte b = capital b || small b || digit b || eqb b (code "-")

abbrev pub longest_id : ℕ
longest_id = 16

-- An id: letters, digits or hyphens of ASCII, 1 to 16 of them.
abbrev pub is_id : List ℕ → Bool
is_id s = sized 1 longest_id s && list_all id_byte s

abbrev pub longest_name : ℕ
longest_name = 8

-- A name: 1 to 8 small letters.
abbrev pub is_name : List ℕ → Bool
is_name s = sized 1 longest_name s && list_all small s

-- A letter, capital or small.
abbrev pub is_letter : List ℕ → Bool
is_letter s = sized 1 1 s && list_all letter s

-- The rule of a field.
abbrev pub rule_of : Holds → List ℕ → Bool
rule_of Id = is_id
rule_of Name = is_name
rule_of Letter = is_letter
rule_of (Natural most) = is_number most
rule_of (Signed most) = is_signed most

abbrev pub rule : Column → List ℕ → Bool
rule column = rule_of (held column)

-- The longest line, without its CRLF.
abbrev pub longest_line : ℕ
longest_line = 200

-- ---- why a line is no row
-- By what its columns hold. A fault is a case of `Fault`, an enum of the code: the line is too long, it has not as many fields as there are columns, or the
-- field with a number, counted from 1, breaks its rule.
-- The first field from the left that breaks its rule, the first of these fields being number n.
abbrev pub first_broken : ℕ → List Holds → List (List ℕ) → Option Fault
first_broken n [] fs = None
first_broken n (what ∷ others) [] = None
first_broken n (what ∷ others) (f ∷ fs) = if rule_of what f then first_broken (n + 1) others fs otherwise Some (Broken n)

-- The length is tested first, then the count of fields, then each field.
unfoldable pub fault_by : List Holds → List ℕ → Option Fault
fault_by columns line =
    if ltb longest_line (length line) then Some TooLong
    otherwise if not (eqb (length (fields line)) (length columns)) then Some WrongCount
    otherwise first_broken 1 columns (fields line)

unfoldable pub fault_of : List Column → List ℕ → Option Fault
fault_of columns line = fault_by (map held columns) line

-- A line is a row where nothing is at fault.
unfoldable pub well_formed : List Column → List ℕ → Bool
well_formed columns line = is_none (fault_of columns line)

-- ---- how long a row is
-- The most bytes that a field has by its rule; a minus is no digit.
abbrev pub most_bytes : Holds → ℕ
most_bytes Id = longest_id
most_bytes Name = longest_name
most_bytes Letter = 1
most_bytes (Natural most) = most
most_bytes (Signed most) = most + 1

-- Those of all fields, with a comma after each.
abbrev pub with_commas : List Column → ℕ
with_commas [] = 0
with_commas (c ∷ cs) = most_bytes (held c) + 1 + with_commas cs

-- So many bytes a line has at most whose fields keep their rules: there is no comma after the last.
abbrev pub longest_by_fields : List Column → ℕ
longest_by_fields columns = with_commas columns - 1

-- ---- what a row says
-- An id as its bytes, a name as its number, a letter as its byte, a number from 0 up as a count and one of either sign as an integer.
pub data Value : Type 0 where
  word : List ℕ → Value
  named : ℕ → Value
  byte : ℕ → Value
  count : ℕ → Value
  integer : ℤ → Value

abbrev pub first_byte : List ℕ → ℕ
first_byte s = get_or s 0 0

abbrev pub said_as : Holds → List ℕ → Value
said_as Id f = word f
said_as Name f = named (name_of f)
said_as Letter f = byte (first_byte f)
said_as (Natural most) f = count (value_of f)
said_as (Signed most) f = integer (signed_of f)

abbrev pub said : Column → List ℕ → Value
said column = said_as (held column)

-- What each field says, by its column.
abbrev pub said_by : List Column → List (List ℕ) → List Value
said_by [] fs = []
said_by (c ∷ cs) [] = []
said_by (c ∷ cs) (f ∷ fs) = said c f ∷ said_by cs fs

unfoldable pub values : List Column → List ℕ → List Value
values columns line = said_by columns (fields line)

-- What the column at a place says, counted from 0: the name, the letter, the count, the integer; 0 where it holds something else.
abbrev pub name_or0 : Value → ℕ
name_or0 (word s) = 0
name_or0 (named n) = n
name_or0 (byte b) = 0
name_or0 (count n) = 0
name_or0 (integer z) = 0

abbrev pub byte_or0 : Value → ℕ
byte_or0 (word s) = 0
byte_or0 (named n) = 0
byte_or0 (byte b) = b
byte_or0 (count n) = 0
byte_or0 (integer z) = 0

abbrev pub count_or0 : Value → ℕ
count_or0 (word s) = 0
count_or0 (named n) = 0
count_or0 (byte b) = 0
count_or0 (count n) = n
count_or0 (integer z) = 0

abbrev pub integer_or0 : Value → ℤ
integer_or0 (word s) = pos 0
integer_or0 (named n) = pos 0
integer_or0 (byte b) = pos 0
integer_or0 (count n) = pos 0
integer_or0 (integer z) = z

abbrev pub value_at : ℕ → List Value → Value
value_at place row = get_or row place (word [])

abbrev pub name_at : ℕ → List Value → ℕ
name_at place row = name_or0 (value_at place row)

abbrev pub letter_at : ℕ → List Value → ℕ
letter_at place row = byte_or0 (value_at place row)

abbrev pub count_at : ℕ → List Value → ℕ
count_at place row = count_or0 (value_at place row)

abbrev pub integer_at : ℕ → List Value → ℤ
integer_at place row = integer_or0 (value_at place row)

-- The field at a place, counted from 0.
abbrev pub field_at : ℕ → List ℕ → List ℕ
field_at place line = get_or (fields line) place []

-- How many bytes the first two fields take, with the comma after each: an answer repeats them.
abbrev pub names_length : List ℕ → ℕ
names_length line = length (field_at 0 line) + 1 + length (field_at 1 line) + 1
