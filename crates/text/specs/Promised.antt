-- What is promised of numbers: written and read back, and read and written back, they are the same; of the field that a fault names; and of how long a line is.
use Rattle.std.specs.Prelude.{◌≡◌, true, false, List, map, ℕ, ◌-◌, ◌^◌, ◌<◌, ◌≤◌, length, ℤ, nat_abs, None, Some}
use Rattle.text.specs.Fields.{fields}
use Rattle.text.specs.declared.columns.Fault.TheVariants.{Broken}
use Rattle.text.specs.Columns.{Column, held, column_at, longest_line, rule, field_at, first_broken, fault_of, longest_by_fields}
use Rattle.text.specs.Numbers.{is_number, value_of, is_signed, signed_of}
use Rattle.text.specs.Decimal.{decimal, signed_decimal}

-- A number of so many digits, written and read back, is the same.
abbrev pub NumberReadBack : Type 0
NumberReadBack = (most n : ℕ) → 1 ≤ most → n < 10 ^ most → (is_number most (decimal n) ≡ true) × (value_of (decimal n) ≡ n)

abbrev pub SignedReadBack : Type 0
SignedReadBack = (most : ℕ) (z : ℤ) → 1 ≤ most → nat_abs z < 10 ^ most → (is_signed most (signed_decimal z) ≡ true) × (signed_of (signed_decimal z) ≡ z)

-- A number read and written back is the same: no two fields say one number.
abbrev pub NumberWrittenBack : Type 0
NumberWrittenBack = (most : ℕ) (s : List ℕ) → is_number most s ≡ true → decimal (value_of s) ≡ s

abbrev pub SignedWrittenBack : Type 0
SignedWrittenBack = (most : ℕ) (s : List ℕ) → is_signed most s ≡ true → signed_decimal (signed_of s) ≡ s

-- The line is short enough and has a field for each column; that with this number, counted from 1, breaks its rule, and none left of it does.
pub record FirstToBreak (columns : List Column) (line : List ℕ) (number : ℕ) : Type 0 where
  pub short : length line ≤ longest_line
  pub counted : length (fields line) ≡ length columns
  pub from_one : 1 ≤ number
  pub to_last : number ≤ length columns
  pub breaks : rule (column_at (number - 1) columns) (field_at (number - 1) line) ≡ false
  pub before : (place : ℕ) → place < number - 1 → rule (column_at place columns) (field_at place line) ≡ true

abbrev pub FirstNamed : Type 0
FirstNamed = (columns : List Column) (line : List ℕ) (number : ℕ) → fault_of columns line ≡ Some (Broken number) → FirstToBreak columns line number

-- A line with a field for each column, each of which keeps its rule, is no longer than these may be, whatever the longest line is.
abbrev pub FieldsShort : Type 0
FieldsShort =
    (columns : List Column) (line : List ℕ) → length (fields line) ≡ length columns → first_broken 1 (map held columns) (fields line) ≡ None
    → length line ≤ longest_by_fields columns
