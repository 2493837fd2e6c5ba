-- A line read field by field is what its columns say.
use mathlib.Core.Path.{◌≡◌, refl}
use mathlib.Core.Bool.{Bool, true, false}
use mathlib.Core.List.{List, map}
use Rattle.std.specs.Prelude.{Option, None, Some, Result, Ok, Err}
use Prim.Native.Nat.{ℕ, ◌+◌, ◌≤◌}
use lib.ListN.{length}
use Rattle.std.specs.Option.{is_none}
use Rattle.whole.specs.Choice.{if◌then◌otherwise◌}
use Rattle.text.specs.declared.columns.Fault.{Fault}
use Rattle.text.specs.Columns.{Column, held, Value, fault_by, fault_of, well_formed, longest_line, values, names_length}
use Rattle.text.proofs.Rows.{Scan, scan-row, scan-values}
use Rattle.text.proofs.Faults.{no_fault, a-row}
use Rattle.row.specs.Parsing.{row_if, row_unless, parsed_by}

module _ {Row : Type 0} (columns : List Column) (row_of : List ℕ → Row) (line : List ℕ) where
  -- a line that is no row
  pub no-row : well_formed columns line ≡ false → None ≡ row_if columns row_of line
  no-row w = rw w refl

  -- what is read without the fault says whether the line is a row
  pub when-read : (row : Row) → Some row ≡ row_if columns row_of line → Ok row ≡ parsed_by columns row_of line
  when-read row = by (well_formed columns line) refl
    where
      by : (t : Bool) → well_formed columns line ≡ t → Some row ≡ (if t then Some (row_of line) otherwise None) → Ok row ≡ parsed_by columns row_of line
      by true w e = rw (no_fault columns line w) (cc)
      by false w e = let none : ◌≡◌ {A = Option Row} (Some row) None = e in cc

  pub when-not-read : None ≡ row_if columns row_of line → well_formed columns line ≡ false
  when-not-read = by (well_formed columns line)
    where
      by : (t : Bool) → None ≡ (if t then Some (row_of line) otherwise None) → t ≡ false
      by true e = let none : ◌≡◌ {A = Option Row} None (Some (row_of line)) = e in cc
      by false e = refl

  pub no-fault-none : well_formed columns line ≡ false → is_none (fault_by (map held columns) line) ≡ false
  unfolding well_formed fault_of
  no-fault-none w = w

  pub not-read : (fault : Fault) → fault_by (map held columns) line ≡ Some fault → Err fault ≡ parsed_by columns row_of line
  unfolding fault_of
  not-read fault e = rw e refl

  -- and what was answered says of the line what it is
  pub is_row : (row : Row) → Ok row ≡ parsed_by columns row_of line → (well_formed columns line ≡ true) × (row ≡ row_of line)
  is_row row = by (fault_of columns line) refl
    where
      by : (found : Option Fault) → fault_of columns line ≡ found → Ok row ≡ row_unless found (row_of line) → (well_formed columns line ≡ true) × (row ≡ row_of line)
      by None f e = let same : ◌≡◌ {A = Result Row Fault} (Ok row) (Ok (row_of line)) = e in (a-row columns line f, cc)
      by (Some fault) f e = let different : ◌≡◌ {A = Result Row Fault} (Ok row) (Err fault) = e in cc

  pub is-fault : (fault : Fault) → Err fault ≡ parsed_by columns row_of line → fault_of columns line ≡ Some fault
  is-fault fault = by (fault_of columns line)
    where
      by : (found : Option Fault) → Err fault ≡ row_unless found (row_of line) → found ≡ Some fault
      by None e = let different : ◌≡◌ {A = Result Row Fault} (Err fault) (Ok (row_of line)) = e in cc
      by (Some other) e = let same : ◌≡◌ {A = Result Row Fault} (Err fault) (Err other) = e in cc

module _ {Row : Type 0} (columns : List Column) (row_from : ℕ → List Value → Row) (line : List ℕ) {end : ℕ} {vs : List Value} (s : Scan line columns 0 end vs) (short : length line ≤ longest_line) where
  -- one whose last field ends where the line does
  pub read-row : end ≡ length line + 1 → (names : ℕ) → (well_formed columns line ≡ true → names ≡ names_length line)
      → Some (row_from names vs) ≡ row_if columns (λ (line : List ℕ). row_from (names_length line) (values columns line)) line
  read-row e names n = let w = scan-row line s short e in rw (w, n w, scan-values line s short e) refl
