-- Reading a line has one outcome.
use mathlib.Core.Path.{◌≡◌, sym, ◌∙◌}
use mathlib.Core.List.{List}
use Rattle.std.specs.Prelude.{Result}
use Prim.Native.Nat.{ℕ}
use Rattle.text.specs.declared.columns.Fault.{Fault}
use Rattle.row.specs.declared.readings.ReadingRow.{ReadingRow}
use Rattle.row.specs.declared.forward.ForwardRow.{ForwardRow}
use Rattle.row.specs.declared.records.RecordRow.{RecordRow}
use Rattle.row.specs.declared.resistances.ResistancesRow.{ResistancesRow}
use Rattle.row.specs.declared.tolerances.ToleranceRow.{ToleranceRow}
use Rattle.row.specs.Readings as readings
use Rattle.row.specs.Forward as forwards
use Rattle.row.specs.Records as records
use Rattle.row.specs.Resistances as resistances
use Rattle.row.specs.Tolerances as tolerances

pub one_reading : (line : List ℕ) (x y : Result ReadingRow Fault) → x ≡ readings.parsed_as line → y ≡ readings.parsed_as line → x ≡ y
one_reading line x y e f = e ∙ sym f

pub one_forward : (line : List ℕ) (x y : Result ForwardRow Fault) → x ≡ forwards.parsed_as line → y ≡ forwards.parsed_as line → x ≡ y
one_forward line x y e f = e ∙ sym f

pub one_record : (line : List ℕ) (x y : Result RecordRow Fault) → x ≡ records.parsed_as line → y ≡ records.parsed_as line → x ≡ y
one_record line x y e f = e ∙ sym f

pub one-resistances : (line : List ℕ) (x y : Result ResistancesRow Fault) → x ≡ resistances.parsed_as line → y ≡ resistances.parsed_as line → x ≡ y
one-resistances line x y e f = e ∙ sym f

pub one_tolerance : (line : List ℕ) (x y : Result ToleranceRow Fault) → x ≡ tolerances.parsed_as line → y ≡ tolerances.parsed_as line → x ≡ y
one_tolerance line x y e f = e ∙ sym f
