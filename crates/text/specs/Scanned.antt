-- What the functions that read a field answer; no definition of a list, a row or an answer rests on it. A step looks at the field that starts at an offset of
-- the line. The next field starts one past the comma that ends this one, or one past the end of the line, where there is none. Where the field breaks its rule,
-- the next one starts past even that, so that every later one breaks its rule too.
use Rattle.std.specs.Prelude.{List, [], ◌∷◌, Bool, true, ◌&&◌, ℕ, ◌+◌, leb, ltb, eqb, ℤ, pos, length, drop, count_by, Option, None, Some}
use Prim.Native.Char.{code}
use Rattle.whole.specs.Choice.{if◌then◌otherwise◌}
use Rattle.text.specs.declared.field.Scanned.{Scanned}
use Rattle.text.specs.Fields.{field}
use Rattle.text.specs.declared.columns.Holds.{Holds}
use Rattle.text.specs.declared.columns.Holds.TheVariants as holds
use Rattle.text.specs.declared.columns.Fault.{Fault}
use Rattle.text.specs.declared.columns.Fault.TheVariants.{Broken}
use Rattle.text.specs.Numbers.{most_digits, is_signed, signed_of}
use Rattle.text.specs.Columns.{rule_of}

-- A field ends here: before a comma or at the end of the line.
abbrev pub ends : List ℕ → Bool
ends [] = true
ends (b ∷ s) = eqb b (code ",")

-- A field of at least one byte ends at i.
abbrev pub closes_at : ℕ → List ℕ → Bool
closes_at i s = ltb 0 i && ends (drop i s)

-- An offset past every field of what has so many bytes.
abbrev pub nowhere : ℕ → ℕ
nowhere bytes = bytes + 2

-- Where the field after one of i bytes starts, if that one keeps its rule.
abbrev pub next_if : Bool → ℕ → List ℕ → ℕ
next_if keeps i s = if keeps then i + 1 otherwise nowhere (length s)

abbrev pub next_of : (List ℕ → Bool) → List ℕ → ℕ
next_of rule s = next_if (rule (field s)) (length (field s)) s

-- What such a field says: `zero`, which is 0, if it breaks its rule.
abbrev pub scanned_if : {A : Type 0} → A → Bool → A → ℕ → List ℕ → Scanned A
scanned_if zero keeps value i s = record { value = if keeps then value otherwise zero; next = next_if keeps i s }

-- What the first field of s says by its rule, and where the next one starts.
abbrev pub scanned_in : {A : Type 0} → A → (List ℕ → Bool) → (List ℕ → A) → List ℕ → Scanned A
scanned_in zero rule value s = scanned_if zero (rule (field s)) (value (field s)) (length (field s)) s

-- The same for the field that starts at an offset of the line.
abbrev pub next_at : (List ℕ → Bool) → List ℕ → ℕ → ℕ
next_at rule line from = if leb from (length line) then from + next_of rule (drop from line) otherwise nowhere (length line)

abbrev pub scanned_from : {A : Type 0} → A → (List ℕ → Bool) → (List ℕ → A) → List ℕ → ℕ → Scanned A
scanned_from zero rule value line from = record { value = if leb from (length line) then (scanned_in zero rule value (drop from line)).value otherwise zero; next = next_at rule line from }

abbrev pub scanned_at : (List ℕ → Bool) → (List ℕ → ℕ) → List ℕ → ℕ → Scanned ℕ
scanned_at rule value line from = scanned_from 0 rule value line from

abbrev pub signed_at : ℕ → List ℕ → ℕ → Scanned ℤ
signed_at most line from = scanned_from (pos 0) (is_signed most) signed_of line from

-- ---- why a line is no row, field by field
abbrev pub commas_in : List ℕ → ℕ
commas_in line = count_by (λ b. eqb b (code ",")) line

-- The first field that breaks its rule, if there is one, that at the offset being number n.
abbrev pub first_lost : List ℕ → ℕ → List Holds → ℕ → Option Fault
first_lost line n [] from = None
first_lost line n (what ∷ others) from =
    let next = next_at (rule_of what) line from in
    if leb next (length line + 1) then first_lost line (n + 1) others next otherwise Some (Broken n)

-- A column's numbers fit 64 bits.
abbrev pub is_narrow : Holds → Bool
is_narrow holds.Id = true
is_narrow holds.Name = true
is_narrow holds.Letter = true
is_narrow (holds.Natural most) = leb most most_digits
is_narrow (holds.Signed most) = leb most most_digits
