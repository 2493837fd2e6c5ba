-- How long a line is whose fields keep their rules.
use mathlib.Core.Path.{◌≡◌, refl, sym, ◌∙◌}
use mathlib.Core.Bool.{Bool, true, false, false≢true, ◌&&◌, not}
use mathlib.Core.List.{List, [], ◌∷◌, map}
use Prim.Native.Nat.{ℕ, ◌+◌, ◌≤◌}
use Prim.Native.Char.{code}
use native.Mathlib.Omega.{arith}
use lib.Dec.{eqb}
use lib.ListN.{length, drop, length-drop}
use borrow.Author.Tests.{eq-eqb}
use Rattle.std.specs.List.{list_all}
use Rattle.whole.specs.Choice.{if◌then◌otherwise◌}
use Rattle.whole.proofs.Choice.{and_true}
use Rattle.text.specs.declared.columns.Holds.{Holds}
use Rattle.text.specs.declared.columns.Holds.TheVariants.{Id, Name, Letter, Natural, Signed}
use Rattle.text.specs.Fields.{field, later, fields, sized, digit, small, letter}
use Rattle.text.specs.Numbers.{leading_zero, is_number, value_of}
use Rattle.text.specs.Columns.{Column, held, id_byte, longest_id, longest_name, rule, rule_of, most_bytes, with_commas}
use Rattle.text.specs.Promised.{FieldsShort}
use Rattle.text.proofs.Rows.{keep, kept_none, Split, only, comma, split}
use Rattle.text.proofs.Names.{sized-short}
use Rattle.text.proofs.Faults.{map-long}

number_short : (most : ℕ) (s : List ℕ) → is_number most s ≡ true → length s ≤ most
number_short most s e = sized-short most digit s (and_true (sized 1 most s && list_all digit s) (not (leading_zero s)) e).0

signed_short : (most : ℕ) (s : List ℕ) → rule_of (Signed most) s ≡ true → length s ≤ most + 1
signed_short most [] e = omega arith
signed_short most (b ∷ s) e = by (eqb b (code "-")) e
  where
    by : (t : Bool) → (if t then is_number most s && not (eqb (value_of s) 0) otherwise is_number most (b ∷ s)) ≡ true → length (b ∷ s) ≤ most + 1
    by true e = omega (arith, number_short most s (and_true (is_number most s) (not (eqb (value_of s) 0)) e).0)
    by false e = omega (arith, number_short most (b ∷ s) e)

field-short : (what : Holds) (s : List ℕ) → rule_of what s ≡ true → length s ≤ most_bytes what
field-short Id s e = sized-short longest_id id_byte s e
field-short Name s e = sized-short longest_name small s e
field-short Letter s e = sized-short 1 letter s e
field-short (Natural most) s e = number_short most s e
field-short (Signed most) s e = signed_short most s e

-- with a comma after the last field too
kept_short : (cs : List Column) (s : List ℕ) → keep cs (fields s) ≡ true → length s + 1 ≤ with_commas cs
kept_short [] s e = absurd (false≢true e)
kept_short (c ∷ cs) s e =
    let both = and_true (rule c (field s)) (keep cs (later s)) e in
    by (split s) (field-short (held c) (field s) both.0) both.1 (kept_short cs)
  where
    by : Split s → length (field s) ≤ most_bytes (held c) → keep cs (later s) ≡ true
        → ((rest : List ℕ) → keep cs (fields rest) ≡ true → length rest + 1 ≤ with_commas cs) → length s + 1 ≤ most_bytes (held c) + 1 + with_commas cs
    by (only alone all) h k again = omega (arith, all, h)
    by (comma rest on) h k again =
        let others = again (drop (length (field s) + 1) s) (rw rest at k) in
        omega (arith, others, length-drop (length (field s) + 1) s, on, h)

pub fields-short : FieldsShort
fields-short columns line counted kept =
    let as_many : length (fields line) ≡ length (map held columns) = counted ∙ sym (map-long columns) in
    let keeps : keep columns (fields line) ≡ true = kept_none 1 columns (fields line) ∙ rw (eq-eqb (length (fields line)) (length (map held columns)) as_many, kept) refl in
    omega (arith, kept_short columns line keeps)
