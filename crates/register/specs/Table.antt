-- The register: a table of entries, one for each thermometer.
use Rattle.std.specs.Prelude.{Bool, false, ◌&&◌, ◌||◌, not, List, [], ◌∷◌, ℕ, suc, eqb}
use Rattle.std.specs.List.{list_any}
use Rattle.whole.specs.Choice.{if◌then◌otherwise◌}
use Rattle.entry.specs.declared.entry.Entry.{Entry}
use Rattle.entry.specs.Entry.{is_bad, is_free, free}

-- An entry has a number.
abbrev pub has : ℕ → Entry → Bool
has n e = eqb e.number.0 n

-- The place of a number: the first that has it, or the length where none has.
abbrev pub first_at : List Entry → ℕ → ℕ
first_at [] n = 0
first_at (e ∷ es) n = if has n e then 0 otherwise suc (first_at es n)

-- The entry of a number: the first that has it, or a free place where none has. So what is held of a thermometer that is not in the table is free, and so is
-- what is held of number 0, which names none.
abbrev pub entry_of : List Entry → ℕ → Entry
entry_of [] n = free
entry_of (e ∷ es) n = if has n e then e otherwise entry_of es n

-- An entry takes the first place that has a number. Where none has, nothing changes.
abbrev pub put : List Entry → ℕ → Entry → List Entry
put [] n x = []
put (e ∷ es) n x = if has n e then x ∷ es otherwise e ∷ put es n x

abbrev pub count : (Entry → Bool) → List Entry → ℕ
count test [] = 0
count test (e ∷ es) = if test e then suc (count test es) otherwise count test es

-- A thermometer is there twice.
abbrev pub twice : List Entry → Bool
twice [] = false
twice (e ∷ es) = (not (is_free e) && list_any (has e.number.0) es) || twice es

-- 23: the table holds a thermometer twice or a bad certificate.
unfoldable pub bad_table : List Entry → Bool
bad_table table = twice table || list_any (λ (e : Entry). not (is_free e) && is_bad e.certificate) table

-- The places left.
abbrev pub places : List Entry → ℕ
places table = count is_free table
