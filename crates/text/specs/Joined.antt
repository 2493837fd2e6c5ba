-- What was parsed is what was meant.
use Rattle.std.specs.Prelude.{◌≡◌, List, [], ◌∷◌, ◌++◌, ℕ}
use Rattle.whole.specs.Text.{ascii}
use Rattle.text.specs.Fields.{fields}

-- Fields with a comma between each two.
abbrev pub joined : List (List ℕ) → List ℕ
joined [] = []
joined (f ∷ []) = f
joined (f ∷ g ∷ fs) = f ++ ascii "," ++ joined (g ∷ fs)

-- The fields of a line, joined by commas, are the line.
abbrev pub FieldsJoined : Type 0
FieldsJoined = (line : List ℕ) → joined (fields line) ≡ line
