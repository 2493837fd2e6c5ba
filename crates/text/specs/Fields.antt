-- The fields of a line: RFC 4180 without its quotes.
use Rattle.std.specs.Prelude.{List, [], ◌∷◌, Bool, ◌&&◌, ◌||◌, ℕ, leb, eqb, length}
use Prim.Native.Char.{code}
use Rattle.whole.specs.Choice.{if◌then◌otherwise◌}

-- What stands before the first comma, all of it where there is none.
abbrev pub field : List ℕ → List ℕ
field [] = []
field (b ∷ s) = if eqb b (code ",") then [] otherwise b ∷ field s

-- For each comma, what stands after it and before the next.
abbrev pub later : List ℕ → List (List ℕ)
later [] = []
later (b ∷ s) = if eqb b (code ",") then field s ∷ later s otherwise later s

abbrev pub fields : List ℕ → List (List ℕ)
fields line = field line ∷ later line

-- What rules of fields are made of: so many bytes, and every byte of one kind (`list_all` of the library).
abbrev pub sized : ℕ → ℕ → List ℕ → Bool
sized least most s = leb least (length s) && leb (length s) most

abbrev pub digit : ℕ → Bool
digit b = leb (code "0") b && leb b (code "9")

abbrev pub capital : ℕ → Bool
capital b = leb (code "A") b && leb b (code "Z")

abbrev pub small : ℕ → Bool
small b = leb (code "a") b && leb b (code "z")

abbrev pub letter : ℕ → Bool
letter b = capital b || small b
