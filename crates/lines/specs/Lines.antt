-- The lines of an input: RFC 4180, each ends with CRLF, and the last may lack it.
use Rattle.std.specs.Prelude.{Bool, ◌&&◌, List, [], ◌∷◌, ◌++◌, ℕ, ◌-◌, eqb, length, get_or, take}
use Prim.Native.Char.{code}
use Rattle.whole.specs.Choice.{if◌then◌otherwise◌}

-- The last byte, and all but the last.
abbrev pub last_byte : List ℕ → ℕ
last_byte s = get_or s (length s - 1) 0

abbrev pub all_but_last : List ℕ → List ℕ
all_but_last s = take (length s - 1) s

-- A byte after the last one: LF after CR ends a line. Alone either is a byte of its line.
abbrev pub ends_after : ℕ → ℕ → Bool
ends_after last b = eqb b (code "\n") && eqb last (code "\r")

-- The byte ends the line whose bytes so far are these.
abbrev pub ends_line : List ℕ → ℕ → Bool
ends_line line b = ends_after (last_byte line) b

-- The lines that end within these bytes, where `line` is the partial line before them.
abbrev pub ended : List ℕ → List ℕ → List (List ℕ)
ended line [] = []
ended line (b ∷ s) = if ends_line line b then all_but_last line ∷ ended [] s otherwise ended (line ++ (b ∷ [])) s

-- The partial line after them.
abbrev pub begun : List ℕ → List ℕ → List ℕ
begun line [] = line
begun line (b ∷ s) = if ends_line line b then begun [] s otherwise begun (line ++ (b ∷ [])) s

-- At the end of the input the partial line is the last line; an empty one is no line.
abbrev pub last_line : List ℕ → List (List ℕ)
last_line [] = []
last_line (b ∷ s) = (b ∷ s) ∷ []

abbrev pub lines : List ℕ → List (List ℕ)
lines input = ended [] input ++ last_line (begun [] input)
