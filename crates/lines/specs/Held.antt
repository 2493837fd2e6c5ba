-- What is held of a partial line.
use Rattle.std.specs.Prelude.{◌≡◌, List, [], ◌∷◌, ◌++◌, ℕ, ◌+◌, ◌-◌, leb, length, take, drop}
use Rattle.whole.specs.Choice.{if◌then◌otherwise◌}
use Rattle.text.specs.Columns.{longest_line}
use Rattle.lines.specs.Lines.{last_byte}

-- Two bytes more than the longest line, so that all but the last byte held of a longer one is still longer than a line may be.
abbrev pub most_held : ℕ
most_held = longest_line + 2

-- What is held of a partial line: all of it, or of one that has more bytes than are held, as many less one, and its last byte, which tells whether a LF ends
-- the line.
abbrev pub capped : List ℕ → List ℕ
capped line = if leb (length line) most_held then line otherwise take (most_held - 1) line ++ (last_byte line ∷ [])

-- What adding s to the partial line in the first `count` bytes of a buffer promises of every byte: first stands what is held of the line then, so many bytes,
-- and every byte past them is as it was.
pub record Appended (before : List ℕ) (count : ℕ) (s after : List ℕ) (r : ℕ) : Type 0 where
  pub counted : r ≡ length (capped (take count before ++ s))
  pub bytes : after ≡ capped (take count before ++ s) ++ drop r before
