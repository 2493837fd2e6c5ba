-- Where a line ends.
use Rattle.std.specs.Prelude.{◌≡◌, true, List, [], ◌++◌, ℕ, ◌-◌, ◌≤◌, ◌<◌, eqb, length, get_or, take}
use Rattle.whole.specs.Choice.{if◌then◌otherwise◌}
use Rattle.lines.specs.Lines.{last_byte, ends_line, ended, begun}

-- What an inner function answers: the byte before the one at i, which is the given last one before the first.
abbrev pub byte_before : ℕ → List ℕ → ℕ → ℕ
byte_before last s i = if eqb i 0 then last otherwise get_or s (i - 1) 0

-- The first byte of s that ends a line has this offset, or s has none and it is its length: no line ends before it, so that all bytes before it belong to the
-- line. `line` is the partial line before s.
pub record EndsAt (line s : List ℕ) (i : ℕ) : Type 0 where
  pub within : i ≤ length s
  pub before : ended line (take i s) ≡ []
  pub whole : begun line (take i s) ≡ line ++ take i s
  pub ends : i < length s → ends_line (line ++ take i s) (get_or s i 0) ≡ true

-- The same for every line whose last byte is this one, 0 where it has none.
abbrev pub EndsAfter : ℕ → List ℕ → ℕ → Type 0
EndsAfter last s i = (line : List ℕ) → last_byte line ≡ last → EndsAt line s i
