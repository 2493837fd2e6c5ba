-- A text written over a buffer.
use Rattle.std.specs.Prelude.{◌≡◌, List, ◌++◌, ℕ, ◌+◌, length, take, drop}

-- The buffer with a text written over its bytes from an offset on.
abbrev pub over : List ℕ → ℕ → List ℕ → List ℕ
over out at text = take at out ++ text ++ drop (at + length text) out

-- A text added after the first `at` bytes of a buffer, which then hold what they held and the text, up to r.
pub record Added (before : List ℕ) (at : ℕ) (text after : List ℕ) (r : ℕ) : Type 0 where
  pub end : r ≡ at + length text
  pub bytes : take r after ≡ take at before ++ text
  pub long : length after ≡ length before
