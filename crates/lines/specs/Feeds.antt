-- What the inner functions answer that look for a LF; no promise to a caller rests on it.
use Rattle.std.specs.Prelude.{◌≡◌, Bool, true, false, List, ℕ, ◌≤◌, ◌<◌, eqb, length, get_or}
use Prim.Native.Char.{code}

abbrev pub feed : ℕ → Bool
feed b = eqb b (code "\n")

-- No byte of s from one offset to before the other is a LF.
pub record NoFeed (s : List ℕ) (from to : ℕ) : Type 0 where
  pub onward : from ≤ to
  pub within : to ≤ length s
  pub none : (j : ℕ) → from ≤ j → j < to → feed (get_or s j 0) ≡ false

-- The first LF from an offset on stands at i, or there is none and i is the length.
pub record FirstFeed (s : List ℕ) (from i : ℕ) : Type 0 where
  pub before : NoFeed s from i
  pub here : i < length s → feed (get_or s i 0) ≡ true
