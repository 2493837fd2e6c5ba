-- Numbers as they are written: decimal digits, a minus before a number below 0, no leading zero.
use Rattle.std.specs.Prelude.{List, [], ◌∷◌, ◌++◌, ℕ, zero, suc, ◌+◌, ◌/◌, ◌%◌, ltb, ℤ, pos, negsuc}
use Prim.Native.Char.{code}
use Rattle.whole.specs.Choice.{if◌then◌otherwise◌}
use Rattle.whole.specs.Text.{ascii}

-- The digits of n, where it has no more than so many.
abbrev pub digits_in : ℕ → ℕ → List ℕ
digits_in zero n = []
digits_in (suc most) n = if ltb n 10 then (code "0" + n) ∷ [] otherwise digits_in most (n / 10) ++ ((code "0" + n % 10) ∷ [])

-- n has no more than n + 1 digits.
unfoldable pub decimal : ℕ → List ℕ
decimal n = digits_in (suc n) n

-- `negsuc n` is -(n + 1).
abbrev pub signed_decimal : ℤ → List ℕ
signed_decimal (pos n) = decimal n
signed_decimal (negsuc n) = ascii "-" ++ decimal (suc n)

-- A number of 64 bits has no more digits than this.
abbrev pub longest_number : ℕ
longest_number = 20
