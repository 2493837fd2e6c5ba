-- Numbers in fields: decimal digits without a leading zero, a minus where below 0.
use Rattle.std.specs.Prelude.{List, [], ◌∷◌, Bool, false, ◌&&◌, not, ℕ, ◌+◌, ◌-◌, ◌*◌, eqb, ℤ, pos, ◌-ℤ◌}
use Prim.Native.Char.{code}
use Rattle.std.specs.List.{list_all}
use Rattle.whole.specs.Choice.{if◌then◌otherwise◌}
use Rattle.text.specs.Fields.{sized, digit}

-- So many digits always fit 64 bits, with a sign too. No list has a column of more.
abbrev pub most_digits : ℕ
most_digits = 18

-- A 0 with more after it.
abbrev pub leading_zero : List ℕ → Bool
leading_zero [] = false
leading_zero (b ∷ []) = false
leading_zero (b ∷ c ∷ s) = eqb b (code "0")

-- A number from 0 up, of at most so many digits.
abbrev pub is_number : ℕ → List ℕ → Bool
is_number most s = sized 1 most s && list_all digit s && not (leading_zero s)

-- The number n with digits after its own.
abbrev pub digits_after : ℕ → List ℕ → ℕ
digits_after n [] = n
digits_after n (b ∷ s) = digits_after (n * 10 + (b - code "0")) s

abbrev pub value_of : List ℕ → ℕ
value_of s = digits_after 0 s

-- A number of either sign, of at most so many digits; a minus never stands before 0.
abbrev pub is_signed : ℕ → List ℕ → Bool
is_signed most [] = false
is_signed most (b ∷ s) = if eqb b (code "-") then is_number most s && not (eqb (value_of s) 0) otherwise is_number most (b ∷ s)

abbrev pub signed_of : List ℕ → ℤ
signed_of [] = pos 0
signed_of (b ∷ s) = if eqb b (code "-") then pos 0 -ℤ pos (value_of s) otherwise pos (value_of (b ∷ s))
