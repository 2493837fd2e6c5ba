-- Text in definitions stands as text.
use Rattle.std.specs.Prelude.{List, [], ◌∷◌, ℕ, ◌+◌, ◌*◌}
use Prim.Native.Char.{code}
use Prim.Native.String.{String}
use Prim.Native.String as text

-- The bytes of an ASCII text.
abbrev pub ascii : String → List ℕ
ascii text.[] = []
ascii (text.◌∷◌ letter letters) = code letter ∷ ascii letters

-- The number n with bytes after its digits, in base 256.
abbrev pub after : ℕ → List ℕ → ℕ
after n [] = n
after n (letter ∷ letters) = after (n * 256 + letter) letters

-- A name of ASCII letters as a number: the letters' bytes are its digits in base 256, the first letter highest. A name of up to eight letters is a number of
-- 64 bits.
abbrev pub name_of : List ℕ → ℕ
name_of letters = after 0 letters
