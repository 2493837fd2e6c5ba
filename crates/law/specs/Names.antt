-- Names of laws and subranges, as numbers.
use Rattle.std.specs.Prelude.{ℕ}
use Prim.Native.String.{String}
use Rattle.whole.specs.Text.{ascii, name_of}

abbrev pub spelled : String → ℕ
spelled name = name_of (ascii name)
