-- What the code answers of a name or of a subrange's cells has one outcome.
use mathlib.Core.Path.{◌≡◌, sym, ◌∙◌}
use mathlib.Core.List.{List}
use Rattle.std.specs.Prelude.{Option}
use Prim.Native.Nat.{ℕ}
use Rattle.law.specs.declared.cell.Cell.{Cell}
use Rattle.law.specs.declared.subrange.Subrange.{Subrange}
use Rattle.law.specs.declared.laws.Law.{Law}
use Rattle.law.specs.Subranges.{cells, subrange_named, law_named}

pub listed_unique : (s : Subrange) (x y : List Cell) → x ≡ cells s → y ≡ cells s → x ≡ y
listed_unique s x y e f = e ∙ sym f

pub named_unique : (n : ℕ) (x y : Option Subrange) → x ≡ subrange_named n → y ≡ subrange_named n → x ≡ y
named_unique n x y e f = e ∙ sym f

pub law_unique : (n : ℕ) (x y : Option Law) → x ≡ law_named n → y ≡ law_named n → x ≡ y
law_unique n x y e f = e ∙ sym f
