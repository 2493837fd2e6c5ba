-- What holds of every subrange and law.
use Rattle.std.specs.Prelude.{◌≡◌, Bool, true, false, ◌&&◌, List, [], ◌∷◌, ◌≤◌, ℤ, Some}
use Rattle.std.specs.Int.Signed.{le_z, lt_z}
use Rattle.law.specs.declared.cell.Cell.{Cell}
use Rattle.law.specs.declared.subrange.Subrange.{Subrange}
use Rattle.law.specs.declared.laws.Law.{Law}
use Rattle.law.specs.Cells.{step}
use Rattle.law.specs.Subranges.{carried, cells, coefficients, law_name, law_named}

-- The cells of a subrange rise, and the last is its top.
abbrev pub rises_to : ℤ → List Cell → Bool
rises_to top [] = false
rises_to top (p ∷ []) = le_z (step p) top && le_z top (step p)
rises_to top (p ∷ p' ∷ ps) = lt_z (step p) (step p') && rises_to top (p' ∷ ps)

abbrev pub CellsRise : Type 0
CellsRise = (s : Subrange) → rises_to (carried s).top (cells s) ≡ true

-- It needs one to four of them.
abbrev pub OneToFour : Type 0
OneToFour = (s : Subrange) → (1 ≤ coefficients s) × (coefficients s ≤ 4)

-- A law's name names that law and no other.
abbrev pub NamesLaw : Type 0
NamesLaw = (law : Law) → law_named (law_name law) ≡ Some law
