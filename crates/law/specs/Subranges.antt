-- The subranges of the scale, one row each, and the laws.
use Rattle.std.specs.Prelude.{Bool, true, false, List, [], ◌∷◌, map, ℕ, ◌==◌, ℤ, pos, length, Option}
use Rattle.std.specs.List.{find}
use Rattle.law.specs.declared.cell.Cell.{Cell}
use Rattle.law.specs.declared.cell.Cell.TheVariants as cell
use Rattle.law.specs.declared.subrange.Subrange.{Subrange}
use Rattle.law.specs.declared.subrange.Subrange.TheVariants.{Ga, In, Sn, Zn, Al, Ag}
use Rattle.law.specs.declared.subrange.Form.{Form}
use Rattle.law.specs.declared.subrange.Form.TheVariants.{Powers, PowersToSilver}
use Rattle.law.specs.declared.laws.Law.{Law}
use Rattle.law.specs.declared.laws.Law.TheVariants.{Curve, Scale}
use Rattle.law.specs.Names.{spelled}
use Rattle.law.specs.Cells.{step}

-- By which inverse Wr becomes a step: that of the reference function, from 0 °C up.
pub data Inverse : Type 0 where
  of_reference : Inverse

-- What a subrange carries: its name; its first and its last step, both included; the cells that it needs, from the lowest up; the form of its deviation
-- function; and its inverse.
pub record Carried : Type 0 where
  pub name : ℕ
  pub bottom : ℤ
  pub top : ℤ
  pub cells : List Cell
  pub form : Form
  pub inverse : Inverse

abbrev pub carried : Subrange → Carried
carried Ga = record { name = spelled "ga"; bottom = pos 0; top = step cell.Ga; cells = cell.Ga ∷ []; form = Powers; inverse = of_reference }
carried In = record { name = spelled "in"; bottom = pos 0; top = step cell.In; cells = cell.In ∷ []; form = Powers; inverse = of_reference }
carried Sn = record { name = spelled "sn"; bottom = pos 0; top = step cell.Sn; cells = cell.In ∷ cell.Sn ∷ []; form = Powers; inverse = of_reference }
carried Zn = record { name = spelled "zn"; bottom = pos 0; top = step cell.Zn; cells = cell.Sn ∷ cell.Zn ∷ []; form = Powers; inverse = of_reference }
carried Al = record { name = spelled "al"; bottom = pos 0; top = step cell.Al; cells = cell.Sn ∷ cell.Zn ∷ cell.Al ∷ []; form = Powers; inverse = of_reference }
carried Ag =
    record { name = spelled "ag"; bottom = pos 0; top = step cell.Ag; cells = cell.Sn ∷ cell.Zn ∷ cell.Al ∷ cell.Ag ∷ []; form = PowersToSilver; inverse = of_reference }

-- Whether a form goes to silver, as that of ag alone does, and so has the d term and W(Al).
abbrev pub to_silver : Form → Bool
to_silver Powers = false
to_silver PowersToSilver = true

abbrev pub all_subranges : List Subrange
all_subranges = Ga ∷ In ∷ Sn ∷ Zn ∷ Al ∷ Ag ∷ []

abbrev pub cells : Subrange → List Cell
cells s = (carried s).cells

-- How many of a, b, c, d it uses, the first ones: as many as it needs cells.
abbrev pub coefficients : Subrange → ℕ
coefficients s = length (cells s)

-- The subrange that a name names.
abbrev pub subrange_named : ℕ → Option Subrange
subrange_named n = find (λ s. (carried s).name == n) all_subranges

-- ---- the laws: the curve, and the scale by one of its subranges
abbrev pub law_name : Law → ℕ
law_name Curve = spelled "curve"
law_name (Scale s) = (carried s).name

abbrev pub all_laws : List Law
all_laws = Curve ∷ map Scale all_subranges

-- The law that a name names.
abbrev pub law_named : ℕ → Option Law
law_named n = find (λ law. law_name law == n) all_laws

-- The curve uses no coefficient and does not reach silver.
abbrev pub law_coefficients : Law → ℕ
law_coefficients Curve = 0
law_coefficients (Scale s) = coefficients s

abbrev pub law_silver : Law → Bool
law_silver Curve = false
law_silver (Scale s) = to_silver (carried s).form
