-- Whether there is a first cell of which something holds.
use mathlib.Core.Path.{◌≡◌, refl}
use mathlib.Core.Bool.{Bool, true, false, true≢false, false≢true, ◌||◌}
use mathlib.Core.List.{List, [], ◌∷◌}
use Rattle.std.specs.Prelude.{None, Some}
use Prim.Native.Nat.{ℕ}
use native.Mathlib.Omega.{arith}
use Rattle.std.specs.List.{find, list_any}
use Rattle.std.proofs.Common.{cond}
use Rattle.whole.specs.Choice.{if◌then◌otherwise◌}
use Rattle.law.specs.declared.cell.Cell.{Cell}
use Rattle.law.specs.declared.subrange.Subrange.{Subrange}
use Rattle.law.specs.Cells.{all_cells}
use Rattle.quantity.specs.declared.resistance.Ratio.{Ratio}
use Rattle.certificate.specs.declared.record.Record.{Record}
use Rattle.certificate.specs.Record.{cell_deviates, deviates}
use Rattle.certificate.specs.AtFault.{cell_for}

module _ (holds : Cell → Bool) where
  -- there is one where any of them is such a cell, and else none
  pub first_found : (ps : List Cell) → list_any holds ps ≡ true → (q : Cell) × (find holds ps ≡ Some q)
  first_found [] e = absurd (false≢true e)
  first_found (p ∷ ps) e = by (holds p) e (first_found ps)
    where
      by : (t : Bool) → (t || list_any holds ps) ≡ true → (list_any holds ps ≡ true → (q : Cell) × (find holds ps ≡ Some q)) → (q : Cell) × (cond t (Some p) (find holds ps) ≡ Some q)
      by true e later = (p, refl)
      by false e later = later e

  pub first-none : (ps : List Cell) → list_any holds ps ≡ false → find holds ps ≡ None
  first-none [] e = refl
  first-none (p ∷ ps) e = by (holds p) e (first-none ps)
    where
      by : (t : Bool) → (t || list_any holds ps) ≡ false → (list_any holds ps ≡ false → find holds ps ≡ None) → cond t (Some p) (find holds ps) ≡ None
      by true e later = absurd (true≢false e)
      by false e later = later e

  pub none-holds : (ps : List Cell) → find holds ps ≡ None → list_any holds ps ≡ false
  none-holds ps e = by (list_any holds ps) refl
    where
      by : (t : Bool) → list_any holds ps ≡ t → t ≡ false
      by false h = refl
      by true h = let f = first_found ps h in let o = f.1 in absurd (let z : ◌≡◌ {A = ℕ} 0 1 = cc in omega arith)

-- the first that deviates, none where 7 is given for a coefficient or is not given
pub if_deviating : (s : Subrange) (ratios : Record Ratio) (far : Bool) → find (cell_deviates ratios) all_cells ≡ cell_for s ratios (if deviates ratios || far then 7 otherwise 0)
unfolding deviates
if_deviating s ratios far = by (list_any (cell_deviates ratios) all_cells) far refl
  where
    by : (t far : Bool) → list_any (cell_deviates ratios) all_cells ≡ t → find (cell_deviates ratios) all_cells ≡ cell_for s ratios (if t || far then 7 otherwise 0)
    by true _ e = refl
    by false true e = refl
    by false false e = first-none (cell_deviates ratios) all_cells e
