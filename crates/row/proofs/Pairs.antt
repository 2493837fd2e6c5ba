-- Two columns read at once: the resistances of a cell.
use mathlib.Core.Path.{◌≡◌, refl, sym, subst}
use mathlib.Core.List.{List, ◌∷◌}
use Prim.Native.Nat.{ℕ}
use Prim.Native.String.{String}
use Rattle.text.specs.declared.columns.Holds.TheVariants.{Natural}
use Rattle.text.specs.Columns.{Column, ◌holds◌, Value, count}
use Rattle.text.specs.Numbers.{is_number, value_of}
use Rattle.text.specs.Scanned.{scanned_at}
use Rattle.text.proofs.Rows.{Scan, a-natural}
use Rattle.certificate.specs.declared.resistances.Pair.{Pair}
use Rattle.text.specs.declared.field.Scanned.{Scanned}
use Rattle.row.specs.Limits.{limits}
use Rattle.row.specs.Resistances.{pair_at}

pub a_pair : {line : List ℕ} {one two : String} {cs : List Column} {from end : ℕ} {vs : List Value} (x : Scanned Pair) → x ≡ pair_at line from → Scan line cs x.next end vs
    → Scan line ((one holds Natural limits.digits) ∷ (two holds Natural limits.digits) ∷ cs) from end (count x.value.r.0 ∷ count x.value.r0.0 ∷ vs)
a_pair {line} {one} {two} {cs} {from} {end} {vs} x e s =
    let r = scanned_at (is_number limits.digits) value_of line from in
    let scan = subst (λ (x : Scanned Pair). Scan line cs x.next end vs) e s in
    subst (λ (x : Scanned Pair). Scan line ((one holds Natural limits.digits) ∷ (two holds Natural limits.digits) ∷ cs) from end (count x.value.r.0 ∷ count x.value.r0.0 ∷ vs)) (sym e)
    (a-natural r refl (a-natural (scanned_at (is_number limits.digits) value_of line r.next) refl scan))
