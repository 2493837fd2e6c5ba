-- What holds of every cell, subrange and law, each by one test over the list of them.
use mathlib.Core.Path.{◌≡◌, refl}
use mathlib.Core.Bool.{Bool, true, false, ◌&&◌}
use mathlib.Core.List.{map}
use Rattle.std.specs.Prelude.{Some}
use borrow.Author.Tests.{leb-true}
use lib.Dec.{leb}
use Rattle.std.specs.List.{list_any, list_all}
use Rattle.whole.proofs.Any.{Member, here, there, of_every, of_none, of_map}
use Rattle.whole.proofs.Choice.{and_true}
use Rattle.law.specs.declared.cell.Cell.{Cell}
use Rattle.law.specs.declared.cell.Cell.TheVariants as cell
use Rattle.law.specs.declared.subrange.Subrange.{Subrange}
use Rattle.law.specs.declared.subrange.Subrange.TheVariants.{Ga, In, Sn, Zn, Al, Ag}
use Rattle.law.specs.declared.laws.Law.TheVariants.{Curve, Scale}
use Rattle.law.specs.Cells.{all_cells}
use Rattle.law.specs.Subranges.{all_subranges, coefficients, law_name, law_named}
use Rattle.law.specs.Promised.{CellsRise, OneToFour, NamesLaw}

cell_listed : (p : Cell) → Member p all_cells
cell_listed cell.Hg = here
cell_listed cell.Ga = there here
cell_listed cell.In = there (there here)
cell_listed cell.Sn = there (there (there here))
cell_listed cell.Zn = there (there (there (there here)))
cell_listed cell.Al = there (there (there (there (there here))))
cell_listed cell.Ag = there (there (there (there (there (there here)))))

subrange_listed : (s : Subrange) → Member s all_subranges
subrange_listed Ga = here
subrange_listed In = there here
subrange_listed Sn = there (there here)
subrange_listed Zn = there (there (there here))
subrange_listed Al = there (there (there (there here)))
subrange_listed Ag = there (there (there (there (there here))))

-- a test that all cells, or all subranges, pass
pub every_cell : (test : Cell → Bool) → list_all test all_cells ≡ true → (p : Cell) → test p ≡ true
every_cell test e p = of_every test p all_cells (cell_listed p) e

pub no_cell : (test : Cell → Bool) → list_any test all_cells ≡ false → (p : Cell) → test p ≡ false
no_cell test e p = of_none test p all_cells (cell_listed p) e

pub every_subrange : (test : Subrange → Bool) → list_all test all_subranges ≡ true → (s : Subrange) → test s ≡ true
every_subrange test e s = of_every test s all_subranges (subrange_listed s) e

-- an equation that holds over the list of cells, or of subranges, holds of each
pub cell_fact : {B : Type 0} (f g : Cell → B) → map f all_cells ≡ map g all_cells → (p : Cell) → f p ≡ g p
cell_fact f g e p = of_map f g p all_cells (cell_listed p) e

pub subrange_fact : {B : Type 0} (f g : Subrange → B) → map f all_subranges ≡ map g all_subranges → (s : Subrange) → f s ≡ g s
subrange_fact f g e s = of_map f g s all_subranges (subrange_listed s) e

pub cells_rise : CellsRise
cells_rise = every_subrange _ refl

pub one_to_four : OneToFour
one_to_four s =
    let both = and_true (leb 1 (coefficients s)) (leb (coefficients s) 4) (every_subrange (λ (s : Subrange). leb 1 (coefficients s) && leb (coefficients s) 4) refl s) in
    (leb-true 1 (coefficients s) both.0, leb-true (coefficients s) 4 both.1)

pub names_law : NamesLaw
names_law Curve = refl
names_law (Scale s) =
    subrange_fact (λ (s : Subrange). law_named (law_name (Scale s))) (λ (s : Subrange). Some (Scale s)) refl s
