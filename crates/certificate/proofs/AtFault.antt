-- Which refusals have a cell at fault, and that no two answers state the same one.
use mathlib.Core.Path.{◌≡◌, refl, sym, ◌∙◌}
use mathlib.Core.Bool.{Bool, true, false, true≢false, false≢true, ◌&&◌, ◌||◌, not}
use mathlib.Core.List.{List, [], ◌∷◌}
use Rattle.std.specs.Prelude.{Option, None, Some}
use Prim.Native.Nat.{ℕ}
use native.Mathlib.Omega.{arith}
use borrow.Author.Tests.{eqb-true}
use lib.Dec.{eqb}
use Rattle.std.specs.List.{list_any}
use Rattle.whole.specs.Choice.{if◌then◌otherwise◌}
use Rattle.purity.specs.Purity.{by_gallium_or_mercury, by_silver}
use Rattle.quantity.specs.Outcomes.{Outcome, Test, ◌gives◌, number_given, Rule, Follows, if_named}
use Rattle.quantity.proofs.Outcomes.{code-is-given}
use Rattle.law.specs.declared.cell.Cell.{Cell}
use Rattle.law.specs.declared.cell.Cell.TheVariants.{Hg, Ga, Ag}
use Rattle.law.specs.declared.subrange.Subrange.{Subrange}
use Rattle.law.specs.Cells.{all_cells}
use Rattle.law.specs.Subranges.{carried, cells, to_silver, subrange_named}
use Rattle.fit.specs.Fit.{beyond}
use Rattle.quantity.specs.declared.resistance.Ratio.{Ratio}
use Rattle.certificate.specs.declared.record.Record.{Record}
use Rattle.certificate.specs.declared.resistances.Pair.{Pair}
use Rattle.certificate.specs.Certificate.{LawAndPlaces, no_places}
use Rattle.certificate.specs.Record.{ratio, measured, is_above, ratio_above, is_missing, cell_missing, purity_cell_missing, impure, cell_deviates, deviates, fitted, record_of}
use Rattle.certificate.specs.Resistances.{cell_outside, outside_up_to, outside, ratios_of, resistances_of}
use Rattle.certificate.specs.AtFault.{breaks_purity, cell_for, at_fault, cell_for_by, at_fault_by, of_named, cell_at_fault, cell_at_fault_by}
use Rattle.certificate.specs.Promised.{among, FaultFound, NoneAtFault, FaultFoundBy, NoneAtFaultBy, CoefficientAtFault, CoefficientAtFaultBy}
use Rattle.certificate.proofs.Firsts.{first_found, none-holds}

-- ---- purity not met, where gallium or mercury was measured
one-breaks : (ga hg met silver enough : Bool) → not (ga || hg) ≡ false → not (met && (not silver || enough)) ≡ true → (not met && hg || (not met && ga || (silver && not enough || false))) ≡ true
one-breaks ga true false silver enough m e = refl
one-breaks true false false silver enough m e = refl
one-breaks false false false silver enough m e = absurd (true≢false m)
one-breaks ga hg true true false m e = refl
one-breaks ga hg true true true m e = absurd (false≢true e)
one-breaks ga hg true false enough m e = absurd (false≢true e)

some_breaks : (s : Subrange) (ratios : Record Ratio) → purity_cell_missing ratios ≡ false → impure s ratios ≡ true → list_any (breaks_purity s ratios) all_cells ≡ true
unfolding purity_cell_missing impure
some_breaks s ratios =
    one-breaks (measured ratios Ga) (measured ratios Hg) (by_gallium_or_mercury (ratio ratios Hg) (ratio ratios Ga)) (to_silver (carried s).form) (by_silver (ratio ratios Ag))

-- ---- of numbers
-- what is so of each number of a list is so of one among them
abbrev OfEach : (ℕ → Type 0) → List ℕ → Type 0
OfEach P [] = Unit {0}
OfEach P (n ∷ ns) = P n × OfEach P ns

of_among : (P : ℕ → Type 0) (ns : List ℕ) → OfEach P ns → (n : ℕ) → among ns n ≡ true → P n
of_among P [] each n e = absurd (false≢true e)
of_among P (m ∷ ns) each n e = by (eqb n m) refl (of_among P ns each.1 n) e
  where
    by : (t : Bool) → eqb n m ≡ t → (among ns n ≡ true → P n) → (t || among ns n) ≡ true → P n
    by true is later e = rw (eqb-true n m is) each.0
    by false is later e = later e

-- and what is so of the number of each test, where it holds and none before it does, and of 0, where none holds, is so of the number given
abbrev OfTests : (ℕ → Type 0) → List Test → Type 0
OfTests P [] = P 0
OfTests P ((holds gives n) ∷ tests) = (holds ≡ true → P n) × (holds ≡ false → OfTests P tests)

of_given : (P : ℕ → Type 0) (tests : List Test) → OfTests P tests → P (number_given tests)
of_given P [] each = each
of_given P ((holds gives n) ∷ tests) each = by holds refl (of_given P tests)
  where
    by : (t : Bool) → holds ≡ t → (OfTests P tests → P (number_given tests)) → P (if t then n otherwise number_given tests)
    by true is later = each.0 is
    by false is later = later (each.1 is)

-- ---- of a known subrange
module _ (s : Subrange) (ratios : Record Ratio) where
  -- a record is never refused by 1, by which resistances are
  found : among (1 ∷ 2 ∷ 4 ∷ 6 ∷ []) (number_given (record_of s ratios).tests) ≡ true → (p : Cell) × (at_fault s ratios ≡ Some p)
  unfolding at_fault ratio_above cell_missing
  found =
      of_given (λ n. among (1 ∷ 2 ∷ 4 ∷ 6 ∷ []) n ≡ true → (p : Cell) × (cell_for s ratios n ≡ Some p)) (record_of s ratios).tests (
        λ above e. first_found (is_above ratios) all_cells above,
        λ _. (
          λ missing e. first_found (is_missing ratios) (cells s) missing,
          λ _. (
            λ _ e. absurd (false≢true e),
            λ measured. (
              λ impurity e. first_found (breaks_purity s ratios) all_cells (some_breaks s ratios measured impurity),
              λ _. (
                λ _ e. absurd (false≢true e),
                λ _ e. absurd (false≢true e),
              ),
            ),
          ),
        ),
      )

  no_fault : among (0 ∷ 3 ∷ 5 ∷ []) (number_given (record_of s ratios).tests) ≡ true → at_fault s ratios ≡ None
  unfolding at_fault
  no_fault = of_among (λ n. cell_for s ratios n ≡ None) (0 ∷ 3 ∷ 5 ∷ []) (refl, (refl, (refl, tt))) (number_given (record_of s ratios).tests)

  -- 7 is given for a deviation or for a coefficient
  refused-by-7 : number_given (record_of s ratios).tests ≡ 7 → (deviates ratios || beyond (fitted ratios (cells s))) ≡ true
  refused-by-7 =
      of_given (λ n. n ≡ 7 → (deviates ratios || beyond (fitted ratios (cells s))) ≡ true) (record_of s ratios).tests
      (λ _ e. absurd (omega arith), λ _. (λ _ e. absurd (omega arith), λ _. (λ _ e. absurd (omega arith), λ _. (λ _ e. absurd (omega arith), λ _. (λ far e. far, λ _ e. absurd (omega arith))))))

  coefficient : number_given (record_of s ratios).tests ≡ 7 → at_fault s ratios ≡ None → (deviates ratios ≡ false) × (beyond (fitted ratios (cells s)) ≡ true)
  unfolding at_fault deviates
  coefficient is e =
      let no : deviates ratios ≡ false = none-holds (cell_deviates ratios) all_cells (rw is at e) in
      (no, rw no at (refused-by-7 is))

  never-1 : eqb (number_given (record_of s ratios).tests) 1 ≡ false
  never-1 = of_given (λ n. eqb n 1 ≡ false) (record_of s ratios).tests (λ _. refl, λ _. (λ _. refl, λ _. (λ _. refl, λ _. (λ _. refl, λ _. (λ _. refl, λ _. refl)))))

module _ (s : Subrange) (resistances : Record Pair) where
  abbrev given : ℕ
  given = number_given (resistances_of s resistances).tests

  -- where no cell is outside, they are at fault as their ratios are
  pub fault-of-ratios : outside resistances ≡ false → at_fault_by s resistances ≡ at_fault s (ratios_of resistances)
  unfolding at_fault at_fault_by
  fault-of-ratios inside = rw (inside, never-1 s (ratios_of resistances))

  found-by : among (1 ∷ 2 ∷ 4 ∷ 6 ∷ []) given ≡ true → (p : Cell) × (at_fault_by s resistances ≡ Some p)
  unfolding at_fault_by outside_up_to
  found-by = by (outside resistances) refl
    where
      by : (out : Bool) → outside resistances ≡ out → among (1 ∷ 2 ∷ 4 ∷ 6 ∷ []) given ≡ true → (p : Cell) × (at_fault_by s resistances ≡ Some p)
      by true o e = rw o (first_found (cell_outside resistances) all_cells o)
      by false o e = rw (fault-of-ratios o) (found s (ratios_of resistances) (rw o at e))

  no-fault-by : among (0 ∷ 3 ∷ 5 ∷ []) given ≡ true → at_fault_by s resistances ≡ None
  unfolding at_fault_by
  no-fault-by = of_among (λ n. cell_for_by s resistances n ≡ None) (0 ∷ 3 ∷ 5 ∷ []) (refl, (refl, (refl, tt))) given

  coefficient-by : given ≡ 7 → at_fault_by s resistances ≡ None → (deviates (ratios_of resistances) ≡ false) × (beyond (fitted (ratios_of resistances) (cells s)) ≡ true)
  coefficient-by is e = by (outside resistances) refl
    where
      by : (out : Bool) → outside resistances ≡ out → (deviates (ratios_of resistances) ≡ false) × (beyond (fitted (ratios_of resistances) (cells s)) ≡ true)
      by true o = let one = rw o at is in absurd (omega arith)
      by false o = coefficient s (ratios_of resistances) (rw o at is) (rw (fault-of-ratios o) at e)

-- ---- by what the name names
module _ (rule : Subrange → Rule LawAndPlaces) (fault : Subrange → Option Cell) (o : Outcome LawAndPlaces) where
  named-found : ((s : Subrange) → among (1 ∷ 2 ∷ 4 ∷ 6 ∷ []) (number_given (rule s).tests) ≡ true → (p : Cell) × (fault s ≡ Some p))
      → (named : Option Subrange) → Follows (if_named no_places named rule) o → among (1 ∷ 2 ∷ 4 ∷ 6 ∷ []) o.code ≡ true → (p : Cell) × (of_named named fault ≡ Some p)
  named-found each None h e = absurd (false≢true (rw (code-is-given (if_named {B = Subrange} no_places None rule) o h) at e))
  named-found each (Some s) h e = each s (rw (code-is-given (rule s) o h) at e)

  named_none : ((s : Subrange) → among (0 ∷ 3 ∷ 5 ∷ []) (number_given (rule s).tests) ≡ true → fault s ≡ None)
      → (named : Option Subrange) → Follows (if_named no_places named rule) o → among (0 ∷ 3 ∷ 5 ∷ []) o.code ≡ true → of_named named fault ≡ None
  named_none each None h e = refl
  named_none each (Some s) h e = each s (rw (code-is-given (rule s) o h) at e)

  named-coefficient : {P : Subrange → Type 0} → ((s : Subrange) → number_given (rule s).tests ≡ 7 → fault s ≡ None → P s)
      → (named : Option Subrange) (s : Subrange) → named ≡ Some s → Follows (if_named no_places named rule) o → o.code ≡ 7 → of_named named fault ≡ None → P s
  named-coefficient each named s is h e f = each s (sym (code-is-given (rule s) o (rw is at h)) ∙ e) (rw is at f)

or_later : (a b : Bool) → b ≡ true → (a || b) ≡ true
or_later true b e = refl
or_later false b e = e

pub fault_found : FaultFound
unfolding cell_at_fault
fault_found ratios o h e =
    named-found (λ s. record_of s ratios) (λ s. at_fault s ratios) o (λ s. found s ratios) (subrange_named ratios.subrange.0) h (or_later (eqb o.code 1) (among (2 ∷ 4 ∷ 6 ∷ []) o.code) e)

pub none_at_fault : NoneAtFault
unfolding cell_at_fault
none_at_fault ratios o = named_none (λ s. record_of s ratios) (λ s. at_fault s ratios) o (λ s. no_fault s ratios) (subrange_named ratios.subrange.0)

pub fault_found_by : FaultFoundBy
unfolding cell_at_fault_by
fault_found_by resistances o = named-found (λ s. resistances_of s resistances) (λ s. at_fault_by s resistances) o (λ s. found-by s resistances) (subrange_named resistances.subrange.0)

pub none_at_fault_by : NoneAtFaultBy
unfolding cell_at_fault_by
none_at_fault_by resistances o = named_none (λ s. resistances_of s resistances) (λ s. at_fault_by s resistances) o (λ s. no-fault-by s resistances) (subrange_named resistances.subrange.0)

pub coefficient_at_fault : CoefficientAtFault
unfolding cell_at_fault
coefficient_at_fault ratios s o = named-coefficient (λ s. record_of s ratios) (λ s. at_fault s ratios) o (λ s. coefficient s ratios) (subrange_named ratios.subrange.0) s

pub coefficient_at_fault_by : CoefficientAtFaultBy
unfolding cell_at_fault_by
coefficient_at_fault_by resistances s o = named-coefficient (λ s. resistances_of s resistances) (λ s. at_fault_by s resistances) o (λ s. coefficient-by s resistances) (subrange_named resistances.subrange.0) s

-- ---- one answer
pub one_faulty_cell : (ratios : Record Ratio) (x y : Option Cell) → x ≡ cell_at_fault ratios → y ≡ cell_at_fault ratios → x ≡ y
one_faulty_cell ratios x y e f = e ∙ sym f

pub one_faulty_cell_by : (resistances : Record Pair) (x y : Option Cell) → x ≡ cell_at_fault_by resistances → y ≡ cell_at_fault_by resistances → x ≡ y
one_faulty_cell_by resistances x y e f = e ∙ sym f
