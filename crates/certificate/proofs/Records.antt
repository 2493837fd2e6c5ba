-- What the tests of a record say of its cells, over the cell list.
use mathlib.Core.Path.{◌≡◌, refl, sym}
use mathlib.Core.Bool.{Bool, true, false, true≢false, ◌&&◌, not}
use mathlib.Core.List.{List, [], ◌∷◌, map}
use Prim.Native.Nat.{ℕ, ◌+◌, ◌*◌, ◌≤◌}
use borrow.Author.Tests.{ltb-false, leb-true, not-false, not-true, eqb-false}
use lib.Dec.{leb, eqb}
use lib.IntN.{pos, ◌+ℤ◌}
use lib.Signed.{◌≤ℤ◌}
use Rattle.whole.proofs.Any.{Member, here, there, of_none}
use Rattle.whole.proofs.Choice.{and_true}
use Rattle.whole.proofs.Parts.{ints, one_part, abs_parts, add_parts}
use Rattle.quantity.specs.Quantities.{one, largest_ratio}
use Rattle.law.specs.declared.cell.Cell.{Cell}
use Rattle.law.specs.declared.subrange.Subrange.{Subrange}
use Rattle.law.specs.Cells.{Wr}
use Rattle.law.specs.Subranges.{cells}
use Rattle.law.proofs.Subranges.{every_cell, no_cell, every_subrange}
use Rattle.deviation.specs.Limits.{fine, x, δ, within, highest_wr}
use Rattle.deviation.proofs.Limits.{x_parts, δ-parts, limit}
use Rattle.fit.specs.Room.{Kept, Spread, least_gap, Roomy}
use Rattle.fit.proofs.Sizes as sizes
use Rattle.quantity.specs.declared.resistance.Ratio.{Ratio}
use Rattle.certificate.specs.declared.record.Record.{Record}
use Rattle.certificate.specs.Record.{ratio, measured, is_above, ratio_above, is_missing, cell_missing, cell_deviates, deviates, point}

pub and-not : (a b : Bool) → a ≡ true → (a && not b) ≡ false → b ≡ true
and-not true b p e = not-false b e
and-not false b p e = absurd (true≢false (sym p))

-- ---- the table of cells
-- no cell's Wr is 1, and none is above the highest that the code allows
not-one : (p : Cell) → Wr p ≡ fine * one → ⊥
not-one p = eqb-false (Wr p) (fine * one) (not-true (eqb (Wr p) (fine * one)) (every_cell (λ (p : Cell). not (eqb (Wr p) (fine * one))) refl p))

pub not_high : (p : Cell) → Wr p ≤ highest_wr
not_high p = leb-true (Wr p) highest_wr (every_cell (λ (p : Cell). leb (Wr p) highest_wr) refl p)

-- neighbours of a list have Wr that far apart, each deviation's largest size allowed for
abbrev pub apart : ℕ → List Cell → Bool
apart gap [] = true
apart gap (p ∷ []) = true
apart gap (p ∷ p' ∷ ps) = leb (Wr p + fine * gap + 680_000_000) (Wr p') && apart gap (p' ∷ ps)

-- so it is with the cells of every subrange
cells-apart : (s : Subrange) → apart (least_gap (cells s)) (cells s) ≡ true
cells-apart s = every_subrange (λ (s : Subrange). apart (least_gap (cells s)) (cells s)) refl s

-- ---- a record that passes its tests
-- each cell of a list was measured
pub all_measured : (ratios : Record Ratio) (ps : List Cell) → cell_missing ratios ps ≡ false → (p : Cell) → Member p ps → measured ratios p ≡ true
unfolding cell_missing
all_measured ratios ps e p m = not-false (measured ratios p) (of_none (is_missing ratios) p ps m e)

module _ (ratios : Record Ratio) (above : ratio_above ratios ≡ false) where
  pub not_above : (p : Cell) → ratio ratios p ≤ largest_ratio
  unfolding ratio_above
  not_above p = ltb-false largest_ratio (ratio ratios p) (no_cell (is_above ratios) above p)

  module _ (kept : deviates ratios ≡ false) where
    pub keeps-limit : (p : Cell) → measured ratios p ≡ true → within (Wr p) (ratio ratios p) ≡ true
    unfolding deviates
    keeps-limit p m = and-not (measured ratios p) (within (Wr p) (ratio ratios p)) m (no_cell (cell_deviates ratios) kept p)

    pub cell-kept : (p : Cell) → measured ratios p ≡ true → Kept (point ratios p)
    cell-kept p m =
        let w = ratio ratios p in
        let l = limit (Wr p) w (keeps-limit p m) in
        record {
          from_zero = omega (ints, x_parts w);
          to_largest = omega (ints, x_parts w, add_parts (x w) (pos one), not_above p);
          limit = keeps-limit p m;
          apart = λ e. not-one p (omega (ints, e, l, x_parts w, δ-parts (Wr p) w, one_part (x w), abs_parts (x w), abs_parts (δ (Wr p) w)));
        }

    two-apart : (p p' : Cell) (gap : ℕ) → measured ratios p ≡ true → measured ratios p' ≡ true → Wr p + fine * gap + 680_000_000 ≤ Wr p' → (x (ratio ratios p) +ℤ pos gap) ≤ℤ x (ratio ratios p')
    two-apart p p' gap m m' h =
        let w = ratio ratios p in
        let w' = ratio ratios p' in
        omega (
          ints,
          h,
          add_parts (x w) (pos gap),
          x_parts w,
          x_parts w',
          δ-parts (Wr p) w,
          δ-parts (Wr p') w',
          abs_parts (δ (Wr p) w),
          abs_parts (δ (Wr p') w'),
          sizes.δ-size (point ratios p) (cell-kept p m),
          sizes.δ-size (point ratios p') (cell-kept p' m'),
        )

    -- once for every list of cells: measured ones that lie apart in the table lie apart in the record
    spread : (gap : ℕ) (ps : List Cell) → apart gap ps ≡ true → ((p : Cell) → Member p ps → measured ratios p ≡ true) → Spread gap (map (point ratios) ps)
    spread gap [] a m = tt
    spread gap (p ∷ []) a m = cell-kept p (m p here)
    spread gap (p ∷ p' ∷ ps) a m =
        let here-apart = leb (Wr p + fine * gap + 680_000_000) (Wr p') in
        let both = and_true here-apart (apart gap (p' ∷ ps)) a in (
          cell-kept p (m p here),
          two-apart p p' gap (m p here) (m p' (there here)) (leb-true (Wr p + fine * gap + 680_000_000) (Wr p') both.0),
          spread gap (p' ∷ ps) both.1 (λ q i. m q (there i)),
        )

    same_gap : (ps : List Cell) → least_gap (map (point ratios) ps) ≡ least_gap ps
    same_gap [] = refl
    same_gap (p ∷ []) = refl
    same_gap (p ∷ p' ∷ []) = refl
    same_gap (p ∷ p' ∷ p'' ∷ ps) = refl

    pub roomy : (s : Subrange) → cell_missing ratios (cells s) ≡ false → Roomy (map (point ratios) (cells s))
    roomy s e = rw (same_gap (cells s)) (spread (least_gap (cells s)) (cells s) (cells-apart s) (all_measured ratios (cells s) e))
