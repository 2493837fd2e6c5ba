-- A larger resistance allowed: of records given as resistances only what was refused by 1 moves.
use mathlib.Core.Path.{◌≡◌, refl, sym, ◌∙◌}
use mathlib.Core.Bool.{Bool, true, false, ◌&&◌, not}
use mathlib.Core.List.{List, [], ◌∷◌}
use Prim.Native.Nat.{ℕ, ◌≤◌}
use Rattle.std.specs.List.{list_any}
use Rattle.whole.proofs.Any.{or_false}
use Rattle.quantity.specs.Quantities.{is_reading_up_to, is_divisor_up_to}
use Rattle.quantity.proofs.Widening.{not-outside, ones-move, named_move}
use Rattle.law.specs.declared.cell.Cell.{Cell}
use Rattle.law.specs.Cells.{all_cells}
use Rattle.law.specs.Subranges.{subrange_named}
use Rattle.certificate.specs.declared.record.Record.{Record}
use Rattle.certificate.specs.declared.resistances.Pair.{Pair}
use Rattle.certificate.specs.Certificate.{no_places}
use Rattle.certificate.specs.Record.{at, record_of}
use Rattle.certificate.specs.Resistances.{is_given, is_outside_up_to, cell_outside_up_to, outside_up_to, ratios_of, resistances_of_up_to}
use Rattle.certificate.specs.Promised.{ResistancesWiden}

module _ (largest larger : ℕ) (h : largest ≤ larger) where
  -- a cell that is not outside its limits is not outside the wider ones
  pair_inside : (p : Pair) → is_outside_up_to largest p ≡ false → is_outside_up_to larger p ≡ false
  pair_inside p = by (is_given p)
    where
      by : (given : Bool) → (given && not (is_reading_up_to largest p.r.0 && is_divisor_up_to largest p.r0.0)) ≡ false
          → (given && not (is_reading_up_to larger p.r.0 && is_divisor_up_to larger p.r0.0)) ≡ false
      by false e = refl
      by true e = not-outside largest larger h p.r.0 p.r0.0 e

  cells-inside : (resistances : Record Pair) (cells : List Cell) → list_any (cell_outside_up_to largest resistances) cells ≡ false → list_any (cell_outside_up_to larger resistances) cells ≡ false
  cells-inside resistances [] e = refl
  cells-inside resistances (p ∷ ps) e =
      let both = or_false (cell_outside_up_to largest resistances p) (list_any (cell_outside_up_to largest resistances) ps) e in
      rw (pair_inside (at resistances p) both.0, cells-inside resistances ps both.1) refl

  all-inside : (resistances : Record Pair) → outside_up_to largest resistances ≡ false → outside_up_to larger resistances ≡ false
  unfolding outside_up_to
  all-inside resistances e = cells-inside resistances all_cells e

pub resistances_widen : ResistancesWiden
resistances_widen resistances largest larger h =
    named_move no_places (subrange_named resistances.subrange.0) (λ s. resistances_of_up_to largest s resistances) (λ s. resistances_of_up_to larger s resistances)
    (λ s.
    let rule = record_of s (ratios_of resistances) in
    ones-move rule.tests (outside_up_to largest resistances) (outside_up_to larger resistances) (all-inside largest larger h resistances) [] rule.zeros rule.Answer (λ a b p q. p ∙ sym q))
