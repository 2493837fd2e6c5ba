-- From a record of cell ratios to a certificate, or the number given instead.
use Rattle.std.specs.Prelude.{Bool, ◌&&◌, ◌||◌, not, ◌≡◌, List, [], ◌∷◌, map, ℕ, ltb}
use Rattle.std.specs.List.{list_any}
use Rattle.whole.specs.Choice.{if◌then◌otherwise◌}
use Rattle.quantity.specs.Quantities.{largest_ratio}
use Rattle.quantity.specs.Outcomes.{◌gives◌, Rule, if_named}
use Rattle.purity.specs.Purity.{is_measured, pure}
use Rattle.law.specs.declared.cell.Cell.{Cell}
use Rattle.law.specs.declared.cell.Cell.TheVariants as cell
use Rattle.law.specs.declared.subrange.Subrange.{Subrange}
use Rattle.law.specs.declared.laws.Law.TheVariants.{Scale}
use Rattle.quantity.specs.declared.resistance.Ratio.{Ratio}
use Rattle.certificate.specs.declared.record.Record.{Record}
use Rattle.fit.specs.declared.Point.{Point}
use Rattle.deviation.specs.declared.places.Places.{Places}
use Rattle.certificate.specs.declared.soundness.Certificate.{Certificate}
use Rattle.law.specs.Cells.{Wr, all_cells}
use Rattle.law.specs.Subranges.{carried, cells, to_silver, subrange_named}
use Rattle.deviation.specs.Limits.{x, δ, within}
use Rattle.fit.specs.Fit.{fit, beyond}
use Rattle.certificate.specs.Certificate.{LawAndPlaces, no_places, held}

-- What a record gives for a cell.
abbrev pub at : {T : Type 0} → Record T → Cell → T
at cells cell.Hg = cells.mercury
at cells cell.Ga = cells.gallium
at cells cell.In = cells.indium
at cells cell.Sn = cells.tin
at cells cell.Zn = cells.zinc
at cells cell.Al = cells.aluminium
at cells cell.Ag = cells.silver

-- The record of what is made of it for each cell.
abbrev pub of_each : {T U : Type 0} → (T → U) → Record T → Record U
of_each make cells =
    record {
      subrange = cells.subrange;
      mercury = make cells.mercury;
      gallium = make cells.gallium;
      indium = make cells.indium;
      tin = make cells.tin;
      zinc = make cells.zinc;
      aluminium = make cells.aluminium;
      silver = make cells.silver;
    }

-- Where a record gives ratios.
abbrev pub ratio : Record Ratio → Cell → ℕ
ratio ratios p = (at ratios p).0

abbrev pub measured : Record Ratio → Cell → Bool
measured ratios p = is_measured (ratio ratios p)

abbrev pub is_missing : Record Ratio → Cell → Bool
is_missing ratios p = not (measured ratios p)

abbrev pub is_above : Record Ratio → Cell → Bool
is_above ratios p = ltb largest_ratio (ratio ratios p)

-- A cell given whose deviation is beyond its limit.
abbrev pub cell_deviates : Record Ratio → Cell → Bool
cell_deviates ratios p = measured ratios p && not (within (Wr p) (ratio ratios p))

-- 2: a ratio above 4.4, of any cell.
unfoldable pub ratio_above : Record Ratio → Bool
ratio_above ratios = list_any (is_above ratios) all_cells

-- 4: a cell of the subrange not measured.
unfoldable pub cell_missing : Record Ratio → List Cell → Bool
cell_missing ratios needed = list_any (is_missing ratios) needed

-- 5: neither Ga nor Hg measured.
unfoldable pub purity_cell_missing : Record Ratio → Bool
purity_cell_missing ratios = not (measured ratios cell.Ga || measured ratios cell.Hg)

-- 6: purity not met, W(Ag) being asked for where the subrange reaches silver.
unfoldable pub impure : Subrange → Record Ratio → Bool
impure s ratios = not (pure (to_silver (carried s).form) (ratio ratios cell.Hg) (ratio ratios cell.Ga) (ratio ratios cell.Ag))

-- 7: the deviation of a cell given, used or not, is beyond its limit.
unfoldable pub deviates : Record Ratio → Bool
deviates ratios = list_any (cell_deviates ratios) all_cells

-- A cell's x and δ.
abbrev pub point : Record Ratio → Cell → Point
point ratios p = record { x = x (ratio ratios p); delta = δ (Wr p) (ratio ratios p) }

-- The coefficients from the used cells.
unfoldable pub fitted : Record Ratio → List Cell → Places
fitted ratios used = fit (map (point ratios) used)

-- W(Al), which only an ag certificate holds.
abbrev pub aluminium_ratio : Subrange → Record Ratio → ℕ
aluminium_ratio s ratios = if to_silver (carried s).form then ratio ratios cell.Al otherwise 0

-- The certificate of a subrange: a, b, c, d and, for ag, W(Al). Unused places hold 0.
abbrev pub made : Subrange → Record Ratio → Certificate
made s ratios =
    let k = fitted ratios (cells s) in
    record { law = Scale s; places = record { a = k.a; b = k.b; c = k.c; d = k.d; wal = record { 0 = aluminium_ratio s ratios } } }

-- A record of a known subrange: 2, 4, 5, 6, 7, where 7 is a deviation or a coefficient beyond its limit; else the certificate.
abbrev pub record_of : Subrange → Record Ratio → Rule LawAndPlaces
record_of s ratios =
    record {
      tests =
          ratio_above ratios gives 2
          ∷ cell_missing ratios (cells s) gives 4
          ∷ purity_cell_missing ratios gives 5
          ∷ impure s ratios gives 6
          ∷ (deviates ratios || beyond (fitted ratios (cells s))) gives 7
          ∷ [];
      zeros = no_places;
      Answer = λ a. a ≡ held (made s ratios);
    }

-- 3: no subrange has the name that the record gives; then the other tests.
abbrev pub record_rule : Record Ratio → Rule LawAndPlaces
record_rule ratios = if_named no_places (subrange_named ratios.subrange.0) (λ s. record_of s ratios)
