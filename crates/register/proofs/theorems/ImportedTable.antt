-- An accepted import leaves of each thermometer what was held joined with what came in. A refused one leaves the table as it was.
use mathlib.Core.Path.{◌≡◌, refl, ◌∙◌, ap}
use mathlib.Core.Bool.{Bool, true, false}
use mathlib.Core.List.{List, []}
use borrow.Author.Tests.{eqb-true}
use lib.Dec.{eqb}
use Rattle.entry.specs.declared.entry.Entry.{Entry}
use Rattle.register.specs.Table.{entry_of, bad_table}
use Rattle.register.specs.Import.{placed_all, import_refusal, imported}
use Rattle.register.specs.Promised.{ImportJoins}
use Rattle.register.proofs.lists.PlacedEntries.{Ready, ready_all, entry_all}
use Rattle.register.proofs.lists.PassedTests.{table_not_bad, import-passed, import-ready}

module _ (table list : List Entry) where
  pub import-made : import_refusal table list ≡ 0 → imported table list ≡ placed_all table list
  unfolding imported
  import-made e = rw e

  pub import-refused : eqb (import_refusal table list) 0 ≡ false → imported table list ≡ table
  unfolding imported
  import-refused e = rw e

  pub import-good : bad_table table ≡ false → bad_table (imported table list) ≡ false
  import-good h = by (eqb (import_refusal table list) 0) refl
    where
      by : (t : Bool) → eqb (import_refusal table list) 0 ≡ t → bad_table (imported table list) ≡ false
      by false e = ap bad_table (import-refused e) ∙ h
      by true e =
          let a : import_refusal table list ≡ 0 = eqb-true (import_refusal table list) 0 e in
          let r : Ready (placed_all table list) [] = ready_all table list (import-ready table list (import-passed table list a)) in
          ap bad_table (import-made a) ∙ table_not_bad (placed_all table list) r.apart r.kept_good

pub import_joins : ImportJoins
import_joins table list n z a =
    ap (λ (t : List Entry). entry_of t n) (import-made table list a) ∙ entry_all table list (import-ready table list (import-passed table list a)) n z
