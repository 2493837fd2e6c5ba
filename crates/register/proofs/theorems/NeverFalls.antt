-- A mark never falls and a serial never falls, whatever is imported and withdrawn.
use mathlib.Core.Path.{◌≡◌, refl, ap, subst, ◌∙◌}
use mathlib.Core.Bool.{Bool, true, false}
use mathlib.Core.List.{List, [], ◌∷◌}
use Prim.Native.Nat.{ℕ, ◌≤◌}
use native.Mathlib.Omega.{arith}
use borrow.Author.Tests.{eqb-true}
use lib.Dec.{eqb}
use Rattle.entry.specs.declared.entry.Entry.{Entry}
use Rattle.entry.specs.declared.entry.Serial.{Serial}
use Rattle.entry.specs.Entry.{free, merged, joined, raised}
use Rattle.register.specs.Table.{entry_of}
use Rattle.register.specs.Import.{import_refusal, imported}
use Rattle.register.specs.Withdrawal.{withdrawal_refusal, withdrawn}
use Rattle.register.specs.Promised.{Act, Import, Withdraw, after, after_all, MarkNeverFalls, SerialNeverFalls}
use Rattle.register.proofs.lists.JoinedEntries.{higher_is, joined-held}
use Rattle.register.proofs.lists.TableEntries.{Sought, there, missing, sought}
use Rattle.register.proofs.theorems.ImportedTable.{import-refused, import_joins}
use Rattle.register.proofs.theorems.WithdrawnTable.{withdrawal-refused, withdrawal_raises}

-- A count in an entry is none in a free place, and neither merging nor raising lowers it.
module _ (count : Entry → ℕ) (of_none : count free ≡ 0) (of-merged : (held x : Entry) → count held ≤ count (merged held x)) (of-raised : (held : Entry) (serial : Serial) → count held ≤ count (raised held serial)) where
  -- at an import
  import-rises : (table list : List Entry) (n : ℕ) → eqb n 0 ≡ false → count (entry_of table n) ≤ count (entry_of (imported table list) n)
  import-rises table list n z = by (eqb (import_refusal table list) 0) refl
    where
      -- what was held is joined with an entry
      with-entry : (x : Entry) → Sought table n (entry_of table n) → count (entry_of table n) ≤ count (joined (entry_of table n) x)
      with-entry x (missing h k) =
          let m : count (entry_of table n) ≡ 0 = ap count h ∙ of_none in
          omega (arith, m)
      with-entry x (there m k) =
          let j : count (joined (entry_of table n) x) ≡ count (merged (entry_of table n) x) = ap count (joined-held (entry_of table n) x (rw k z)) in
          omega (arith, j, of-merged (entry_of table n) x)

      by : (t : Bool) → eqb (import_refusal table list) 0 ≡ t → count (entry_of table n) ≤ count (entry_of (imported table list) n)
      by false e =
          let m : count (entry_of (imported table list) n) ≡ count (entry_of table n) = ap (λ (t : List Entry). count (entry_of t n)) (import-refused table list e) in
          omega (arith, m)
      by true e =
          let m : count (entry_of (imported table list) n) ≡ count (joined (entry_of table n) (entry_of list n)) = ap count (import_joins table list n z (eqb-true (import_refusal table list) 0 e)) in
          omega (arith, m, with-entry (entry_of list n) (sought table n))

  -- at a withdrawal
  withdrawal-rises : (table : List Entry) (i : ℕ) (serial : Serial) (n : ℕ) → count (entry_of table n) ≤ count (entry_of (withdrawn table i serial) n)
  withdrawal-rises table i serial n = by (eqb (withdrawal_refusal table i) 0) refl (eqb i n) refl
    where
      by : (t : Bool) → eqb (withdrawal_refusal table i) 0 ≡ t → (s : Bool) → eqb i n ≡ s → count (entry_of table n) ≤ count (entry_of (withdrawn table i serial) n)
      by false e s h =
          let m : count (entry_of (withdrawn table i serial) n) ≡ count (entry_of table n) = ap (λ (t : List Entry). count (entry_of t n)) (withdrawal-refused table i serial e) in
          omega (arith, m)
      by true e false h =
          let made = withdrawal_raises table i serial (eqb-true (withdrawal_refusal table i) 0 e) in
          let m : count (entry_of (withdrawn table i serial) n) ≡ count (entry_of table n) = ap count (made.1 n h) in
          omega (arith, m)
      by true e true h =
          let made = withdrawal_raises table i serial (eqb-true (withdrawal_refusal table i) 0 e) in
          let m : count (entry_of (withdrawn table i serial) i) ≡ count (raised (entry_of table i) serial) = ap count made.0 in
          let l : count (entry_of table i) ≤ count (entry_of (withdrawn table i serial) i) = omega (arith, m, of-raised (entry_of table i) serial) in
          subst (λ (k : ℕ). count (entry_of table k) ≤ count (entry_of (withdrawn table i serial) k)) (eqb-true i n h) l

  act-rises : (table : List Entry) (act : Act) (n : ℕ) → eqb n 0 ≡ false → count (entry_of table n) ≤ count (entry_of (after table act) n)
  act-rises table (Import list) n z = import-rises table list n z
  act-rises table (Withdraw i serial) n z = withdrawal-rises table i serial n

  never-falls : (table : List Entry) (acts : List Act) (n : ℕ) → eqb n 0 ≡ false → count (entry_of table n) ≤ count (entry_of (after_all table acts) n)
  never-falls table [] n z = omega arith
  never-falls table (act ∷ acts) n z = omega (arith, act-rises table act n z, never-falls (after table act) acts n z)

pub mark_never_falls : MarkNeverFalls
mark_never_falls =
    never-falls (λ (e : Entry). e.mark.0) refl
    (λ (held x : Entry). omega (arith, higher_is held.mark x.mark))
    (λ (held : Entry) (serial : Serial). omega (arith, higher_is held.mark serial))

pub serial_never_falls : SerialNeverFalls
serial_never_falls =
    never-falls (λ (e : Entry). e.serial.0) refl
    (λ (held x : Entry). omega (arith, higher_is held.serial x.serial))
    (λ (held : Entry) (serial : Serial). omega arith)
