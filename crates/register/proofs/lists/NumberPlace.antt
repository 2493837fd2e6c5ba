-- Facts of the place of a number in a table, as a search through it and an import into it use them.
use mathlib.Core.Path.{◌≡◌, refl, sym, ◌∙◌, ap}
use mathlib.Core.Bool.{Bool, true, false, not}
use mathlib.Core.List.{List, [], ◌∷◌}
use Prim.Native.Nat.{ℕ, suc, ◌+◌, ◌<◌, ◌≤◌}
use native.Mathlib.Numerals.{add-one}
use native.Mathlib.Omega.{arith}
use borrow.Author.Tests.{ltb-false}
use lib.Dec.{ltb}
use lib.ListN.{length, get_or, drop, set, drop_of_length-le, get_or-eq_default}
use lib.Seq.{drop-cons, set_out}
use Rattle.whole.specs.Choice.{if◌then◌otherwise◌}
use Rattle.std.proofs.Common.{cond}
use Rattle.std.specs.Prelude.{Some, None}
use Rattle.std.specs.Option.{unwrap_or}
use Rattle.std.proofs.lemmas.List.Sums.{prefix_len-le-length}
use Rattle.std.specs.List.{position, position_or_len}
use Rattle.std.proofs.lemmas.List.Recursion.{is_position_or_len}
use Rattle.entry.specs.declared.entry.Entry.{Entry}
use Rattle.entry.specs.Entry.{free}
use Rattle.register.specs.Table.{has, first_at, entry_of, put}
use Rattle.register.specs.Import.{placed, placed_all}

-- what stands at the place of a number, nothing past the end
entry_at_first : (table : List Entry) (n : ℕ) → get_or table (first_at table n) free ≡ entry_of table n
entry_at_first [] n = refl
entry_at_first (e ∷ es) n = by (has n e) (entry_at_first es n)
  where
    by : (t : Bool) → get_or es (first_at es n) free ≡ entry_of es n
        → get_or (e ∷ es) (if t then 0 otherwise suc (first_at es n)) free ≡ (if t then e otherwise entry_of es n)
    by true rest = refl
    by false rest = rest

-- what is written at the place of a number, nothing past the end
set_at_first : (table : List Entry) (n : ℕ) (x : Entry) → set table (first_at table n) x ≡ put table n x
set_at_first [] n x = refl
set_at_first (e ∷ es) n x = by (has n e) (set_at_first es n x)
  where
    by : (t : Bool) → set es (first_at es n) x ≡ put es n x
        → set (e ∷ es) (if t then 0 otherwise suc (first_at es n)) x ≡ (if t then x ∷ es otherwise e ∷ put es n x)
    by true rest = refl
    by false rest = ap (λ (members : List Entry). e ∷ members) rest

module _ (table : List Entry) (n : ℕ) where
  -- as the library says it
  pub place-is : first_at table n ≡ position_or_len (has n) table
  place-is = is_position_or_len (λ (es : List Entry). first_at es n) (has n) refl (λ e es. by (has n e) (first_at es n)) table
    where
      by : (t : Bool) (later : ℕ) → (if t then 0 otherwise suc later) ≡ cond t 0 (1 + later)
      by true later = refl
      by false later = omega arith

  pub place-found : unwrap_or (position (has n) table) (length table) ≡ first_at table n
  place-found = by (ltb (position_or_len (has n) table) (length table)) refl ∙ sym place-is
    where
      by : (t : Bool) → ltb (position_or_len (has n) table) (length table) ≡ t
          → unwrap_or (cond t (Some (position_or_len (has n) table)) None) (length table) ≡ position_or_len (has n) table
      by true e = refl
      by false e = omega (arith, ltb-false _ _ e, prefix_len-le-length (λ (e : Entry). not (has n e)) table)

  pub entry-at-place : (i : ℕ) → i ≡ first_at table n → i < length table → get_or table i free ≡ entry_of table n
  entry-at-place i p l = ap (λ (at : ℕ). get_or table at free) p ∙ entry_at_first table n

  pub entry-past-end : (i : ℕ) → i ≡ first_at table n → length table ≤ i → free ≡ entry_of table n
  entry-past-end i p l = sym (get_or-eq_default table free l) ∙ ap (λ (at : ℕ). get_or table at free) p ∙ entry_at_first table n

  pub set-at-place : (i : ℕ) (e : Entry) → i ≡ first_at table n → i < length table → set table i e ≡ put table n e
  set-at-place i e p l = ap (λ (at : ℕ). set table at e) p ∙ set_at_first table n e

  pub set-past-end : (i : ℕ) (e : Entry) → i ≡ first_at table n → length table ≤ i → table ≡ put table n e
  set-past-end i e p l = sym (set_out table i e l) ∙ ap (λ (at : ℕ). set table at e) p ∙ set_at_first table n e

-- ---- an import's turns: the entries from one place of the list on
pub placed-next : (list table : List Entry) (k : ℕ) → k < length list
    → placed_all table (drop k list) ≡ placed_all (placed table (get_or list k free)) (drop (k + 1) list)
placed-next list table k l = rw (add-one k) (ap (placed_all table) (drop-cons list k free l))

pub placed_end : (list table : List Entry) (k : ℕ) → length list ≤ k → placed_all table (drop k list) ≡ table
placed_end list table k l = ap (placed_all table) (drop_of_length-le list l)
