-- Import twice equals import once: the second import finds every entry as the first has left it.
use mathlib.Core.Path.{◌≡◌, refl, sym, ◌∙◌, ap}
use mathlib.Core.Bool.{Bool, true, false}
use mathlib.Core.List.{List, [], ◌∷◌}
use Prim.Native.Nat.{ℕ}
use native.Mathlib.Omega.{arith}
use borrow.Author.Tests.{eqb-true, le-ltb}
use lib.Dec.{eqb}
use Rattle.whole.specs.Choice.{if◌then◌otherwise◌}
use Rattle.entry.specs.declared.entry.Entry.{Entry}
use Rattle.entry.specs.Entry.{is_free, clash, merged, joined}
use Rattle.register.specs.Table.{entry_of, put, places}
use Rattle.register.specs.Import.{clashing, is_new, placed, placed_all, import_refusal, imported}
use Rattle.register.specs.Promised.{TwiceIsOnce}
use Rattle.register.proofs.lists.JoinedEntries.{joined-twice, joined-clash}
use Rattle.register.proofs.lists.TableEntries.{Member, first, later, member_fails, any_fails, count_none, Sought, there, missing, sought, entry_of_member, put-own}
use Rattle.register.proofs.lists.PlacedEntries.{Ready, placed-at-own, ready_all, entry_all}
use Rattle.register.proofs.lists.PassedTests.{table_not_bad, Passed, import-passed, import-accepted, import-ready}
use Rattle.register.proofs.theorems.ImportedTable.{import-made, import-refused}

-- an entry that the table holds already changes nothing
module _ (table : List Entry) where
  record Settled (e : Entry) : Type 0 where
    named : is_free e ≡ false
    numbered : (entry_of table e.number.0).number.0 ≡ e.number.0
    merges : merged (entry_of table e.number.0) e ≡ entry_of table e.number.0

  settled-one : (e : Entry) → Settled e → placed table e ≡ table
  settled-one e s = placed-at-own table e s.named s.numbered ∙ ap (put table e.number.0) s.merges ∙ put-own table e.number.0

  settled-all : (list : List Entry) → ((e : Entry) → Member e list → Settled e) → placed_all table list ≡ table
  settled-all [] h = refl
  settled-all (e ∷ es) h = ap (λ (t : List Entry). placed_all t es) (settled-one e (h e first)) ∙ settled-all es (λ f m. h f (later m))

-- what was held joined with a named entry of that thermometer has its number
joined_number : (table : List Entry) (e : Entry) → (joined (entry_of table e.number.0) e).number.0 ≡ e.number.0
joined_number table e = by (sought table e.number.0)
  where
    by : Sought table e.number.0 (entry_of table e.number.0) → (joined (entry_of table e.number.0) e).number.0 ≡ e.number.0
    by (missing h k) = ap (λ (x : Entry). (joined x e).number.0) h
    by (there m k) = one (is_free (entry_of table e.number.0))
      where
        one : (t : Bool) → (if t then e otherwise merged (entry_of table e.number.0) e).number.0 ≡ e.number.0
        one true = refl
        one false = k

module _ (table list : List Entry) (p : Passed table list) where
  abbrev left : List Entry
  left = placed_all table list

  r : Ready table list
  r = import-ready table list p

  module _ (e : Entry) (m : Member e list) where
    is-named : is_free e ≡ false
    is-named = member_fails is_free list e r.named m

    -- what is left of its thermometer
    of-member : entry_of left e.number.0 ≡ joined (entry_of table e.number.0) e
    of-member =
        entry_all table list r e.number.0 is-named
        ∙ ap (joined (entry_of table e.number.0)) (entry_of_member list e r.distinct is-named m)

    number-left : (entry_of left e.number.0).number.0 ≡ e.number.0
    number-left = ap (λ (x : Entry). x.number.0) of-member ∙ joined_number table e

    is-settled : Settled left e
    is-settled =
        record {
          named = is-named;
          numbered = number-left;
          merges = ap (λ (x : Entry). merged x e) of-member ∙ joined-twice (entry_of table e.number.0) e ∙ sym of-member;
        }

    clears : clashing left e ≡ false
    clears = ap (λ (x : Entry). clash x e) of-member ∙ joined-clash (entry_of table e.number.0) e (member_fails (clashing table) list e p.no_clashes m)

    not_new : is_new left e ≡ false
    not_new = ap (λ (n : ℕ). eqb n 0) number-left ∙ is-named

  passed-again : Passed left list
  passed-again =
      record {
        good_table = table_not_bad left (ready_all table list r).apart (ready_all table list r).kept_good;
        all_known = p.all_known;
        all_sound = p.all_sound;
        all_fit = p.all_fit;
        no_clashes = any_fails (clashing left) list clears;
        all_find_room = rw (count_none (is_new left) list not_new) (le-ltb (places left) 0 (omega arith));
      }

  again : placed_all left list ≡ left
  again = settled-all left list is-settled

pub twice_is_once : TwiceIsOnce
twice_is_once table list = by (eqb (import_refusal table list) 0) refl
  where
    by : (t : Bool) → eqb (import_refusal table list) 0 ≡ t
        → (imported (imported table list) list ≡ imported table list) × (import_refusal (imported table list) list ≡ import_refusal table list)
    by false e =
        let u : imported table list ≡ table = import-refused table list e in
        (ap (λ (t : List Entry). imported t list) u, ap (λ (t : List Entry). import_refusal t list) u)
    by true e =
        let a : import_refusal table list ≡ 0 = eqb-true (import_refusal table list) 0 e in
        let p : Passed table list = import-passed table list a in
        let u : imported table list ≡ placed_all table list = import-made table list a in
        let b : import_refusal (placed_all table list) list ≡ 0 = import-accepted (placed_all table list) list (passed-again table list p) in (
          ap (λ (t : List Entry). imported t list) u ∙ import-made (placed_all table list) list b ∙ again table list p ∙ sym u,
          ap (λ (t : List Entry). import_refusal t list) u ∙ b ∙ sym a,
        )
