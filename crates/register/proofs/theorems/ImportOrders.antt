-- Two imports leave the same entry for each thermometer in either order.
use mathlib.Core.Path.{◌≡◌, sym, ◌∙◌, ap, subst}
use mathlib.Core.Bool.{false}
use mathlib.Core.List.{List}
use Prim.Native.Nat.{ℕ, ◌<◌}
use native.Mathlib.Omega.{arith}
use borrow.Author.Tests.{lt-ltb}
use lib.Dec.{eqb}
use Rattle.entry.specs.declared.entry.Entry.{Entry}
use Rattle.entry.specs.Entry.{is_free, free, clash, merged, joined}
use Rattle.register.specs.Table.{entry_of}
use Rattle.register.specs.Import.{clashing, imported}
use Rattle.register.specs.Promised.{EitherOrder}
use Rattle.register.proofs.lists.JoinedEntries.{no_clash, joined-held, joined-after, merged_either, merged-after}
use Rattle.register.proofs.lists.TableEntries.{Member, member_fails, Sought, there, missing, sought}
use Rattle.register.proofs.lists.PlacedEntries.{joined-none}
use Rattle.register.proofs.lists.PassedTests.{import-passed}
use Rattle.register.proofs.theorems.ImportedTable.{import_joins}

-- what the table has of a thermometer, and the two lists; where the second list has it, its entry does not clash with what the first has left
module _
    (table one other : List Entry) (n : ℕ) (z : eqb n 0 ≡ false)
    (clear : Member (entry_of other n) other → (entry_of other n).number.0 ≡ n → clash (joined (entry_of table n) (entry_of one n)) (entry_of other n) ≡ false)
  where
    abbrev t : Entry
    t = entry_of table n

    abbrev a : Entry
    a = entry_of one n

    abbrev b : Entry
    b = entry_of other n

    named : (e : Entry) → e.number.0 ≡ n → is_free e ≡ false
    named e k = rw k z

    -- of a thermometer that the table has
    of-held : t.number.0 ≡ n → joined (joined t a) b ≡ joined (joined t b) a
    of-held k = joined-after t a b (named t k) ∙ merged-after t a b (by (sought other n)) ∙ sym (joined-after t b a (named t k))
      where
        by : Sought other n b → t.serial.0 < a.serial.0 → a.serial.0 ≡ b.serial.0 → a.certificate ≡ b.certificate
        by (missing f i) p q =
            let s : b.serial.0 ≡ 0 = ap (λ (e : Entry). e.serial.0) f in
            absurd (omega (arith, p, q, s))
        by (there m i) p q =
            let c : clash (merged t a) b ≡ false = subst (λ (x : Entry). clash x b ≡ false) (joined-held t a (named t k)) (clear m i) in
            rw (lt-ltb t.serial.0 a.serial.0 p) at (no_clash (merged t a) b (named t k) c (rw (lt-ltb t.serial.0 a.serial.0 p) q))

    -- of one that it has not
    of-new : t ≡ free → joined (joined t a) b ≡ joined (joined t b) a
    of-new f = ap (λ (x : Entry). joined (joined x a) b) f ∙ by (sought one n) (sought other n) ∙ sym (ap (λ (x : Entry). joined (joined x b) a) f)
      where
        by : Sought one n a → Sought other n b → joined a b ≡ joined b a
        by (missing h i) s = ap (λ (x : Entry). joined x b) h ∙ sym (joined-none other n z) ∙ sym (ap (joined b) h)
        by (there m i) (missing h j) = ap (joined a) h ∙ joined-none one n z ∙ sym (ap (λ (x : Entry). joined x a) h)
        by (there m i) (there l j) =
            let c : clash a b ≡ false = subst (λ (x : Entry). clash (joined x a) b ≡ false) f (clear l j) in
            joined-held a b (named a i) ∙ merged_either a b (i ∙ sym j) (no_clash a b (named a i) c) ∙ sym (joined-held b a (named b j))

    joined-either : joined (joined t a) b ≡ joined (joined t b) a
    joined-either = by (sought table n)
      where
        by : Sought table n t → joined (joined t a) b ≡ joined (joined t b) a
        by (missing f i) = of-new f
        by (there m k) = of-held k

pub either_order : EitherOrder
either_order table one other p q r s n z =
    import_joins (imported table one) other n z q
    ∙ ap (λ (x : Entry). joined x (entry_of other n)) (import_joins table one n z p)
    ∙ joined-either table one other n z clear
    ∙ sym (ap (λ (x : Entry). joined x (entry_of one n)) (import_joins table other n z r))
    ∙ sym (import_joins (imported table other) one n z s)
  where
    b : Entry
    b = entry_of other n

    clear : Member b other → b.number.0 ≡ n → clash (joined (entry_of table n) (entry_of one n)) b ≡ false
    clear m k =
        let c = member_fails (clashing (imported table one)) other b (import-passed (imported table one) other q).no_clashes m in
        let d : clash (entry_of (imported table one) n) b ≡ false = subst (λ (i : ℕ). clash (entry_of (imported table one) i) b ≡ false) k c in
        subst (λ (x : Entry). clash x b ≡ false) (import_joins table one n z p) d
