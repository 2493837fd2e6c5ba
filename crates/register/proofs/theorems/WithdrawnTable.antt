-- What a withdrawal leaves: one mark raised.
use mathlib.Core.Path.{◌≡◌, refl, ◌∙◌, ap}
use mathlib.Core.Bool.{Bool, true, false}
use mathlib.Core.List.{List}
use Prim.Native.Nat.{ℕ}
use borrow.Author.Tests.{eqb-true, eq-eqb}
use lib.Dec.{eqb}
use Rattle.std.specs.List.{list_any}
use Rattle.entry.specs.declared.entry.Entry.{Entry}
use Rattle.entry.specs.declared.entry.Serial.{Serial}
use Rattle.entry.specs.Entry.{raised}
use Rattle.register.specs.Table.{has, entry_of, put, bad_table}
use Rattle.register.specs.Withdrawal.{withdrawal_refusal, withdrawn}
use Rattle.register.specs.Promised.{WithdrawalRaises}
use Rattle.register.proofs.lists.TableEntries.{member_fails, member_passes, entry_there, entry_put, entry_other, any-put, twice-put}
use Rattle.register.proofs.lists.PlacedEntries.{bad}
use Rattle.register.proofs.lists.PassedTests.{good_table_apart, good_table_sound, table_not_bad, withdrawal_passed}

module _ (table : List Entry) (n : ℕ) (serial : Serial) where
  withdrawal-made : withdrawal_refusal table n ≡ 0 → withdrawn table n serial ≡ put table n (raised (entry_of table n) serial)
  unfolding withdrawn
  withdrawal-made e = rw e

  pub withdrawal-refused : eqb (withdrawal_refusal table n) 0 ≡ false → withdrawn table n serial ≡ table
  unfolding withdrawn
  withdrawal-refused e = rw e

  pub withdrawal-good : bad_table table ≡ false → bad_table (withdrawn table n serial) ≡ false
  withdrawal-good h = by (eqb (withdrawal_refusal table n) 0) refl
    where
      by : (t : Bool) → eqb (withdrawal_refusal table n) 0 ≡ t → bad_table (withdrawn table n serial) ≡ false
      by false e = ap bad_table (withdrawal-refused e) ∙ h
      by true e =
          let a : withdrawal_refusal table n ≡ 0 = eqb-true (withdrawal_refusal table n) 0 e in
          let (m, k) = entry_there table n (withdrawal_passed table n a).1 in
          let x : Entry = raised (entry_of table n) serial in
          let g : list_any bad table ≡ false = good_table_sound table h in
          ap bad_table (withdrawal-made a)
          ∙ table_not_bad (put table n x) (twice-put n x k table ∙ good_table_apart table h) (any-put bad table n x g (member_fails bad table (entry_of table n) g m))

pub withdrawal_raises : WithdrawalRaises
withdrawal_raises table n serial a =
    let (m, k) = entry_there table n (withdrawal_passed table n a).1 in
    let x : Entry = raised (entry_of table n) serial in
    let made : withdrawn table n serial ≡ put table n x = withdrawal-made table n serial a in (
      ap (λ (t : List Entry). entry_of t n) made
          ∙ entry_put table n n x k (member_passes (has n) table (entry_of table n) (eq-eqb (entry_of table n).number.0 n k) m) (λ y m p. p),
      λ i h. ap (λ (t : List Entry). entry_of t i) made ∙ entry_other table n i x h (rw k h),
    )
