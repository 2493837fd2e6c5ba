-- From what the tests of an import or a withdrawal have found to what its definition says of the answer and of the table.
use mathlib.Core.Path.{◌≡◌, refl, sym, ◌∙◌, ap}
use mathlib.Core.Bool.{Bool, true, false, not}
use mathlib.Core.List.{List}
use Prim.Native.Nat.{ℕ}
use lib.Dec.{T, eqb}
use borrow.Author.Tests.{eqb-true}
use Rattle.quantity.specs.Outcomes.{number_given}
use Rattle.quantity.proofs.Outcomes.{follows-none, follows-refusal}
use Rattle.entry.specs.declared.entry.Entry.{Entry}
use Rattle.entry.specs.declared.entry.Serial.{Serial}
use Rattle.examination.specs.declared.testing.Noted.{Noted}
use Rattle.examination.specs.declared.testing.Seen.{Seen}
use Rattle.entry.specs.Entry.{raised}
use Rattle.std.specs.Prelude.{Result, ⊤}
use Rattle.quantity.specs.declared.refusal.Refusal.{Refusal}
use Rattle.examination.specs.Answering.{stated, import_tests, withdrawal_tests}
use Rattle.register.specs.Table.{entry_of, put, bad_table, places}
use Rattle.register.specs.Import.{Tested, placed_all, import_refusal, import_rule, ImportedAs}
use Rattle.register.specs.Withdrawal.{withdrawal_refusal, withdrawal_rule, WithdrawnAs}

holds_true : (t : Bool) → T t → t ≡ true
holds_true true h = refl
holds_true false h = absurd h

fails_false : (t : Bool) → T (not t) → t ≡ false
fails_false true h = absurd h
fails_false false h = refl

module _ (table list : List Entry) where
  pub import-number : (s : Seen) (l : Noted) (number : ℕ) → (s.bad ≡ bad_table table) × (s.places ≡ places table) → Tested table list s.places l
      → number ≡ number_given (import_tests s.bad l.unknown l.unsound l.unfit l.clashing l.short) → number ≡ import_refusal table list
  unfolding import_refusal
  import-number s l number seen tested e =
      rw (sym seen.0, sym tested.of_unknown, sym tested.of_unsound, sym tested.of_unfit, sym tested.of_clashing, sym seen.1, sym tested.of_short) e

  module _ (change : Result ⊤ Refusal) (is : stated change ≡ import_refusal table list) (accepted : Bool) (tells : accepted ≡ eqb (stated change) 0) where
    pub import-made : T accepted → (after : List Entry) → after ≡ placed_all table list → ImportedAs table list change after
    unfolding import_refusal
    import-made y after e =
        let none : stated change ≡ 0 = eqb-true (stated change) 0 (sym tells ∙ holds_true accepted y) in
        follows-none (import_rule table list) (sym is ∙ none) (record { code = stated change; answer = after }) none e

    pub import-kept : T (not accepted) → ImportedAs table list change table
    unfolding import_refusal
    import-kept y = follows-refusal (import_rule table list) (stated change) (sym tells ∙ fails_false accepted y) (sym is)

module _ (table : List Entry) (n : ℕ) (serial : Serial) where
  pub withdrawal-number : (s : Seen) (held : Entry) (number : ℕ) → s.bad ≡ bad_table table → held ≡ entry_of table n → number ≡ number_given (withdrawal_tests s.bad held) → number ≡ withdrawal_refusal table n
  unfolding withdrawal_refusal
  withdrawal-number s held number seen found e = rw (sym seen, sym found) e

  module _ (change : Result ⊤ Refusal) (is : stated change ≡ withdrawal_refusal table n) (accepted : Bool) (tells : accepted ≡ eqb (stated change) 0) where
    pub withdrawal-made : T accepted → (held x : Entry) (after : List Entry) → held ≡ entry_of table n → x ≡ raised held serial → after ≡ put table n x → WithdrawnAs table n serial change after
    unfolding withdrawal_refusal
    withdrawal-made y held x after found lifted e =
        let none : stated change ≡ 0 = eqb-true (stated change) 0 (sym tells ∙ holds_true accepted y) in
        follows-none (withdrawal_rule table n serial) (sym is ∙ none) (record { code = stated change; answer = after }) none
        (e ∙ ap (put table n) (lifted ∙ ap (λ (y : Entry). raised y serial) found))

    pub withdrawal-kept : T (not accepted) → WithdrawnAs table n serial change table
    unfolding withdrawal_refusal
    withdrawal-kept y = follows-refusal (withdrawal_rule table n serial) (stated change) (sym tells ∙ fails_false accepted y) (sym is)
