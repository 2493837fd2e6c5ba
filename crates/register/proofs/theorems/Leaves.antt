-- The calls that change a table give the number of their tests and leave the table that the other theorems speak of.
use mathlib.Core.Path.{◌≡◌, refl, sym, ◌∙◌, ap}
use mathlib.Core.Bool.{Bool, true, false}
use mathlib.Core.List.{List}
use Prim.Native.Nat.{ℕ}
use borrow.Author.Tests.{eqb-true}
use lib.Dec.{eqb}
use Rattle.whole.specs.Choice.{if◌then◌otherwise◌}
use Rattle.quantity.specs.Outcomes.{Outcome, refused, number_given, Rule, Follows}
use Rattle.entry.specs.declared.entry.Entry.{Entry}
use Rattle.entry.specs.Entry.{raised}
use Rattle.examination.specs.Answering.{stated}
use Rattle.register.specs.Table.{entry_of, put}
use Rattle.register.specs.Import.{import_rule, import_refusal, placed_all, imported}
use Rattle.register.specs.Withdrawal.{withdrawal_rule, withdrawal_refusal, withdrawn}
use Rattle.register.specs.Promised.{ImportLeaves, WithdrawalLeaves}

-- by a rule whose only answer is one table
module _ (rule : Rule (List Entry)) (next : List Entry) (only : (a : List Entry) → rule.Answer a → a ≡ next) (o : Outcome (List Entry)) where
  abbrev number : ℕ
  number = number_given rule.tests

  leaves : Follows rule o → (o.code ≡ number) × (o.answer ≡ (if eqb number 0 then next otherwise rule.zeros))
  leaves = by (eqb number 0) refl
    where
      by : (t : Bool) → eqb number 0 ≡ t → (if t then (o.code ≡ 0) × rule.Answer o.answer otherwise o ≡ refused rule.zeros number) → (o.code ≡ number) × (o.answer ≡ (if t then next otherwise rule.zeros))
      by true e h = (h.0 ∙ sym (eqb-true number 0 e), only o.answer h.1)
      by false e h = (ap (λ (x : Outcome (List Entry)). x.code) h, ap (λ (x : Outcome (List Entry)). x.answer) h)

pub import_leaves : ImportLeaves
unfolding import_refusal imported
import_leaves table list answer left = leaves (import_rule table list) (placed_all table list) (λ a p. p) (record { code = stated answer; answer = left })

pub withdrawal_leaves : WithdrawalLeaves
unfolding withdrawal_refusal withdrawn
withdrawal_leaves table n serial answer left =
    leaves (withdrawal_rule table n serial) (put table n (raised (entry_of table n) serial)) (λ a p. p) (record { code = stated answer; answer = left })
