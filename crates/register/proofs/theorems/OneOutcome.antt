-- The promise of each call over a table allows one answer and one table only.
use Rattle.std.specs.Prelude.{Result, ⊤}
use mathlib.Core.Path.{◌≡◌, sym, ◌∙◌, ap}
use mathlib.Core.List.{List}
use Rattle.quantity.specs.Outcomes.{Outcome, Rule, Follows}
use Rattle.quantity.proofs.Outcomes.{one-outcome}
use Rattle.entry.specs.declared.entry.Entry.{Entry}
use Rattle.quantity.specs.declared.refusal.Refusal.{Refusal}
use Rattle.examination.specs.Answering.{stated}
use Rattle.examination.proofs.Unique as examination
use Rattle.register.specs.Table.{entry_of, bad_table}
use Rattle.register.specs.Import.{import_rule}
use Rattle.register.specs.Withdrawal.{withdrawal_rule}
use Rattle.register.specs.Promised.{OneImport, OneWithdrawal, OneReading}

-- by a rule whose answer is one table
one_change : (rule : Rule (List Entry)) → ((a b : List Entry) → rule.Answer a → rule.Answer b → a ≡ b) → (x y : Result ⊤ Refusal) (left other : List Entry)
    → Follows rule (record { code = stated x; answer = left }) → Follows rule (record { code = stated y; answer = other }) → (x ≡ y) × (left ≡ other)
one_change rule one x y left other h k =
    let e = one-outcome rule one (record { code = stated x; answer = left }) (record { code = stated y; answer = other }) h k in
    (examination.change_unique x y (ap (λ (o : Outcome (List Entry)). o.code) e), ap (λ (o : Outcome (List Entry)). o.answer) e)

pub one_import : OneImport
one_import table list = one_change (import_rule table list) (λ a b p q. p ∙ sym q)

pub one_withdrawal : OneWithdrawal
one_withdrawal table n serial = one_change (withdrawal_rule table n serial) (λ a b p q. p ∙ sym q)

pub one_reading : OneReading
one_reading table n r r0 x y h k = examination.one_reading (bad_table table) (entry_of table n) r r0 x y h k
