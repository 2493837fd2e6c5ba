-- A withdrawal: the certificates of a thermometer are withdrawn up to a serial.
use Rattle.std.specs.Prelude.{◌≡◌, List, ℕ, eqb, Result, ⊤}
use Rattle.whole.specs.Choice.{if◌then◌otherwise◌}
use Rattle.entry.specs.declared.entry.Entry.{Entry}
use Rattle.entry.specs.declared.entry.Serial.{Serial}
use Rattle.quantity.specs.declared.refusal.Refusal.{Refusal}
use Rattle.entry.specs.Entry.{raised}
use Rattle.quantity.specs.Outcomes.{number_given, Rule, Follows}
use Rattle.examination.specs.Answering.{stated, withdrawal_tests}
use Rattle.register.specs.Table.{entry_of, put, bad_table}

-- 23, then 20: there is no such thermometer. 0 where the withdrawal is accepted.
unfoldable pub withdrawal_refusal : List Entry → ℕ → ℕ
withdrawal_refusal table n = number_given (withdrawal_tests (bad_table table) (entry_of table n))

-- The table after a withdrawal: as it was where it is refused.
unfoldable pub withdrawn : List Entry → ℕ → Serial → List Entry
withdrawn table n serial = if eqb (withdrawal_refusal table n) 0 then put table n (raised (entry_of table n) serial) otherwise table

-- The rule of a withdrawal, whose answer is the table that it leaves: as it was where the withdrawal is refused.
abbrev pub withdrawal_rule : List Entry → ℕ → Serial → Rule (List Entry)
withdrawal_rule table n serial =
    record {
      tests = withdrawal_tests (bad_table table) (entry_of table n);
      zeros = table;
      Answer = λ left. left ≡ put table n (raised (entry_of table n) serial);
    }

-- What is promised of a withdrawal: its answer, and the table that it leaves.
abbrev pub WithdrawnAs : List Entry → ℕ → Serial → Result ⊤ Refusal → List Entry → Type 0
WithdrawnAs table n serial answer left = Follows (withdrawal_rule table n serial) (record { code = stated answer; answer = left })
