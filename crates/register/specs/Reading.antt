-- A reading through the register.
use Rattle.std.specs.Prelude.{List, ℕ}
use Rattle.quantity.specs.Quantities.{largest_resistance}
use Rattle.quantity.specs.Outcomes.{Outcome, Rule, Follows}
use Rattle.law.specs.Answers.{LawAndStep}
use Rattle.entry.specs.declared.entry.Entry.{Entry}
use Rattle.examination.specs.Answering.{read_entry_up_to}
use Rattle.register.specs.Table.{entry_of, bad_table}

-- 23, then 20: there is no live certificate; then what the live certificate reads.
abbrev pub read_through_up_to : ℕ → List Entry → ℕ → ℕ → ℕ → Rule LawAndStep
read_through_up_to largest table n r r0 = read_entry_up_to largest (bad_table table) (entry_of table n) r r0

abbrev pub ReadThrough : List Entry → ℕ → ℕ → ℕ → Outcome LawAndStep → Type 0
ReadThrough table n r r0 o = Follows (read_through_up_to largest_resistance table n r r0) o
