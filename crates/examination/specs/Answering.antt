-- What an import, a withdrawal and a reading answer, the tests in their order.
use Rattle.std.specs.Prelude.{Bool, not, List, [], ◌∷◌, ℕ, Err, Ok, Result, ⊤}
use Rattle.quantity.specs.Quantities.{largest_resistance}
use Rattle.quantity.specs.Refusals.{number_of}
use Rattle.quantity.specs.Outcomes.{Test, ◌gives◌, Rule}
use Rattle.law.specs.Answers.{LawAndStep, no_step}
use Rattle.reading.specs.Reading.{read_given_up_to}
use Rattle.entry.specs.declared.entry.Entry.{Entry}
use Rattle.quantity.specs.declared.refusal.Refusal.{Refusal}
use Rattle.entry.specs.Entry.{is_free, is_live}

-- What each case stands for: 0, or the number of the refusal.
abbrev pub stated : Result ⊤ Refusal → ℕ
stated (Ok _) = 0
stated (Err why) = number_of why

-- An import. 23: the table holds a thermometer twice or a bad certificate; 3: an imported certificate is of unknown law; 7: one is not sound; 17: a thermometer
-- is 0 or twice in the list; 18: a serial has two certificates; 19: there are more new thermometers than places left.
abbrev pub import_tests : Bool → Bool → Bool → Bool → Bool → Bool → List Test
import_tests bad unknown unsound unfit clashing short =
    bad gives 23
    ∷ unknown gives 3
    ∷ unsound gives 7
    ∷ unfit gives 17
    ∷ clashing gives 18
    ∷ short gives 19
    ∷ []

-- A withdrawal. 23: as above; 20: nothing is held of the thermometer.
abbrev pub withdrawal_tests : Bool → Entry → List Test
withdrawal_tests bad held =
    bad gives 23
    ∷ is_free held gives 20
    ∷ []

-- A reading. 23: as above; 20: what is held of the thermometer is not live; then what its certificate reads, by its own law.
abbrev pub read_entry_up_to : ℕ → Bool → Entry → ℕ → ℕ → Rule LawAndStep
read_entry_up_to largest bad held r r0 =
    let rule = read_given_up_to largest held.certificate r r0 in
    record {
      tests = bad gives 23 ∷ not (is_live held) gives 20 ∷ rule.tests;
      zeros = no_step;
      Answer = rule.Answer;
    }

abbrev pub read_entry : Bool → Entry → ℕ → ℕ → Rule LawAndStep
read_entry = read_entry_up_to largest_resistance
