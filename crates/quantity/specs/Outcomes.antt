-- The shape of every outcome: the tests of a call in their order, each with its number; else the answer.
use Rattle.std.specs.Prelude.{◌≡◌, Bool, true, List, [], ◌∷◌, ℕ, eqb, Option, None, Some}
use Rattle.whole.specs.Choice.{if◌then◌otherwise◌}

-- An outcome as the scope document has it: the number given, 0 where there is an answer, and what is answered, zeros where there is none.
pub record Outcome (A : Type 0) : Type 0 where
  pub code : ℕ
  pub answer : A

abbrev pub answered : {A : Type 0} → A → Outcome A
answered answer = record { code = 0; answer = answer }

abbrev pub refused : {A : Type 0} → A → ℕ → Outcome A
refused zeros number = record { code = number; answer = zeros }

-- A test, and the number that is given where it holds.
infix 70 ◌gives◌
pub data Test : Type 0 where
  ◌gives◌ : Bool → ℕ → Test

-- The number given: that of the first test that holds, 0 where none does.
abbrev pub number_given : List Test → ℕ
number_given [] = 0
number_given ((holds gives number) ∷ tests) = if holds then number otherwise number_given tests

-- A rule: its tests in their order, what is an answer where none of them holds, and what stands in the answer's place where one does.
pub record Rule (A : Type 0) : Type 1 where
  pub tests : List Test
  pub zeros : A
  pub Answer : A → Type 0

-- An outcome by a rule: 0 and an answer, or the number given and zeros.
abbrev pub Follows : {A : Type 0} → Rule A → Outcome A → Type 0
Follows rule o =
    let number = number_given rule.tests in
    if eqb number 0 then (o.code ≡ 0) × rule.Answer o.answer
    otherwise o ≡ refused rule.zeros number

-- The rule of what a name names. 3: it names nothing.
abbrev pub if_named : {A B : Type 0} → A → Option B → (B → Rule A) → Rule A
if_named zeros None rule = record { tests = true gives 3 ∷ []; zeros = zeros; Answer = λ _. ⊥ }
if_named zeros (Some named) rule = rule named
