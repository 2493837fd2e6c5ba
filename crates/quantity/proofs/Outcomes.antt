-- Laws of the shape of an outcome: a rule allows one outcome, answers and refusals by it, and tests one after the other.
use mathlib.Core.Path.{◌≡◌, refl, sym, ◌∙◌, ap, ap₂, subst}
use mathlib.Core.Bool.{Bool, true, false, ◌&&◌}
use mathlib.Core.List.{List, [], ◌∷◌, ◌++◌}
use Rattle.std.specs.Prelude.{Option, None, Some}
use Prim.Native.Nat.{ℕ, ◌<◌, ◌≤◌}
use native.Mathlib.Omega.{arith}
use borrow.Author.Tests.{eqb-true, eqb-false, ne_eqb, ltb-true, leb-true}
use lib.Dec.{eqb, ltb, leb}
use Rattle.whole.specs.Choice.{if◌then◌otherwise◌}
use Rattle.whole.proofs.Choice.{and_true}
use Rattle.quantity.specs.declared.refusal.Refusal.{Refusal}
use Rattle.quantity.specs.Refusals.{number_of}
use Rattle.quantity.specs.Outcomes.{Outcome, answered, refused, Test, ◌gives◌, number_given, Rule, Follows, if_named}
use Rattle.quantity.proofs.Refusals.{number_unique, not-zero}

-- a refusal's number is not that of an answer
pub some_number : (why : Refusal) → eqb (number_of why) 0 ≡ false
some_number why = ne_eqb (number_of why) 0 (λ e. not-zero why (sym e))

-- ---- what follows a rule
module _ {A : Type 0} (rule : Rule A) where
  abbrev number : ℕ
  number = number_given rule.tests

  pub follows-answer : number ≡ 0 → (a : A) → rule.Answer a → Follows rule (answered a)
  follows-answer e a h = rw e (refl, h)

  -- an outcome with no number
  pub follows-none : number ≡ 0 → (o : Outcome A) → o.code ≡ 0 → rule.Answer o.answer → Follows rule o
  follows-none e o z h = rw e (z, h)

  pub follows-refusal : (n : ℕ) → eqb n 0 ≡ false → number ≡ n → Follows rule (refused rule.zeros n)
  follows-refusal n z e = rw (e, z) refl

  -- an answer passes every test
  pub answer-follows : (o : Outcome A) → o.code ≡ 0 → Follows rule o → (number ≡ 0) × rule.Answer o.answer
  answer-follows o z = by (eqb number 0) refl
    where
      by : (t : Bool) → eqb number 0 ≡ t → (if t then (o.code ≡ 0) × rule.Answer o.answer otherwise o ≡ refused rule.zeros number) → (number ≡ 0) × rule.Answer o.answer
      by true p h = (eqb-true number 0 p, h.1)
      by false p h = absurd (eqb-false number 0 p (sym (ap (λ (o : Outcome A). o.code) h) ∙ z))

  -- a refusal has the number given
  pub refusal-follows : (o : Outcome A) (n : ℕ) → eqb n 0 ≡ false → o.code ≡ n → Follows rule o → number ≡ n
  refusal-follows o n z e = by (eqb number 0)
    where
      by : (t : Bool) → (if t then (o.code ≡ 0) × rule.Answer o.answer otherwise o ≡ refused rule.zeros number) → number ≡ n
      by true h = absurd (eqb-false n 0 z (sym e ∙ h.0))
      by false h = sym (ap (λ (o : Outcome A). o.code) h) ∙ e

  -- the code is the number given
  pub code-is-given : (o : Outcome A) → Follows rule o → o.code ≡ number
  code-is-given o = by (eqb number 0) refl
    where
      by : (t : Bool) → eqb number 0 ≡ t → (if t then (o.code ≡ 0) × rule.Answer o.answer otherwise o ≡ refused rule.zeros number) → o.code ≡ number
      by true p h = h.0 ∙ sym (eqb-true number 0 p)
      by false p h = ap (λ (o : Outcome A). o.code) h

  -- a rule of one answer allows one outcome
  pub one-outcome : ((a b : A) → rule.Answer a → rule.Answer b → a ≡ b) → (o o' : Outcome A) → Follows rule o → Follows rule o' → o ≡ o'
  one-outcome one o o' = by (eqb number 0)
    where
      by : (t : Bool) → (if t then (o.code ≡ 0) × rule.Answer o.answer otherwise o ≡ refused rule.zeros number) → (if t then (o'.code ≡ 0) × rule.Answer o'.answer otherwise o' ≡ refused rule.zeros number) → o ≡ o'
      by true h i = ap₂ {C = Outcome A} (λ (c : ℕ) (a : A). record { code = c; answer = a }) (h.0 ∙ sym i.0) (one o.answer o'.answer h.1 i.1)
      by false h i = h ∙ sym i

-- so does that of what a name names, where each of its rules has one answer
pub one-named : {A B : Type 0} (zeros : A) (named : Option B) (rule : B → Rule A) → ((b : B) (x y : A) → (rule b).Answer x → (rule b).Answer y → x ≡ y) → (o o' : Outcome A) → Follows (if_named zeros named rule) o → Follows (if_named zeros named rule) o' → o ≡ o'
one-named zeros None rule one o o' h i = h ∙ sym i
one-named zeros (Some b) rule one o o' h i = one-outcome (rule b) (one b) o o' h i

-- by what a name was found to name
pub by_name : {A B : Type 0} (zeros : A) (rule : B → Rule A) (found named : Option B) → found ≡ named → (o : Outcome A) → Follows (if_named zeros found rule) o → Follows (if_named zeros named rule) o
by_name {A} {B} zeros rule found named e o h = subst (λ (n : Option B). Follows (if_named zeros n rule) o) e h

-- ---- no two cases of an answer state the same
module _ {A : Type 0} where
  pub not-answered : (zeros a : A) (why : Refusal) → answered a ≡ refused zeros (number_of why) → ⊥
  not-answered zeros a why e = not-zero why (ap (λ (o : Outcome A). o.code) e)

  pub one-refusal : (zeros : A) (v w : Refusal) → refused zeros (number_of v) ≡ refused zeros (number_of w) → v ≡ w
  one-refusal zeros v w e = number_unique v w (ap (λ (o : Outcome A). o.code) e)

-- ---- tests one after the other
-- no test gives 0
abbrev pub numbered : List Test → Bool
numbered [] = true
numbered ((holds gives n) ∷ tests) = ltb 0 n && numbered tests

pub first_passes : (s t : List Test) → numbered s ≡ true → number_given s ≡ 0 → number_given (s ++ t) ≡ number_given t
first_passes [] t p e = refl
first_passes ((true gives n) ∷ s) t p e = absurd (omega (arith, ltb-true 0 n (and_true (ltb 0 n) (numbered s) p).0))
first_passes ((false gives n) ∷ s) t p e = first_passes s t (and_true (ltb 0 n) (numbered s) p).1 e

pub first_refuses : (s t : List Test) (n : ℕ) → eqb n 0 ≡ false → number_given s ≡ n → number_given (s ++ t) ≡ n
first_refuses [] t n z e = absurd (eqb-false n 0 z (sym e))
first_refuses ((true gives m) ∷ s) t n z e = e
first_refuses ((false gives m) ∷ s) t n z e = first_refuses s t n z e

-- where none of all holds, none of the first holds and none of the later ones
pub both_pass : (s t : List Test) → numbered s ≡ true → number_given (s ++ t) ≡ 0 → (number_given s ≡ 0) × (number_given t ≡ 0)
both_pass [] t p e = (refl, e)
both_pass ((true gives n) ∷ s) t p e = absurd (omega (arith, ltb-true 0 n (and_true (ltb 0 n) (numbered s) p).0))
both_pass ((false gives n) ∷ s) t p e = both_pass s t (and_true (ltb 0 n) (numbered s) p).1 e

-- no test gives more than n
abbrev pub most : ℕ → List Test → Bool
most n [] = true
most n ((holds gives m) ∷ tests) = leb m n && most n tests

pub number_most : (n : ℕ) (tests : List Test) → most n tests ≡ true → number_given tests ≤ n
number_most n [] e = omega arith
number_most n ((true gives m) ∷ tests) e = leb-true m n (and_true (leb m n) (most n tests) e).0
number_most n ((false gives m) ∷ tests) e = number_most n tests (and_true (leb m n) (most n tests) e).1

-- a test that was passed, and those after it
pub passed : (holds : Bool) (n : ℕ) (tests : List Test) → 0 < n → number_given (holds gives n ∷ tests) ≡ 0 → (holds ≡ false) × (number_given tests ≡ 0)
passed true n tests h e = absurd (omega arith)
passed false n tests h e = (refl, e)

-- a rule whose first tests are passed is the rule of the later ones
module _ {A : Type 0} (first later : List Test) (zeros : A) (Answer : A → Type 0) where
  abbrev pub whole-rule : Rule A
  whole-rule = record { tests = first ++ later; zeros = zeros; Answer = Answer }

  abbrev pub later-rule : Rule A
  later-rule = record { tests = later; zeros = zeros; Answer = Answer }

  module _ (p : numbered first ≡ true) (e : number_given first ≡ 0) (o : Outcome A) where
    pub with_first : Follows later-rule o → Follows whole-rule o
    with_first h = rw (first_passes first later p e) h

    pub without-first : Follows whole-rule o → Follows later-rule o
    without-first h = rw (first_passes first later p e) at h

  pub by_first : (n : ℕ) → eqb n 0 ≡ false → number_given first ≡ n → Follows whole-rule (refused zeros n)
  by_first n z e = rw (first_refuses first later n z e, z) refl
