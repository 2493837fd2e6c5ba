-- A larger resistance allowed: of a rule with one test by the limits of a resistance only what was refused by 1 moves.
use mathlib.Core.Path.{◌≡◌, refl, sym, ◌∙◌}
use mathlib.Core.Bool.{Bool, true, false, true≢false, ◌&&◌, not}
use mathlib.Core.List.{List, [], ◌∷◌, ◌++◌}
use Rattle.std.specs.Prelude.{Option, None, Some}
use Prim.Native.Nat.{ℕ, ◌≤◌}
use native.Mathlib.Omega.{arith}
use borrow.Author.Tests.{eqb-true, leb-true, le-leb, not-false}
use lib.Dec.{eqb, leb, ltb}
use Rattle.whole.specs.Choice.{if◌then◌otherwise◌}
use Rattle.whole.proofs.Choice.{and_true}
use Rattle.quantity.specs.Quantities.{least_divisor, is_reading_up_to, is_divisor_up_to, ratio_of, largest_ratio}
use Rattle.quantity.specs.Outcomes.{Outcome, refused, Test, ◌gives◌, number_given, Rule, Follows, if_named}
use Rattle.quantity.specs.Ratios.{ratio_tests_up_to, ratio_rule}
use Rattle.quantity.specs.Promised.{OnlyOnesMove, Widens, RatioWidens}
use Rattle.quantity.proofs.Outcomes.{code-is-given, one-outcome}

-- ---- within the limits
within : (least largest larger n : ℕ) → largest ≤ larger → (leb least n && leb n largest) ≡ true → (leb least n && leb n larger) ≡ true
within least largest larger n h e =
    let both = and_true (leb least n) (leb n largest) e in
    rw (both.0, le-leb n larger (omega (arith, leb-true n largest both.1, h))) refl

-- what is not outside is not outside the wider limits
pub not-outside : (largest larger : ℕ) → largest ≤ larger → (r r0 : ℕ)
    → not (is_reading_up_to largest r && is_divisor_up_to largest r0) ≡ false → not (is_reading_up_to larger r && is_divisor_up_to larger r0) ≡ false
not-outside largest larger h r r0 e =
    let both = and_true (is_reading_up_to largest r) (is_divisor_up_to largest r0) (not-false _ e) in
    rw (within 1 largest larger r h both.0, within least_divisor largest larger r0 h both.1) refl

-- ---- a test that gives 1, among others that stay
module _ (later : List Test) (out out' : Bool) (fewer : out ≡ false → out' ≡ false) where
  after-it : (t : Bool) → out ≡ t → eqb (if t then 1 otherwise number_given later) 1 ≡ false → (if t then 1 otherwise number_given later) ≡ (if out' then 1 otherwise number_given later)
  after-it true e z = absurd (true≢false z)
  after-it false e z = rw (fewer e) refl

  same_number : (earlier : List Test) → eqb (number_given (earlier ++ (out gives 1 ∷ later))) 1 ≡ false
      → number_given (earlier ++ (out gives 1 ∷ later)) ≡ number_given (earlier ++ (out' gives 1 ∷ later))
  same_number [] z = after-it out refl z
  same_number ((true gives n) ∷ earlier) z = refl
  same_number ((false gives n) ∷ earlier) z = same_number earlier z

  module _ {A : Type 0} (earlier : List Test) (zeros : A) (Answer : A → Type 0) (one : (a b : A) → Answer a → Answer b → a ≡ b) where
    abbrev before : Rule A
    before = record { tests = earlier ++ (out gives 1 ∷ later); zeros = zeros; Answer = Answer }

    abbrev after : Rule A
    after = record { tests = earlier ++ (out' gives 1 ∷ later); zeros = zeros; Answer = Answer }

    stays : (o : Outcome A) → Follows before o → eqb o.code 1 ≡ false → Follows after o
    stays o h z =
        let number = same_number earlier (rw (code-is-given before o h) at z) in
        rw number at h

    same : (o o' : Outcome A) → Follows before o → eqb o.code 1 ≡ false → Follows after o' → o' ≡ o
    same o o' h z i = one-outcome after one o' o i (stays o h z)

    had : (t : Bool) → eqb (number_given before.tests) 0 ≡ t → (o : Outcome A) → Follows after o → (old : Outcome A) × Follows before old
    had true e o h =
        let none-given = eqb-true (number_given before.tests) 0 e in
        let number = same_number earlier (rw none-given refl) in
        (o, rw (sym number) at h)
    had false e o h = (refused zeros (number_given before.tests), rw e refl)

    pub ones-move : OnlyOnesMove before after
    ones-move = record { stays = stays; same = same; had = had (eqb (number_given before.tests) 0) refl }

-- a rule that asks for no limit
pub none_moves : {A : Type 0} (rule : Rule A) → ((a b : A) → rule.Answer a → rule.Answer b → a ≡ b) → OnlyOnesMove rule rule
none_moves rule one = record { stays = λ o h z. h; same = λ o o' h z i. one-outcome rule one o' o i h; had = λ o h. (o, h) }

-- that of what a name names
pub named_move : {A B : Type 0} (zeros : A) (named : Option B) (before after : B → Rule A) → ((b : B) → OnlyOnesMove (before b) (after b)) → OnlyOnesMove (if_named zeros named before) (if_named zeros named after)
named_move zeros None before after move = none_moves (if_named zeros None before) (λ a b p q. absurd p)
named_move zeros (Some b) before after move = move b

-- a rule with the tests of a ratio among its own
pub ratio-among : {A : Type 0} (earlier later : List Test) (zeros : A) (Answer : A → Type 0) → ((a b : A) → Answer a → Answer b → a ≡ b) → (r r0 : ℕ)
    → Widens (λ largest. record { tests = earlier ++ (ratio_tests_up_to largest r r0 ++ later); zeros = zeros; Answer = Answer })
ratio-among earlier later zeros Answer one r r0 largest larger h =
    ones-move (ltb largest_ratio (ratio_of r r0) gives 2 ∷ later) (not (is_reading_up_to largest r && is_divisor_up_to largest r0)) (not (is_reading_up_to larger r && is_divisor_up_to larger r0)) (not-outside largest larger h r r0)
    earlier zeros Answer one

pub ratio_widens : RatioWidens
ratio_widens r r0 = ratio-among [] [] 0 (ratio_rule r r0).Answer (λ v w p q. p ∙ sym q) r r0
