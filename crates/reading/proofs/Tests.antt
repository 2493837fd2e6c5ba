-- Tests of a reading that the checker can compute, and that passing one shows the reading.
use mathlib.Core.Path.{◌≡◌, refl, sym, subst}
use mathlib.Core.Bool.{Bool, true, ◌&&◌, not}
use mathlib.Core.List.{[]}
use Rattle.std.specs.Prelude.{Some}
use Prim.Native.Nat.{ℕ}
use borrow.Author.Tests.{eqb-true, not-true}
use lib.Dec.{eqb}
use lib.IntN.{ℤ, pos, ◌+ℤ◌}
use lib.Signed.{lt_z, le_z, ◌≤ℤ◌, ◌<ℤ◌}
use Rattle.whole.proofs.Choice.{and_true}
use Rattle.whole.proofs.Largest.{largest-by-next}
use Rattle.whole.proofs.Machine.{le_yes, lt_yes}
use Rattle.whole.proofs.Parts.{ints, add_parts}
use Rattle.whole.proofs.Rising.{not_falling}
use Rattle.quantity.specs.Outcomes.{answered, refused, number_given, Follows}
use Rattle.quantity.proofs.Outcomes.{follows-refusal}
use Rattle.law.specs.declared.laws.Law.{Law}
use Rattle.law.specs.declared.laws.Law.TheVariants.{Curve, Scale}
use Rattle.law.specs.Subranges.{carried}
use Rattle.law.specs.Answers.{no_step, read_by}
use Rattle.law.specs.Ranges.{Range, by_largest, value_tests}
use Rattle.law.proofs.Answers.{reads-step}
use Rattle.reference.specs.Reference.{working}
use Rattle.reference.proofs.Rising as reference
use Rattle.curve.specs.Curve as curve
use Rattle.curve.proofs.Rising as curve-rising
use Rattle.deviation.specs.declared.places.Places.{Places}
use Rattle.reading.specs.Laws.{value_of, range_of}
use Rattle.reading.specs.Reading.{read_ratio}
use Rattle.reading.proofs.Ends.{tops, range_is}

-- the values at the steps of a law, its bottom and its top
abbrev pub value_at : Law → ℤ → ℤ
value_at Curve = curve.exact
value_at (Scale s) = working

abbrev pub bottom : Law → ℤ
bottom Curve = curve.first
bottom (Scale s) = pos 0

abbrev pub top : Law → ℤ
top Curve = curve.last
top (Scale s) = (carried s).top

-- by which its range goes
ranges : (law : Law) → range_of law ≡ by_largest (value_at law) (bottom law) (top law)
ranges Curve = refl
ranges (Scale s) = range_is s

-- the values of every law rise, from the first step to the one past the last
rise : (law : Law) (t : ℤ) → bottom law ≤ℤ t → t <ℤ (top law +ℤ pos 1) → value_at law t <ℤ value_at law (t +ℤ pos 1)
rise Curve t p q = curve-rising.one_up t p q
rise (Scale s) t p q = reference.one_up t p (omega (ints, q, (tops s).1, add_parts (carried s).top (pos 1)))

-- a ratio whose value lies between that at a step and that at the next reads the step
module _ (law : Law) (k : Places) (w : ℕ) (t : ℤ) where
  pub between : bottom law ≤ℤ t → t ≤ℤ top law → value_at law t ≤ℤ value_of law k w → value_of law k w <ℤ value_at law (t +ℤ pos 1) → Follows (read_ratio law k w) (answered (record { law = Some law; step = t }))
  between p q n a =
      let past = add_parts (top law) (pos 1) in
      let next = add_parts t (pos 1) in
      subst (λ (range : Range). Follows (read_by [] law range (value_of law k w)) (answered (record { law = Some law; step = t }))) (sym (ranges law))
      (reads-step law (value_at law) (bottom law) (top law) (value_of law k w) t
      (omega (ints, n, not_falling (value_at law) (bottom law) (top law +ℤ pos 1) (rise law) (bottom law) t (omega ints) p (omega (ints, q, past))))
      (omega (ints, a, not_falling (value_at law) (bottom law) (top law +ℤ pos 1) (rise law) (t +ℤ pos 1) (top law +ℤ pos 1) (omega (ints, p, next)) (omega (ints, q, past, next)) (omega ints)))
      (largest-by-next (value_at law) (bottom law) (top law) (rise law) (value_of law k w) t p q n a))

-- ---- the tests
abbrev pub step_test : Law → Places → ℕ → ℤ → Bool
step_test law k w t =
    (le_z (bottom law) t && le_z t (top law)) && (le_z (value_at law t) (value_of law k w) && lt_z (value_of law k w) (value_at law (t +ℤ pos 1)))

pub step-passes : (law : Law) (k : Places) (w : ℕ) (t : ℤ) → step_test law k w t ≡ true → Follows (read_ratio law k w) (answered (record { law = Some law; step = t }))
step-passes law k w t e =
    let both = and_true (le_z (bottom law) t && le_z t (top law)) (le_z (value_at law t) (value_of law k w) && lt_z (value_of law k w) (value_at law (t +ℤ pos 1))) e in
    let range = and_true (le_z (bottom law) t) (le_z t (top law)) both.0 in
    let value = and_true (le_z (value_at law t) (value_of law k w)) (lt_z (value_of law k w) (value_at law (t +ℤ pos 1))) both.1 in
    between law k w t (le_yes refl range.0) (le_yes refl range.1) (le_yes refl value.0) (lt_yes refl value.1)

abbrev pub refusal_test : Law → Places → ℕ → ℕ → Bool
refusal_test law k w n = eqb (number_given (value_tests (range_of law) (value_of law k w))) n && not (eqb n 0)

pub refusal_passes : (law : Law) (k : Places) (w n : ℕ) → refusal_test law k w n ≡ true → Follows (read_ratio law k w) (refused no_step n)
refusal_passes law k w n e =
    let number = number_given (value_tests (range_of law) (value_of law k w)) in
    let both = and_true (eqb number n) (not (eqb n 0)) e in
    follows-refusal (read_ratio law k w) n (not-true (eqb n 0) both.1) (eqb-true number n both.0)
