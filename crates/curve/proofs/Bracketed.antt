-- Where R/R0 lies, of an answered reading and of an answered tolerance test.
use mathlib.Core.Path.{◌≡◌, refl, sym, ◌∙◌, ap, subst}
use mathlib.Core.Bool.{true}
use mathlib.Core.List.{◌++◌}
use Rattle.std.specs.Prelude.{Option, None, Some}
use Prim.Native.Nat.{ℕ, ◌+◌, ◌*◌, ◌≤◌}
use native.Mathlib.Nat.{mul-le-mul_right}
use native.Mathlib.Omega.{arith}
use lib.IntN.{ℤ, pos, ◌+ℤ◌, ◌-ℤ◌, ◌*ℤ◌}
use Rattle.whole.specs.Largest.{Largest}
use Rattle.whole.proofs.Parts.{ints, add_parts, sub_parts}
use Rattle.whole.proofs.Ring.{*ℤ-mono, *ℤ-strict}
use Rattle.quantity.specs.Quantities.{is_divisor, one, ratio_of}
use Rattle.quantity.specs.Outcomes.{Outcome, number_given, Follows, if_named}
use Rattle.quantity.specs.Ratios.{ratio_tests}
use Rattle.quantity.proofs.Outcomes.{answer-follows, both_pass}
use Rattle.quantity.proofs.Ratios.{ratio_passed, divisor_above, nearest}
use Rattle.law.specs.Ranges.{value_tests, step_tests}
use Rattle.curve.specs.declared.tolerance.Class.{Class}
use Rattle.curve.specs.Curve.{exact, per_unit, units, first, last}
use Rattle.curve.specs.Ways.{range, read_resistances}
use Rattle.curve.specs.Tolerance.{LawAndResult, no_result, class_named, test_by_class}
use Rattle.curve.specs.Promised.{Bracketed, ReadsBracketed, TestsBracketed}

-- ---- a reading
-- a step that answers the ratio
pub bracketed : (r r0 : ℕ) (step : ℤ) → is_divisor r0 ≡ true → Largest exact first last (units (ratio_of r r0)) step → Bracketed r r0 step
unfolding units
bracketed r r0 step d l =
    let w = ratio_of r r0 in
    let n = (nearest r r0 d).0 in
    let low : 2 * w * r0 * per_unit ≤ (2 * (r * one) + r0) * per_unit = mul-le-mul_right per_unit n.not_above in
    let s = add_parts step (pos 1) in
    let next = l.above (step +ℤ pos 1) (omega (ints, s)) (omega (ints, s, l.to_last)) in
    let sum = add_parts (exact (step +ℤ pos 1) *ℤ pos (2 * r0)) (pos (r0 * per_unit)) in
    record {
      from_step = omega (ints, *ℤ-mono (exact step) (units w) (2 * r0) l.not_above, low);
      to_next = omega (ints, *ℤ-strict (units w) (exact (step +ℤ pos 1)) (2 * r0) (omega (arith, divisor_above r0 d)) next, n.not_below, sum);
    }

-- so where the tests of a reading are passed
bracketed_read : (r r0 : ℕ) (step : ℤ) → number_given (ratio_tests r r0 ++ value_tests range (units (ratio_of r r0))) ≡ 0 → range.StepOf (units (ratio_of r r0)) step → Bracketed r r0 step
bracketed_read r r0 step e l =
    let p = ratio_passed r r0 (both_pass (ratio_tests r r0) (value_tests range (units (ratio_of r r0))) refl e).0 in
    bracketed r r0 step p.divisor l

pub reads_bracketed : ReadsBracketed
reads_bracketed r r0 o h z =
    let a = answer-follows (read_resistances r r0) o z h in
    bracketed_read r r0 o.answer.step a.0 a.1.1

-- ---- a tolerance test
tests_class : (class : Class) (bath : ℤ) (r r0 : ℕ) (o : Outcome LawAndResult) → Follows (test_by_class class bath r r0) o → o.code ≡ 0 → Bracketed r r0 (bath +ℤ o.answer.error)
tests_class class bath r r0 o h z =
    let a = answer-follows (test_by_class class bath r r0) o z h in
    let later = (both_pass (step_tests first class.top bath) (ratio_tests r r0 ++ value_tests range (units (ratio_of r r0))) refl a.0).1 in
    let step = a.1.0 in
    let same : bath +ℤ (step -ℤ bath) ≡ step = omega (ints, sub_parts step bath, add_parts bath (step -ℤ bath)) in
    let back : bath +ℤ o.answer.error ≡ step = ap (λ (x : LawAndResult). bath +ℤ x.error) a.1.2 ∙ same in
    subst (Bracketed r r0) (sym back) (bracketed_read r r0 step later a.1.1)

pub tests_bracketed : TestsBracketed
tests_bracketed letter bath r r0 o h z = by (class_named letter) h
  where
    by : (named : Option Class) → Follows (if_named no_result named (λ class. test_by_class class bath r r0)) o → Bracketed r r0 (bath +ℤ o.answer.error)
    by None g = absurd (let c : ◌≡◌ {A = ℕ} 3 0 = sym (ap (λ (o : Outcome LawAndResult). o.code) g) ∙ z in omega arith)
    by (Some class) g = tests_class class bath r r0 o g z
