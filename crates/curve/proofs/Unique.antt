-- Each promise of the curve allows one outcome only.
use Rattle.std.specs.Prelude.{Err, Ok, Result}
use mathlib.Core.Path.{◌≡◌, sym, ◌∙◌, ap}
use mathlib.Core.List.{[], ◌∷◌}
use Rattle.std.specs.Option.{unwrap_or}
use Prim.Native.Nat.{ℕ}
use lib.Dec.{ltb}
use lib.IntN.{ℤ, pos}
use Rattle.whole.proofs.Parts.{ints}
use Rattle.quantity.specs.Quantities.{largest_resistance, ratio_of, largest_ratio}
use Rattle.quantity.specs.Outcomes.{Outcome, ◌gives◌, Follows}
use Rattle.quantity.specs.Ratios.{ratio_tests}
use Rattle.quantity.proofs.Outcomes.{one-named, not-answered, one-refusal}
use Rattle.law.specs.declared.laws.Law.TheVariants.{Curve}
use Rattle.quantity.specs.declared.refusal.Refusal.{Refusal}
use Rattle.law.specs.declared.answer.Reading.{Reading}
use Rattle.law.specs.declared.answer.ForwardRatio.{ForwardRatio}
use Rattle.law.specs.Answers.{stated, stated_forward}
use Rattle.law.proofs.Answers.{OneStep, largest_is_one, stated_unique, one_reading, forward_unique, one_forward}
use Rattle.curve.specs.declared.tolerance.Class.{Class}
use Rattle.curve.specs.declared.tolerance.ToleranceResult.{ToleranceResult}
use Rattle.curve.specs.Curve.{exact, units, first, last}
use Rattle.curve.specs.Ways.{range, read_ratio, read_resistances, RatioAt, forward_step}
use Rattle.curve.specs.Tolerance as tolerance
use Rattle.curve.specs.Tolerance.{LawAndResult, no_result, class_named, result_of, test_by_class_up_to, test_by_class, tolerance_test_up_to, tolerance_test}

-- ---- readings
pub one-step : OneStep range
one-step = largest_is_one exact first last

pub one_reading_of_ratio : (w : ℕ) (x y : Result Reading Refusal) → Follows (read_ratio w) (stated x) → Follows (read_ratio w) (stated y) → x ≡ y
one_reading_of_ratio w x y h k =
    stated_unique x y (one_reading (ltb largest_ratio w gives 2 ∷ []) Curve range (units w) one-step (stated x) (stated y) h k)

pub one_reading_by : (r r0 : ℕ) (x y : Result Reading Refusal) → Follows (read_resistances r r0) (stated x) → Follows (read_resistances r r0) (stated y) → x ≡ y
one_reading_by r r0 x y h k =
    stated_unique x y (one_reading (ratio_tests r r0) Curve range (units (ratio_of r r0)) one-step (stated x) (stated y) h k)

-- ---- forward
pub one_ratio_at : (step : ℤ) (v w : ℕ) → RatioAt step v → RatioAt step w → v ≡ w
one_ratio_at step v w p q = let e : pos v ≡ pos w = p ∙ sym q in omega ints

pub one_forward_step : (step : ℤ) (x y : Result ForwardRatio Refusal) → Follows (forward_step step) (stated_forward x) → Follows (forward_step step) (stated_forward y) → x ≡ y
one_forward_step step x y h k =
    forward_unique x y (one_forward [] Curve range (RatioAt step) step (one_ratio_at step) (stated_forward x) (stated_forward y) h k)

-- ---- tolerance
result_unique : (x y : Result ToleranceResult Refusal) → tolerance.stated x ≡ tolerance.stated y → x ≡ y
result_unique (Ok t) (Ok u) e =
    ap (λ (o : Outcome LawAndResult). Ok (record { law = unwrap_or o.answer.law Curve; passes = o.answer.passes; error = o.answer.error })) e
result_unique (Ok t) (Err why) e = absurd (not-answered no_result _ why e)
result_unique (Err why) (Ok u) e = absurd (not-answered no_result _ why (sym e))
result_unique (Err v) (Err w) e = ap Err (one-refusal no_result v w e)

pub same_result : (class : Class) (bath : ℤ) (r r0 : ℕ) (a b : LawAndResult) → (test_by_class class bath r r0).Answer a → (test_by_class class bath r r0).Answer b → a ≡ b
same_result class bath r r0 a b p q = p.2 ∙ ap (result_of class bath) (one-step (units (ratio_of r r0)) p.0 q.0 p.1 q.1) ∙ sym q.2

pub test_unique : (largest letter : ℕ) (bath : ℤ) (r r0 : ℕ) (o o' : Outcome LawAndResult) → Follows (tolerance_test_up_to largest letter bath r r0) o → Follows (tolerance_test_up_to largest letter bath r r0) o' → o ≡ o'
test_unique largest letter bath r r0 =
    one-named no_result (class_named letter) (λ class. test_by_class_up_to largest class bath r r0) (λ class. same_result class bath r r0)

pub one_result : (letter : ℕ) (bath : ℤ) (r r0 : ℕ) (x y : Result ToleranceResult Refusal) → Follows (tolerance_test letter bath r r0) (tolerance.stated x) → Follows (tolerance_test letter bath r r0) (tolerance.stated y) → x ≡ y
one_result letter bath r r0 x y h k = result_unique x y (test_unique largest_resistance letter bath r r0 (tolerance.stated x) (tolerance.stated y) h k)
