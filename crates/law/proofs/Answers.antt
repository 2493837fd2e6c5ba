-- Answers that name a law: no two cases state the same, and a rule allows one where the law's own step or ratio is one.
use mathlib.Core.Path.{◌≡◌, refl, sym, ◌∙◌, ap, ap₂}
use mathlib.Core.Bool.{true}
use mathlib.Core.List.{List, []}
use Rattle.std.specs.Prelude.{Option, Some, Err, Ok, Result}
use Rattle.std.specs.Option.{unwrap_or}
use Prim.Native.Nat.{ℕ}
use lib.IntN.{ℤ, pos, ◌+ℤ◌}
use lib.Signed.{◌≤ℤ◌, ◌<ℤ◌}
use Rattle.whole.specs.Largest.{Largest}
use Rattle.whole.proofs.Largest.{largest-unique}
use Rattle.whole.proofs.Machine.{yes_lt, no_lt, yes_le, no_le}
use Rattle.quantity.specs.Outcomes.{Outcome, answered, refused, Test, number_given, Rule, Follows}
use Rattle.quantity.proofs.Outcomes.{one-outcome, not-answered, one-refusal, numbered, with_first, without-first}
use Rattle.law.specs.declared.laws.Law.{Law}
use Rattle.law.specs.declared.laws.Law.TheVariants.{Curve}
use Rattle.quantity.specs.declared.refusal.Refusal.{Refusal}
use Rattle.law.specs.declared.answer.Reading.{Reading}
use Rattle.law.specs.declared.answer.ForwardRatio.{ForwardRatio}
use Rattle.law.specs.Ranges.{Range, by_largest, value_tests}
use Rattle.law.specs.Answers.{LawAndStep, no_step, stated, read_by, LawAndRatio, no_ratio, stated_forward, forward_by}

-- ---- a reading
pub stated_unique : (x y : Result Reading Refusal) → stated x ≡ stated y → x ≡ y
stated_unique (Ok t) (Ok u) e =
    ap (λ (o : Outcome LawAndStep). Ok (record { law = unwrap_or o.answer.law Curve; step = record { 0 = o.answer.step } })) e
stated_unique (Ok t) (Err why) e = absurd (not-answered no_step _ why e)
stated_unique (Err why) (Ok u) e = absurd (not-answered no_step _ why (sym e))
stated_unique (Err v) (Err w) e = ap Err (one-refusal no_step v w e)

-- a range answers a value by one step at most
abbrev pub OneStep : Range → Type 0
OneStep range = (value s t : ℤ) → range.StepOf value s → range.StepOf value t → s ≡ t

pub largest_is_one : (value_at : ℤ → ℤ) (bottom top : ℤ) → OneStep (by_largest value_at bottom top)
largest_is_one value_at bottom top value s t p q = largest-unique value_at bottom top value s t p q

-- by a range of one step for each value there is one answer
pub same_reading : (law : Law) (range : Range) (value : ℤ) → OneStep range → (a b : LawAndStep) → (read_by [] law range value).Answer a → (read_by [] law range value).Answer b → a ≡ b
same_reading law range value one a b p q = ap₂ {C = LawAndStep} (λ (l : Option Law) (s : ℤ). record { law = l; step = s }) (p.0 ∙ sym q.0) (one value a.step b.step p.1 q.1)

pub one_reading : (earlier : List Test) (law : Law) (range : Range) (value : ℤ) → OneStep range → (o o' : Outcome LawAndStep) → Follows (read_by earlier law range value) o → Follows (read_by earlier law range value) o' → o ≡ o'
one_reading earlier law range value one = one-outcome (read_by earlier law range value) (same_reading law range value one)

-- by the largest step: from the side on which the value lies
module _ (law : Law) (value_at : ℤ → ℤ) (bottom top value : ℤ) where
  abbrev read : Rule LawAndStep
  read = read_by [] law (by_largest value_at bottom top) value

  pub reads-below : value <ℤ value_at bottom → Follows read (refused no_step 8)
  reads-below h = rw (yes_lt h) refl

  pub reads_past : value_at bottom ≤ℤ value → value_at (top +ℤ pos 1) ≤ℤ value → Follows read (refused no_step 9)
  reads_past h p = rw (no_lt h, yes_le p) refl

  pub reads-step : (step : ℤ) → value_at bottom ≤ℤ value → value <ℤ value_at (top +ℤ pos 1) → Largest value_at bottom top value step → Follows read (answered (record { law = Some law; step = step }))
  reads-step step h p l = rw (no_lt h, no_le p) (refl, (refl, l))

-- a value that is read after tests that pass is read so after any others that pass
pub read_after : (s t : List Test) (law : Law) (range : Range) (value : ℤ) → numbered s ≡ true → number_given s ≡ 0 → numbered t ≡ true → number_given t ≡ 0 → (o : Outcome LawAndStep) → Follows (read_by s law range value) o → Follows (read_by t law range value) o
read_after s t law range value n e m f o h =
    let Answer : LawAndStep → Type 0 = (read_by s law range value).Answer in
    with_first t (value_tests range value) no_step Answer m f o (without-first s (value_tests range value) no_step Answer n e o h)

-- ---- forward
pub forward_unique : (x y : Result ForwardRatio Refusal) → stated_forward x ≡ stated_forward y → x ≡ y
forward_unique (Ok t) (Ok u) e =
    ap (λ (o : Outcome LawAndRatio). Ok (record { law = unwrap_or o.answer.law Curve; ratio = record { 0 = o.answer.ratio } })) e
forward_unique (Ok t) (Err why) e = absurd (not-answered no_ratio _ why e)
forward_unique (Err why) (Ok u) e = absurd (not-answered no_ratio _ why (sym e))
forward_unique (Err v) (Err w) e = ap Err (one-refusal no_ratio v w e)

-- from the side on which the step lies
module _ (law : Law) (range : Range) (RatioOf : ℕ → Type 0) (step : ℤ) where
  abbrev forth : Rule LawAndRatio
  forth = forward_by [] law range RatioOf step

  pub step-below : step <ℤ range.bottom → Follows forth (refused no_ratio 8)
  step-below h = rw (yes_lt h) refl

  pub step-above : range.bottom ≤ℤ step → range.top <ℤ step → Follows forth (refused no_ratio 9)
  step-above h p = rw (no_lt h, yes_lt p) refl

  pub step-within : (w : ℕ) → range.bottom ≤ℤ step → step ≤ℤ range.top → RatioOf w → Follows forth (answered (record { law = Some law; ratio = w }))
  step-within w h p r = rw (no_lt h, no_lt p) (refl, (refl, r))

pub one_forward : (earlier : List Test) (law : Law) (range : Range) (RatioOf : ℕ → Type 0) (step : ℤ) → ((v w : ℕ) → RatioOf v → RatioOf w → v ≡ w) → (o o' : Outcome LawAndRatio) → Follows (forward_by earlier law range RatioOf step) o → Follows (forward_by earlier law range RatioOf step) o' → o ≡ o'
one_forward earlier law range RatioOf step one =
    one-outcome (forward_by earlier law range RatioOf step)
    (λ a b p q. ap₂ {C = LawAndRatio} (λ (l : Option Law) (w : ℕ). record { law = l; ratio = w }) (p.0 ∙ sym q.0) (one a.ratio b.ratio p.1 q.1))
