-- Demand 3.
use mathlib.Core.Path.{subst}
use Prim.Native.Nat.{ℕ, ◌≤◌}
use native.Mathlib.Omega.{arith}
use lib.IntN.{ℤ, pos, ◌+ℤ◌}
use lib.Signed.{◌≤ℤ◌, ◌<ℤ◌}
use Rattle.whole.specs.Largest.{Largest}
use Rattle.whole.proofs.Largest.{largest_mono}
use Rattle.whole.proofs.Parts.{ints, add_parts}
use Rattle.exact.proofs.Orders.{through}
use Rattle.quantity.specs.Quantities.{ratio_of, largest_ratio}
use Rattle.quantity.proofs.Ratios as ratios
use Rattle.law.specs.declared.subrange.Subrange.{Subrange}
use Rattle.law.specs.declared.laws.Law.{Law}
use Rattle.law.specs.declared.laws.Law.TheVariants.{Curve, Scale}
use Rattle.law.specs.Subranges.{carried}
use Rattle.law.specs.Ranges.{Range}
use Rattle.reference.specs.Reference as reference
use Rattle.reference.specs.Reference.{working}
use Rattle.reference.proofs.Close as reference-close
use Rattle.curve.specs.Curve as curve
use Rattle.deviation.specs.declared.places.Places.{Places}
use Rattle.deviation.specs.Limits.{Limited}
use Rattle.deviation.specs.Working.{Wr}
use Rattle.deviation.specs.Exact.{exact_wr}
use Rattle.deviation.specs.Promised.{rounding}
use Rattle.deviation.proofs.Rising as deviation
use Rattle.deviation.proofs.Loss as loss
use Rattle.reading.specs.Laws.{value_of, range_of, Keeps}
use Rattle.reading.specs.Promised.{departure, Close, AnswersClose, AnswersOrdered}
use Rattle.reading.proofs.Ends.{tops, range_is}
use Rattle.reading.proofs.Answered.{asked, answered_by}

-- the step of a subrange is the largest
pub largest_step : (s : Subrange) (value step : ℤ) → (range_of (Scale s)).StepOf value step → Largest working (pos 0) (carried s).top value step
largest_step s value step h = subst (λ (range : Range). range.StepOf value step) (range_is s) h

-- ---- first half
-- Wr lies between the working values at the step and at the next
close : (s : Subrange) (k : Places) → Limited (carried s).form k → (w : ℕ) → w ≤ largest_ratio → (step : ℤ) → Largest working (pos 0) (carried s).top (Wr (carried s).form k w) step → Close (carried s).form k w step
close s k e w h step l =
    let form = (carried s).form in
    let t = tops s in
    let m = add_parts step (pos 1) in
    let n = add_parts (carried s).top (pos 1) in
    let next : Wr form k w <ℤ working (step +ℤ pos 1) = l.above (step +ℤ pos 1) (omega (ints, m)) (omega (ints, m, n, l.to_last)) in
    record {
      not_above =
          through (reference.exact step) (exact_wr form k w) (working step) (Wr form k w) 9 rounding departure
          (reference-close.close step l.from_first (omega (ints, l.to_last, t)))
          (loss.close form k e w h) l.not_above (omega arith);
      not_below =
          through (exact_wr form k w) (reference.exact (step +ℤ pos 1)) (Wr form k w) (working (step +ℤ pos 1)) rounding 9 departure
          (loss.close form k e w h)
          (reference-close.close (step +ℤ pos 1) (omega (ints, m, l.from_first)) (omega (ints, m, l.to_last, t)))
          (omega (ints, next)) (omega arith);
    }

pub answers_close : AnswersClose
answers_close k r r0 o s named h z =
    let a = answered_by k r r0 o (Scale s) named z h in
    close s k.places a.keeps (ratio_of r r0) a.passed.within o.answer.step (largest_step s (Wr (carried s).form k.places (ratio_of r r0)) o.answer.step a.step_of)

-- ---- second half
-- a larger ratio has no smaller value, and a larger value no lower step
value_rises : (law : Law) (k : Places) → Keeps law k → (v w : ℕ) → v ≤ w → w ≤ largest_ratio → value_of law k v ≤ℤ value_of law k w
unfolding curve.units
value_rises Curve k e v w h b = omega (ints, h)
value_rises (Scale s) k e v w h b = deviation.not_falling (carried s).form k e v w h b

step_rises : (law : Law) (v w s t : ℤ) → v ≤ℤ w → (range_of law).StepOf v s → (range_of law).StepOf w t → s ≤ℤ t
step_rises Curve v w s t h p q = largest_mono curve.exact curve.first curve.last v w s t h p q
step_rises (Scale u) v w s t h p q = largest_mono working (pos 0) (carried u).top v w s t h (largest_step u v s p) (largest_step u w t q)

pub answers_ordered : AnswersOrdered
answers_ordered k r r' r0 o o' h h' z z' less =
    let a = asked k r r0 o z h in
    let law = a.law in
    let x = a.answered in
    let y = answered_by k r' r0 o' law a.named z' h' in
    step_rises law (value_of law k.places (ratio_of r r0)) (value_of law k.places (ratio_of r' r0)) o.answer.step o'.answer.step
    (value_rises law k.places x.keeps (ratio_of r r0) (ratio_of r' r0) (ratios.rises r r' r0 x.passed.divisor less) y.passed.within)
    x.step_of y.step_of
