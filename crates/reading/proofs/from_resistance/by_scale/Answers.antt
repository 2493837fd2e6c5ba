use borrow.Author.Rules.{rules}
use mathlib.Core.Path.{◌≡◌, refl, subst}
use Rattle.std.specs.Prelude.{Err, Some}
use mathlib.Core.List.{[]}
use lib.IntN.{ℤ, pos, ◌+ℤ◌}
use lib.Signed.{◌≤ℤ◌, ◌<ℤ◌}
use mir.Syntax.{w64}
use mir.Val.{SFits, to_z, of_z}
use mir.Facts.{to_z-of_z}
use Rattle.std.proofs.lemmas.Result.{err_from_is_err_and}
use Rattle.whole.specs.Largest.{Largest}
use Rattle.whole.proofs.Parts.{ints, add_parts}
use Rattle.whole.proofs.Machine.{back, lt_yes, lt_no, yes_lt}
use Rattle.quantity.specs.Outcomes.{answered, refused, Follows}
use Rattle.quantity.specs.Refusals.{number_of}
use Rattle.law.specs.declared.laws.Law.TheVariants.{Scale}
use Rattle.law.specs.Subranges.{carried}
use Rattle.law.specs.declared.subrange.Subrange.{Subrange}
use Rattle.law.specs.Answers.{no_step, read_by}
use Rattle.law.proofs.Answers.{reads_past, reads-step}
use Rattle.reference.specs.declared.inverse.Outside.{Outside}
use Rattle.reference.specs.declared.inverse.Outside.TheVariants.{Below, Past}
use Rattle.reference.specs.Reference.{working, last, past_last}
use Rattle.reference.specs.Inverse.{Inverted, refusal_of}
use Rattle.reading.specs.Laws.{range_of}
use Rattle.deviation.specs.Working.{Wr}
use Rattle.reading.proofs.Ends.{tops, by-subrange, not_falling}
use Rattle.reading.proofs.from_resistance.by_scale.Goals as goal

pub returns-then-top-step : goal.returns-then-top-step
returns-then-top-step c =
    let value : ℤ = Wr (carried c.args.subrange).form c.args.k c.args.w.0 in
    let top : ℤ = (carried c.args.subrange).top in
    let found : Largest working (pos 0) last value c.in_ok-step.step.0 = rw (back c.wr.result c.wr.type_inv, c.wr.ensures, c.form.ensures) at c.in_ok-step.ensures in
    let top-known : SFits w64 c.top-top.result.0 = search rules in
    let step-known : SFits w64 c.in_ok-step.step.0 = search rules in
    let f = found in
    let t = tops c.args.subrange in
    let step = c.in_ok-step.step.0 in
    let later : top <ℤ step = lt_yes refl (rw (to_z-of_z top-known, to_z-of_z step-known, c.top-top.ensures) at c.if-top-step.true) in
    let e = add_parts top (pos 1) in
    by-subrange [] c.args.subrange value (refused no_step 9)
    (reads_past (Scale c.args.subrange) working (pos 0) top value
    (omega (ints, f.not_above, not_falling (pos 0) step (omega ints) f.from_first (omega (ints, f.to_last))))
    (omega (ints, f.not_above, not_falling (top +ℤ pos 1) step (omega (ints, t, e)) (omega (ints, later, e)) (omega (ints, f.to_last)))))

-- a value that is outside the whole scale
outside : (subrange : Subrange) (value : ℤ) (side : Outside) → Inverted value (Err side) → Follows (read_by [] (Scale subrange) (range_of (Scale subrange)) value) (refused no_step (number_of (refusal_of side)))
outside subrange value Below below = by-subrange [] subrange value (refused no_step 8) (rw (yes_lt below) refl)
outside subrange value Past past =
    let top : ℤ = (carried subrange).top in
    let t = tops subrange in
    let e = add_parts top (pos 1) in
    by-subrange [] subrange value (refused no_step 9)
    (reads_past (Scale subrange) working (pos 0) top value
    (omega (ints, past, not_falling (pos 0) past_last (omega ints) (omega ints) (omega ints)))
    (omega (ints, past, not_falling (top +ℤ pos 1) past_last (omega (ints, t, e)) (omega (ints, t, e)) (omega ints))))

pub returns-in_err-step : goal.returns-in_err-step
returns-in_err-step c =
    let value : ℤ = Wr (carried c.args.subrange).form c.args.k c.args.w.0 in
    let same : to_z w64 (of_z w64 c.wr.result) ≡ value = rw (back c.wr.result c.wr.type_inv, c.wr.ensures, c.form.ensures) in
    let side : Outside = c.in_err-step.field-0.0 in
    let outside-by : Inverted value (Err side) = subst (λ (v : ℤ). Inverted v (Err side)) same c.in_err-step.ensures in
    let (why, is, by) = err_from_is_err_and c.from_residual.result c.from_residual.ensures.1 in
    rw (is, by) (outside c.args.subrange value side outside-by)

pub returns : goal.returns
returns c =
    let value : ℤ = Wr (carried c.args.subrange).form c.args.k c.args.w.0 in
    let top : ℤ = (carried c.args.subrange).top in
    let found : Largest working (pos 0) last value c.in_ok-step.step.0 = rw (back c.wr.result c.wr.type_inv, c.wr.ensures, c.form.ensures) at c.in_ok-step.ensures in
    let top-known : SFits w64 c.top-top.result.0 = search rules in
    let step-known : SFits w64 c.in_ok-step.step.0 = search rules in
    let f = found in
    let t = tops c.args.subrange in
    let step = c.in_ok-step.step.0 in
    let within : step ≤ℤ top = lt_no refl (rw (to_z-of_z top-known, to_z-of_z step-known, c.top-top.ensures) at c.if-top-step.false) in
    let e = add_parts top (pos 1) in
    by-subrange [] c.args.subrange value (answered (record { law = Some (Scale c.args.subrange); step = step }))
    (reads-step (Scale c.args.subrange) working (pos 0) top value step
    (omega (ints, f.not_above, not_falling (pos 0) step (omega ints) f.from_first (omega (ints, f.to_last))))
    (f.above (top +ℤ pos 1) (omega (ints, within, e)) (omega (ints, t, e)))
    (record {
      from_first = f.from_first;
      to_last = within;
      not_above = f.not_above;
      above = λ later h b. f.above later h (omega (ints, b, t, e));
    }))
