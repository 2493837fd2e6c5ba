use Rattle.text.specs.Fields.{digit}
use Rattle.text.proofs.Spans.{stopped, filled}
use Rattle.text.proofs.Numbers.{figures-more, figures-fit, number_stopped, no_zero}
use lib.ListN.{get_or}
use native.Mathlib.Omega.{arith}
use mathlib.Core.Bool.{true, false}
use mathlib.Core.Path.{◌≡◌, refl, sym, ap, ◌∙◌}
use Rattle.text.proofs.number.number_to.Goals as goal

pub returns-then-not-is_digit : goal.returns-then-not-is_digit
returns-then-not-is_digit c =
    let s = c.args.s.now in
    let i = c.loop-i.i in
    let other : digit (get_or s i 0) ≡ false = ap digit (sym c.from-b.ensures) ∙ sym c.is_digit.ensures ∙ c.if-not-is_digit.true in
    c.ended-then-not-is_digit.ensures
    ∙ number_stopped c.loop-i.invariant (no_zero s i c.if-s-eq48.false) (stopped digit refl c.loop-i.invariant.span c.args.end (omega arith) (λ h. other))

pub overflow_mul-value : goal.overflow_mul-value
overflow_mul-value c =
    let figure : digit c.from-b.result ≡ true = sym c.is_digit.ensures ∙ c.if-not-is_digit.false in
    omega (arith, figures-fit c.loop-i.invariant (omega arith) c.from-b.result c.from-b.ensures figure (omega arith))

pub overflow_add-value : goal.overflow_add-value
overflow_add-value c =
    let figure : digit c.from-b.result ≡ true = sym c.is_digit.ensures ∙ c.if-not-is_digit.false in
    omega (arith, figures-fit c.loop-i.invariant (omega arith) c.from-b.result c.from-b.ensures figure (omega arith))

pub loop-i-preserved : goal.loop-i-preserved
loop-i-preserved c = figures-more c.loop-i.invariant (omega arith) c.from-b.result c.from-b.ensures (sym c.is_digit.ensures ∙ c.if-not-is_digit.false)

pub returns : goal.returns
returns c =
    let s = c.args.s.now in
    let all : c.loop-i.i ≡ c.args.end = omega arith in
    let figures = rw all at c.loop-i.invariant in
    c.ended-2.ensures ∙ number_stopped figures (no_zero s c.args.end c.if-s-eq48.false) (filled digit refl figures.span)
