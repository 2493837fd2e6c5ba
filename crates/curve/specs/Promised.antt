-- What is promised of the curve besides its answers.
use Rattle.std.specs.Prelude.{◌≡◌, true, ◌&&◌, ℕ, ◌+◌, ◌*◌, ◌≤◌, ◌^◌, ℤ, pos, ◌+ℤ◌, ◌-ℤ◌, ◌*ℤ◌, ◌≤ℤ◌, ◌<ℤ◌, Some}
use Rattle.quantity.specs.Quantities.{is_reading, is_divisor, one, ratio_of}
use Rattle.quantity.specs.Outcomes.{Outcome, answered, Rule, Follows}
use Rattle.quantity.specs.Promised.{SetTo, Widens}
use Rattle.law.specs.declared.laws.Law.TheVariants.{Curve}
use Rattle.law.specs.Answers.{LawAndStep, LawAndRatio}
use Rattle.curve.specs.Curve.{standard, exact, per_unit, units, first, last, past_last}
use Rattle.curve.specs.Ways.{read_ratio, read_resistances_up_to, read_resistances, forward_step}
use Rattle.curve.specs.Tolerance.{LawAndResult, tolerance_test_up_to, tolerance_test}

-- The exact ratio in whole numbers is the standard's formula times 10^31, multiplied out.
abbrev pub ExactIsStandard : Type 0
ExactIsStandard = (n : ℤ) → (standard n).num *ℤ pos (10 ^ 31) ≡ exact n *ℤ pos (standard n).den

-- The exact ratio strictly increases with the step, from -200 °C to one step past 850 °C.
abbrev pub Increasing : Type 0
Increasing = (a b : ℤ) → first ≤ℤ a → a <ℤ b → b ≤ℤ past_last → exact a <ℤ exact b

-- It rises by more than 292 units of 10^-9 at each step.
abbrev pub Climbs : Type 0
Climbs = (step : ℤ) → first ≤ℤ step → step ≤ℤ last → (exact step +ℤ pos (292 * per_unit)) <ℤ exact (step +ℤ pos 1)

-- By a rule a step is read.
abbrev pub Reads : Rule LawAndStep → ℤ → Type 0
Reads rule step = Follows rule (answered (record { law = Some Curve; step = step }))

-- A step's ratio w read again, by a rule: it is that step where the exact ratio has no more than nine decimals, and the one below where rounding went under it.
pub record ReadBack (rule : Rule LawAndStep) (step : ℤ) (w : ℕ) : Type 0 where
  pub same : exact step ≡ units w → Reads rule step
  pub below : (exact step ≡ units w → ⊥) → Reads rule (step -ℤ pos 1)

abbrev pub ForwardReadsBack : Type 0
ForwardReadsBack =
    (step : ℤ) (o : Outcome LawAndRatio) → first ≤ℤ step → step ≤ℤ last → Follows (forward_step step) o
    → ReadBack (read_ratio o.answer.ratio) step o.answer.ratio

-- So with two resistances of which R is set by that ratio, where R0 is 1 Ω or more.
abbrev pub SetReadsBack : Type 0
SetReadsBack =
    (r r0 : ℕ) (step : ℤ) (o : Outcome LawAndRatio) → first ≤ℤ step → step ≤ℤ last → Follows (forward_step step) o
    → (is_reading r && is_divisor r0) ≡ true → one ≤ r0 → SetTo r r0 o.answer.ratio → ReadBack (read_resistances r r0) step o.answer.ratio

-- Two resistances within their limits are read as their ratio is, so what is said of a ratio is so of resistances that have it.
abbrev pub ReadsTheirRatio : Type 0
ReadsTheirRatio =
    (r r0 : ℕ) (o : Outcome LawAndStep) → (is_reading r && is_divisor r0) ≡ true
    → (Follows (read_ratio (ratio_of r r0)) o → Follows (read_resistances r r0) o) × (Follows (read_resistances r r0) o → Follows (read_ratio (ratio_of r r0)) o)

-- ---- where R/R0 lies
-- R/R0 is not under the exact ratio at a step, and is under that at the next, but for half a unit of 10^-9: by so much the ratio may have been rounded, either
-- way. Multiplied out by 2 R0, in units of 10^-31.
pub record Bracketed (r r0 : ℕ) (step : ℤ) : Type 0 where
  pub from_step : (exact step *ℤ pos (2 * r0)) ≤ℤ pos ((2 * (r * one) + r0) * per_unit)
  pub to_next : pos (2 * (r * one) * per_unit) <ℤ (exact (step +ℤ pos 1) *ℤ pos (2 * r0) +ℤ pos (r0 * per_unit))

-- So it is at the step of every answered reading, and at the step of the bath plus the error of every answered tolerance test.
abbrev pub ReadsBracketed : Type 0
ReadsBracketed = (r r0 : ℕ) (o : Outcome LawAndStep) → Follows (read_resistances r r0) o → o.code ≡ 0 → Bracketed r r0 o.answer.step

abbrev pub TestsBracketed : Type 0
TestsBracketed =
    (letter : ℕ) (bath : ℤ) (r r0 : ℕ) (o : Outcome LawAndResult) → Follows (tolerance_test letter bath r r0) o → o.code ≡ 0
    → Bracketed r r0 (bath +ℤ o.answer.error)

-- ---- a larger resistance allowed
-- Of readings and of tolerance tests, only what was refused by 1 moves.
abbrev pub CurveWidens : Type 0
CurveWidens = (r r0 : ℕ) → Widens (λ largest. read_resistances_up_to largest r r0)

abbrev pub ToleranceWidens : Type 0
ToleranceWidens = (letter : ℕ) (bath : ℤ) (r r0 : ℕ) → Widens (λ largest. tolerance_test_up_to largest letter bath r r0)
