-- Forward, from a step to its ratio.
use Rattle.std.specs.Prelude.{[], ℕ, ◌<◌, ◌≤◌, ℤ, ◌≤ℤ◌, ◌<ℤ◌}
use Rattle.quantity.specs.Quantities.{largest_ratio}
use Rattle.quantity.specs.Outcomes.{Rule, if_named}
use Rattle.law.specs.declared.subrange.Form.{Form}
use Rattle.law.specs.declared.laws.Law.{Law}
use Rattle.law.specs.declared.laws.Law.TheVariants.{Curve, Scale}
use Rattle.law.specs.Subranges.{carried, law_named}
use Rattle.law.specs.Answers.{LawAndRatio, no_ratio, forward_by}
use Rattle.reference.specs.Reference.{working}
use Rattle.curve.specs.Ways as curve
use Rattle.deviation.specs.declared.places.Places.{Places}
use Rattle.deviation.specs.Working.{Wr}
use Rattle.certificate.specs.declared.soundness.Given.{Given}
use Rattle.certificate.specs.declared.soundness.Certificate.{Certificate}
use Rattle.certificate.specs.Certificate.{sound_tests, certificate_of}
use Rattle.reading.specs.Laws.{range_of}

-- w is the least ratio from 0 to 4.4 whose Wr is not under the working value at the step.
pub record Least (form : Form) (k : Places) (step : ℤ) (w : ℕ) : Type 0 where
  pub within : w ≤ largest_ratio
  pub enough : working step ≤ℤ Wr form k w
  pub least : (v : ℕ) → v < w → Wr form k v <ℤ working step

-- The ratio of a step: on the curve the exact ratio rounded down to 10^-9, on the scale the least one.
abbrev pub RatioAt : Law → Places → ℤ → ℕ → Type 0
RatioAt Curve k step w = curve.RatioAt step w
RatioAt (Scale s) k step w = Least (carried s).form k step w

-- By a law and places that keep their limits. 8 or 9: a step outside the subrange or the curve; else its ratio, with the law named.
abbrev pub forward_step : Law → Places → ℤ → Rule LawAndRatio
forward_step law k step = forward_by [] law (range_of law) (RatioAt law k step) step

-- By a certificate: 7, then 8 or 9.
abbrev pub forward_certificate : Certificate → ℤ → Rule LawAndRatio
forward_certificate k step = forward_by (sound_tests k) k.law (range_of k.law) (RatioAt k.law k.places step) step

-- By a certificate as it was given. 3: no law has its name; then 7, then 8 or 9.
abbrev pub forward_given : Given → ℤ → Rule LawAndRatio
forward_given k step = if_named no_ratio (law_named k.law.0) (λ law. forward_certificate (certificate_of law k) step)
