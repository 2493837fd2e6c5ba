-- What request 7 moved, in readings that the checker computes: each before, now, and one nanoohm less. The ratio was rounded down before, so what was read then is
-- what that ratio over 1 Ω reads.
use mathlib.Core.Path.{refl}
use Rattle.std.specs.Prelude.{Some}
use Prim.Native.Nat.{ℕ}
use lib.IntN.{ℤ, pos, neg_ℤ}
use Rattle.exact.specs.Polynomial.{rounded}
use Rattle.quantity.specs.Outcomes.{Outcome, answered, refused, Follows}
use Rattle.law.specs.declared.laws.Law.{Law}
use Rattle.law.specs.declared.laws.Law.TheVariants.{Curve, Scale}
use Rattle.law.specs.declared.subrange.Subrange.TheVariants.{Ga}
use Rattle.law.specs.Names.{spelled}
use Rattle.law.specs.Answers.{LawAndStep, no_step}
use Rattle.reference.specs.Reference.{working}
use Rattle.curve.specs.Curve.{exact, quadratic, quartic, units}
use Rattle.deviation.specs.declared.places.Places.{Places}
use Rattle.deviation.specs.Working.{plain_deviation, has_d_term, z, d_term, deviation, Wr}
use Rattle.deviation.specs.Limits.{x}
use Rattle.certificate.specs.declared.soundness.Given.{Given}
use Rattle.reading.specs.Reading.{read_given}
use Rattle.reading.proofs.Tests.{step-passes}

-- the certificates of zeros
abbrev pub zeros : ℕ → Places
zeros wal = record { a = pos 0; b = pos 0; c = pos 0; d = pos 0; wal = record { 0 = wal } }

abbrev pub given : ℕ → ℕ → Given
given law wal = record { law = record { 0 = law }; places = zeros wal }

abbrev pub at : Law → ℤ → Outcome LawAndStep
at law t = answered (record { law = Some law; step = t })

-- ---- R/R0 = 0.999 960 109 5 by ga: 8 before, now 0 °C
was_below : Follows (read_given (given (spelled "ga") 0) 999_960_109 1_000_000_000) (refused no_step 8)
unfolding working rounded Wr deviation plain_deviation d_term has_d_term z x
was_below = refl

is_first : Follows (read_given (given (spelled "ga") 0) 99_996_010_950 100_000_000_000) (at (Scale Ga) (pos 0))
unfolding working rounded Wr deviation plain_deviation d_term has_d_term z x
is_first = step-passes (Scale Ga) (zeros 0) 999_960_110 (pos 0) refl

still_below : Follows (read_given (given (spelled "ga") 0) 99_996_010_949 100_000_000_000) (refused no_step 8)
unfolding working rounded Wr deviation plain_deviation d_term has_d_term z x
still_below = refl

-- ---- R/R0 = 0.185 200 799 5 by the curve: 8 before, now -200 °C
was_under_range : Follows (read_given (given (spelled "curve") 0) 185_200_799 1_000_000_000) (refused no_step 8)
unfolding exact quadratic quartic units
was_under_range = refl

is_lowest : Follows (read_given (given (spelled "curve") 0) 18_520_079_950 100_000_000_000) (at Curve (neg_ℤ (pos 2_000_000)))
unfolding exact quadratic quartic units
is_lowest = step-passes Curve (zeros 0) 185_200_800 (neg_ℤ (pos 2_000_000)) refl

still_under_range : Follows (read_given (given (spelled "curve") 0) 18_520_079_949 100_000_000_000) (refused no_step 8)
unfolding exact quadratic quartic units
still_under_range = refl

-- ---- R/R0 = 3.904 811 542 5 by the curve: 850 °C before, now 9
was_last : Follows (read_given (given (spelled "curve") 0) 3_904_811_542 1_000_000_000) (at Curve (pos 8_500_000))
unfolding exact quadratic quartic units
was_last = step-passes Curve (zeros 0) 3_904_811_542 (pos 8_500_000) refl

is_past : Follows (read_given (given (spelled "curve") 0) 390_481_154_250 100_000_000_000) (refused no_step 9)
unfolding exact quadratic quartic units
is_past = refl

still_last : Follows (read_given (given (spelled "curve") 0) 390_481_154_249 100_000_000_000) (at Curve (pos 8_500_000))
unfolding exact quadratic quartic units
still_last = step-passes Curve (zeros 0) 3_904_811_542 (pos 8_500_000) refl

-- ---- R/R0 = 4.400 000 000 5: 9 before, now 2
was_past : Follows (read_given (given (spelled "curve") 0) 4_400_000_000 1_000_000_000) (refused no_step 9)
unfolding exact quadratic quartic units
was_past = refl

is-above : Follows (read_given (given (spelled "curve") 0) 440_000_000_050 100_000_000_000) (refused no_step 2)
is-above = refl

still_past : Follows (read_given (given (spelled "curve") 0) 440_000_000_049 100_000_000_000) (refused no_step 9)
unfolding exact quadratic quartic units
still_past = refl

-- ---- R/R0 = 1.385 054 999 5 by the curve: the step under 100 °C before, now 100 °C
was_under : Follows (read_given (given (spelled "curve") 0) 1_385_054_999 1_000_000_000) (at Curve (pos 999_999))
unfolding exact quadratic quartic units
was_under = step-passes Curve (zeros 0) 1_385_054_999 (pos 999_999) refl

is_reached : Follows (read_given (given (spelled "curve") 0) 138_505_499_950 100_000_000_000) (at Curve (pos 1_000_000))
unfolding exact quadratic quartic units
is_reached = step-passes Curve (zeros 0) 1_385_055_000 (pos 1_000_000) refl

still_under : Follows (read_given (given (spelled "curve") 0) 138_505_499_949 100_000_000_000) (at Curve (pos 999_999))
unfolding exact quadratic quartic units
still_under = step-passes Curve (zeros 0) 1_385_054_999 (pos 999_999) refl
