-- From resistance to temperature, by the law that is asked for. R0 is the resistance at the water triple point by the scale, at 0 °C by the curve.
use Rattle.std.specs.Prelude.{[], ◌++◌, ℕ}
use Rattle.quantity.specs.Quantities.{largest_resistance, ratio_of}
use Rattle.quantity.specs.Outcomes.{Rule, if_named}
use Rattle.quantity.specs.Ratios.{ratio_tests_up_to}
use Rattle.law.specs.declared.laws.Law.{Law}
use Rattle.law.specs.Subranges.{law_named}
use Rattle.law.specs.Answers.{LawAndStep, no_step, read_by}
use Rattle.deviation.specs.declared.places.Places.{Places}
use Rattle.certificate.specs.declared.soundness.Given.{Given}
use Rattle.certificate.specs.declared.soundness.Certificate.{Certificate}
use Rattle.certificate.specs.Certificate.{sound_tests, certificate_of}
use Rattle.reading.specs.Laws.{value_of, range_of}

-- Of a ratio up to 4.4: 8, 9, else the step, with the law named.
abbrev pub read_ratio : Law → Places → ℕ → Rule LawAndStep
read_ratio law k w = read_by [] law (range_of law) (value_of law k w)

-- By a certificate: 7, then 1, 2, then 8, 9, else the step, with the certificate's law named.
abbrev pub read_certificate_up_to : ℕ → Certificate → ℕ → ℕ → Rule LawAndStep
read_certificate_up_to largest k r r0 =
    read_by (sound_tests k ++ ratio_tests_up_to largest r r0) k.law (range_of k.law) (value_of k.law k.places (ratio_of r r0))

abbrev pub read_certificate : Certificate → ℕ → ℕ → Rule LawAndStep
read_certificate = read_certificate_up_to largest_resistance

-- By a certificate as it was given. 3: no law has its name; then 7, 1, 2, 8, 9.
abbrev pub read_given_up_to : ℕ → Given → ℕ → ℕ → Rule LawAndStep
read_given_up_to largest k r r0 = if_named no_step (law_named k.law.0) (λ law. read_certificate_up_to largest (certificate_of law k) r r0)

abbrev pub read_given : Given → ℕ → ℕ → Rule LawAndStep
read_given = read_given_up_to largest_resistance
