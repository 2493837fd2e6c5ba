-- A larger resistance allowed: of readings only what was refused by 1 moves.
use Rattle.quantity.specs.Quantities.{ratio_of}
use Rattle.quantity.proofs.Widening.{ratio-among, named_move}
use Rattle.law.specs.Subranges.{law_named}
use Rattle.law.specs.Ranges.{value_tests}
use Rattle.law.specs.Answers.{no_step}
use Rattle.certificate.specs.Certificate.{sound_tests, certificate_of}
use Rattle.reading.specs.Laws.{value_of, range_of}
use Rattle.reading.specs.Reading.{read_certificate_up_to, read_certificate}
use Rattle.reading.specs.Promised.{CertificateWidens, GivenWidens}
use Rattle.reading.proofs.Unique.{same_step}

pub certificate_widens : CertificateWidens
certificate_widens k r r0 =
    ratio-among (sound_tests k) (value_tests (range_of k.law) (value_of k.law k.places (ratio_of r r0))) no_step (read_certificate k r r0).Answer (same_step k r r0) r r0

pub given_widens : GivenWidens
given_widens k r r0 largest larger h =
    named_move no_step (law_named k.law.0) (λ law. read_certificate_up_to largest (certificate_of law k) r r0) (λ law. read_certificate_up_to larger (certificate_of law k) r r0)
    (λ law. certificate_widens (certificate_of law k) r r0 largest larger h)
