-- What is promised of the bench's lists besides what is promised of a list of every kind.
use Rattle.line.specs.Promised.{ListWidens}
use Rattle.bench.specs.Certificates.{resistances_up_to}
use Rattle.bench.specs.Tolerances.{tolerances_up_to}

-- Under wider limits of a resistance only those lines move that were refused by 1 or by 14. Lists of records of ratios and of steps have no resistance, and no such
-- limits.
abbrev pub ResistanceListWidens : Type 0
ResistanceListWidens = ListWidens resistances_up_to

abbrev pub ToleranceListWidens : Type 0
ToleranceListWidens = ListWidens tolerances_up_to
