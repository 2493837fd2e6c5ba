-- Working values that the checker computes: at the first step, and one step past the last.
use mathlib.Core.Path.{◌≡◌, refl}
use lib.IntN.{pos}
use Rattle.exact.specs.Polynomial.{rounded}
use Rattle.reference.specs.Reference.{working, past_last}

pub at_zero : working (pos 0) ≡ pos 99_996_011_000
unfolding working rounded
at_zero = refl

pub at_past_last : working past_last ≡ pos 428_642_081_165
unfolding working rounded
at_past_last = refl
