-- The deviation function of ITS-90 without rounding, in units of 10^-11.
use Rattle.std.specs.Prelude.{ℕ, ◌*◌, ℤ, pos}
use Rattle.whole.specs.Choice.{if◌then◌otherwise◌}
use Rattle.exact.specs.Fraction.{Fraction, decimal, integer, ◌+ᶠ◌, ◌-ᶠ◌, ◌*ᶠ◌, ◌^ᶠ◌}
use Rattle.law.specs.declared.subrange.Form.{Form}
use Rattle.deviation.specs.declared.places.Places.{Places}
use Rattle.deviation.specs.Limits.{fine, x}
use Rattle.deviation.specs.Working.{has_d_term, z}

-- A whole number of 10^-9.
abbrev pub exact_ratio : ℤ → Fraction
exact_ratio n = decimal n 9

-- a(W - 1) + b(W - 1)² + c(W - 1)³ + d(W - W(Al))², the last term for ag at W(Al) and above only (ITS-90 3.3.2).
unfoldable pub exact_deviation : Form → Places → ℕ → Fraction
exact_deviation form k w =
    integer k.a *ᶠ exact_ratio (x w) +ᶠ integer k.b *ᶠ exact_ratio (x w) ^ᶠ 2 +ᶠ integer k.c *ᶠ exact_ratio (x w) ^ᶠ 3
    +ᶠ (if has_d_term form k w then integer k.d *ᶠ exact_ratio (z k w) ^ᶠ 2 otherwise integer (pos 0))

-- W less the exact deviation.
unfoldable pub exact_wr : Form → Places → ℕ → Fraction
exact_wr form k w = integer (pos (fine * w)) -ᶠ exact_deviation form k w
