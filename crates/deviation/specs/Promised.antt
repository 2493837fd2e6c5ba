-- What holds of Wr, of places within their limits and ratios up to 4.4. The scope document does not name it: demand 3 rests on it.
use Rattle.std.specs.Prelude.{ℕ, ◌<◌, ◌≤◌, ◌<ℤ◌}
use Rattle.exact.specs.Fraction.{Within}
use Rattle.quantity.specs.Quantities.{largest_ratio}
use Rattle.law.specs.declared.subrange.Form.{Form}
use Rattle.deviation.specs.declared.places.Places.{Places}
use Rattle.deviation.specs.Limits.{Limited}
use Rattle.deviation.specs.Working.{Wr}
use Rattle.deviation.specs.Exact.{exact_wr}

-- It strictly increases with the ratio, across W(Al) too.
abbrev pub Increasing : Type 0
Increasing = (form : Form) (k : Places) → Limited form k → (v w : ℕ) → v < w → w ≤ largest_ratio → Wr form k v <ℤ Wr form k w

-- It lies less than 18 units from W less the exact deviation: so much the five roundings take at most.
abbrev pub rounding : ℕ
rounding = 18

abbrev pub Near : Type 0
Near = (form : Form) (k : Places) → Limited form k → (w : ℕ) → w ≤ largest_ratio → Within rounding (Wr form k w) (exact_wr form k w)
