-- The reference function of ITS-90, eq. (10a): Wr = sum of Ci x^i, x = (T/K - 754.15)/481. In units of 10^-11, at a Celsius count.
use Rattle.std.specs.Prelude.{List, [], ◌∷◌, ℕ, ℤ, pos, neg_ℤ, ◌+ℤ◌, ◌-ℤ◌}
use Rattle.std.proofs.Common.{arith}
use Rattle.exact.specs.Fraction.{Fraction}
use Rattle.exact.specs.Polynomial.{rounded, exactly}

-- The printed coefficients, eight decimals and three zeros: C0 is 2.781 572 54.
abbrev pub C₀ : ℤ
C₀ = pos 2_781_572_54_000

-- C1 to C9
abbrev pub C₁₋₉ : List ℤ
C₁₋₉ =
    pos 1_646_509_16_000
    ∷ neg_ℤ (pos 0_137_143_90_000)
    ∷ neg_ℤ (pos 0_006_497_67_000)
    ∷ neg_ℤ (pos 0_002_344_44_000)
    ∷ pos 0_005_118_68_000
    ∷ pos 0_001_879_82_000
    ∷ neg_ℤ (pos 0_002_044_72_000)
    ∷ neg_ℤ (pos 0_000_461_22_000)
    ∷ pos 0_000_457_24_000
    ∷ []

-- 481 °C, where x is 0; x is 1 as many steps above it.
abbrev pub middle : ℕ
middle = 4_810_000

-- n, the Celsius count less 4,810,000: x is n / 4,810,000.
abbrev pub n : ℤ → ℤ
n step = step -ℤ pos middle

-- The working value: it starts from C9; nine times it is multiplied by n, divided by 4,810,000, rounded down, and the next lower C added.
unfoldable pub working : ℤ → ℤ
working step = rounded middle (n step) C₀ C₁₋₉

-- The exact sum of Ci x^i.
unfoldable pub exact : ℤ → Fraction
exact step = exactly (record { num = n step; den = middle; positive = omega arith }) C₀ C₁₋₉

-- The last step of the scale, 961.78 °C, and the one past it, up to which something is promised of the working value.
abbrev pub last : ℤ
last = pos 9_617_800

abbrev pub past_last : ℤ
past_last = last +ℤ pos 1
