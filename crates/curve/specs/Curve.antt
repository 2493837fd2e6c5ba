-- The curve of IEC 60751: with t in °C, R/R0 = 1 + At + Bt², and below 0 °C also + C(t - 100)t³.
use Rattle.std.specs.Prelude.{ℕ, ◌*◌, ◌^◌, ℤ, pos, neg_ℤ, ◌+ℤ◌, ◌-ℤ◌, ◌*ℤ◌}
use Rattle.std.specs.Int.Signed.{lt_z}
use Rattle.whole.specs.Choice.{if◌then◌otherwise◌}
use Rattle.exact.specs.Fraction.{Fraction, decimal, integer, ◌+ᶠ◌, ◌-ᶠ◌, ◌*ᶠ◌, ◌^ᶠ◌}

-- A = 3.9083·10^-3
abbrev pub A : Fraction
A = decimal (pos 3_9083) 7

-- B = -5.775·10^-7
abbrev pub B : Fraction
B = decimal (neg_ℤ (pos 5_775)) 10

-- C = -4.183·10^-12
abbrev pub C : Fraction
C = decimal (neg_ℤ (pos 4_183)) 15

-- The formula as the standard has it, at the step n: t is n·10^-4 °C.
unfoldable pub standard : ℤ → Fraction
standard n =
    let t = decimal n 4 in
    if lt_z n (pos 0) then integer (pos 1) +ᶠ A *ᶠ t +ᶠ B *ᶠ t ^ᶠ 2 +ᶠ C *ᶠ (t -ᶠ integer (pos 100)) *ᶠ t ^ᶠ 3
    otherwise integer (pos 1) +ᶠ A *ᶠ t +ᶠ B *ᶠ t ^ᶠ 2

-- The same times 10^31, a whole number: At has 7 + 4 decimals and Bt² has 10 + 8, so they take the factors 10^20 and 10^13; C(t - 100)t³ has
-- 15 + 4 + 12 and takes none. 100 °C are 1,000,000 steps.
unfoldable pub quadratic : ℤ → ℤ
quadratic n = pos (10 ^ 31) +ℤ A.num *ℤ n *ℤ pos (10 ^ 20) +ℤ B.num *ℤ (n *ℤ n) *ℤ pos (10 ^ 13)

unfoldable pub quartic : ℤ → ℤ
quartic n = C.num *ℤ (n -ℤ pos 1_000_000) *ℤ (n *ℤ n *ℤ n)

-- The exact ratio R/R0 at a step, in units of 10^-31: nothing is rounded.
unfoldable pub exact : ℤ → ℤ
exact n = if lt_z n (pos 0) then quadratic n +ℤ quartic n otherwise quadratic n

-- How many of these make a unit of 10^-9.
abbrev pub per_unit : ℕ
per_unit = 10 ^ 22

-- A ratio of whole units of 10^-9, in the same units.
unfoldable pub units : ℕ → ℤ
units w = pos (w * per_unit)

-- The curve runs from -200 °C to 850 °C.
abbrev pub first : ℤ
first = neg_ℤ (pos 2_000_000)

abbrev pub last : ℤ
last = pos 8_500_000

abbrev pub past_last : ℤ
past_last = last +ℤ pos 1
