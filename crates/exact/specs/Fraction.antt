-- Exact values are fractions, and what is said of them is multiplied out into whole numbers.
use Rattle.std.specs.Prelude.{ℕ, zero, suc, ◌*◌, ◌^◌, ◌<◌, ℤ, pos, ◌+ℤ◌, ◌-ℤ◌, ◌*ℤ◌, ◌≤ℤ◌, ◌<ℤ◌}
use Rattle.std.proofs.Common.{mul-pos, arith}
use Rattle.std.proofs.Math.Nat.{one-le-pow}

-- num / den
pub record Fraction : Type 0 where
  pub num : ℤ
  pub den : ℕ
  pub positive : 0 < den

-- digits·10^-places, as a decimal is printed
abbrev pub decimal : ℤ → ℕ → Fraction
decimal digits places = record { num = digits; den = 10 ^ places; positive = one-le-pow places 10 (omega arith) }

-- z / 1
unfoldable pub integer : ℤ → Fraction
integer z = record { num = z; den = 1; positive = omega arith }

infixl 6 ◌+ᶠ◌
unfoldable pub ◌+ᶠ◌ : Fraction → Fraction → Fraction
p +ᶠ q = record { num = p.num *ℤ pos q.den +ℤ q.num *ℤ pos p.den; den = p.den * q.den; positive = mul-pos p.positive q.positive }

infixl 6 ◌-ᶠ◌
unfoldable pub ◌-ᶠ◌ : Fraction → Fraction → Fraction
p -ᶠ q = record { num = p.num *ℤ pos q.den -ℤ q.num *ℤ pos p.den; den = p.den * q.den; positive = mul-pos p.positive q.positive }

infixl 7 ◌*ᶠ◌
unfoldable pub ◌*ᶠ◌ : Fraction → Fraction → Fraction
p *ᶠ q = record { num = p.num *ℤ q.num; den = p.den * q.den; positive = mul-pos p.positive q.positive }

infixl 8 ◌^ᶠ◌
unfoldable pub ◌^ᶠ◌ : Fraction → ℕ → Fraction
x ^ᶠ zero = integer (pos 1)
x ^ᶠ (suc i) = x *ᶠ x ^ᶠ i

-- The orders, multiplied out.
infix 5 ◌<ᶠ◌
pub record ◌<ᶠ◌ (p q : Fraction) : Type 0 where
  pub out : (p.num *ℤ pos q.den) <ℤ (q.num *ℤ pos p.den)

infix 5 ◌≤ᶠ◌
pub record ◌≤ᶠ◌ (p q : Fraction) : Type 0 where
  pub out : (p.num *ℤ pos q.den) ≤ℤ (q.num *ℤ pos p.den)

-- The whole number w lies less than d from the fraction e.
pub record Within (d : ℕ) (w : ℤ) (e : Fraction) : Type 0 where
  pub over_by_less : integer w <ᶠ e +ᶠ integer (pos d)
  pub under_by_less : e <ᶠ integer w +ᶠ integer (pos d)
