-- The exact ratio in whole numbers is the standard's formula.
use mathlib.Core.Path.{◌≡◌, ap}
use mathlib.Core.Bool.{Bool, true, false}
use Prim.Native.Nat.{◌^◌}
use lib.IntN.{ℤ, pos, pow, one, ◌+ℤ◌, ◌*ℤ◌, *ℤ_comm, *ℤ-one}
use lib.Signed.{lt_z}
use Rattle.whole.specs.Choice.{if◌then◌otherwise◌}
use Rattle.exact.specs.Fraction.{Fraction, decimal, integer, ◌+ᶠ◌, ◌-ᶠ◌, ◌*ᶠ◌, ◌^ᶠ◌}
use Rattle.exact.proofs.Fractions.{Is, is_itself, is_integer, is_scaled, is_add, is_sub, is_mul, is_power}
use Rattle.curve.specs.Curve.{A, B, C, standard, quadratic, quartic, exact}
use Rattle.curve.specs.Promised.{ExactIsStandard}

square : (n : ℤ) → pow n 2 ≡ n *ℤ n
unfolding pow one
square n = rw (*ℤ_comm (pos 1) n) (ap (λ (m : ℤ). m *ℤ n) (*ℤ-one n))

cube : (n : ℤ) → pow n 3 ≡ n *ℤ n *ℤ n
unfolding pow
cube n = ap (λ (m : ℤ). m *ℤ n) (square n)

module _ (n : ℤ) where
  abbrev t : Fraction
  t = decimal n 4

  abbrev warm : Fraction
  warm = integer (pos 1) +ᶠ A *ᶠ t +ᶠ B *ᶠ t ^ᶠ 2

  abbrev more : Fraction
  more = C *ᶠ (t -ᶠ integer (pos 100)) *ᶠ t ^ᶠ 3

  is-quadratic : Is warm (quadratic n) (10 ^ 31)
  unfolding quadratic
  is-quadratic =
      let a = is_scaled (10 ^ 20) (is_mul (is_itself A) (is_itself t)) in
      let b = is_scaled (10 ^ 13) (is_mul (is_itself B) (is_power (is_itself t) 2)) in
      is_add (is_add (is_integer (pos 1) (10 ^ 31)) a) (rw (square n) at b)

  is-quartic : Is more (quartic n) (10 ^ 31)
  unfolding quartic
  is-quartic =
      let d = is_sub (is_itself t) (is_integer (pos 100) (10 ^ 4)) in
      rw (cube n) at (is_mul (is_mul (is_itself C) d) (is_power (is_itself t) 3))

  is-either : (cold : Bool) → Is (if cold then warm +ᶠ more otherwise warm) (if cold then quadratic n +ℤ quartic n otherwise quadratic n) (10 ^ 31)
  is-either true = is_add is-quadratic is-quartic
  is-either false = is-quadratic

pub is_standard : ExactIsStandard
unfolding standard exact
is_standard n = (is-either n (lt_z n (pos 0))).same
