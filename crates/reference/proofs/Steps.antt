-- The steps from 0 to one past the last, seen from the middle.
use mathlib.Core.Path.{◌≡◌}
use Prim.Native.Nat.{◌≤◌}
use lib.IntN.{ℤ, pos, nat_abs, ◌+ℤ◌}
use lib.Signed.{◌≤ℤ◌}
use Rattle.whole.proofs.Parts.{ints, add_parts, sub_parts, abs_parts, one_part}
use Rattle.quantity.specs.Quantities.{kelvin_of}
use Rattle.reference.specs.Reference.{n, past_last}
use Rattle.reference.specs.Promised.{OfKelvin}

pub span : (step : ℤ) → pos 0 ≤ℤ step → step ≤ℤ past_last → nat_abs (n step) ≤ 4_810_000
span step p q = omega (ints, sub_parts step (pos 4_810_000), abs_parts (n step), one_part (n step))

pub next : (step : ℤ) → n (step +ℤ pos 1) ≡ n step +ℤ pos 1
next step =
    omega (ints, add_parts step (pos 1), sub_parts (step +ℤ pos 1) (pos 4_810_000), sub_parts step (pos 4_810_000), add_parts (n step) (pos 1))

pub of_kelvin : OfKelvin
of_kelvin step =
    omega (ints, sub_parts step (pos 4_810_000), add_parts step (pos 2_731_500), sub_parts (kelvin_of step) (pos 7_541_500))
