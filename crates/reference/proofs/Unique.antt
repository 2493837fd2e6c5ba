-- A promise on the inverse allows one outcome only.
use mathlib.Core.Path.{◌≡◌, refl, ap}
use lib.IntN.{ℤ, pos}
use Rattle.std.specs.Prelude.{Result, Ok, Err}
use lib.Signed.{◌≤ℤ◌, ◌<ℤ◌}
use Rattle.whole.proofs.Parts.{ints}
use Rattle.whole.specs.Largest.{Largest}
use Rattle.whole.proofs.Largest.{largest-unique, largest-not-below, largest-not-past}
use Rattle.quantity.specs.declared.temperature.Celsius.{Celsius}
use Rattle.reference.specs.declared.inverse.Outside.{Outside}
use Rattle.reference.specs.declared.inverse.Outside.TheVariants.{Below, Past}
use Rattle.reference.specs.Reference.{working, last, past_last}
use Rattle.reference.specs.Inverse.{Inverted}
use Rattle.reference.proofs.Rising.{one_up, rises}

-- a largest step is neither below nor past the scale
not_below : (value a : ℤ) → Largest working (pos 0) last value a → value <ℤ working (pos 0) → ⊥
not_below = largest-not-below working (pos 0) last one_up

not_past : (value a : ℤ) → Largest working (pos 0) last value a → working past_last ≤ℤ value → ⊥
not_past = largest-not-past working (pos 0) last one_up

below_not_past : (value : ℤ) → value <ℤ working (pos 0) → working past_last ≤ℤ value → ⊥
below_not_past value h k = omega (ints, rises (pos 0) past_last (omega ints) (omega ints) (omega ints))

pub only_one : (value : ℤ) (x y : Result Celsius Outside) → Inverted value x → Inverted value y → x ≡ y
only_one value (Ok a) (Ok b) p q = ap (λ (z : ℤ). Ok (record { 0 = z })) (largest-unique working (pos 0) last value a.0 b.0 p q)
only_one value (Ok a) (Err Below) p q = absurd (not_below value a.0 p q)
only_one value (Ok a) (Err Past) p q = absurd (not_past value a.0 p q)
only_one value (Err Below) (Ok b) p q = absurd (not_below value b.0 q p)
only_one value (Err Below) (Err Below) p q = refl
only_one value (Err Below) (Err Past) p q = absurd (below_not_past value p q)
only_one value (Err Past) (Ok b) p q = absurd (not_past value b.0 q p)
only_one value (Err Past) (Err Below) p q = absurd (below_not_past value q p)
only_one value (Err Past) (Err Past) p q = refl
