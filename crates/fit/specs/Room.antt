-- What the functions that work the coefficients ask for, so that nothing passes 64 bits, and what the one for four cells promises where d might not fit.
use Rattle.std.specs.Prelude.{◌≡◌, true, false, List, [], ◌∷◌, ℕ, pos, neg_ℤ, ◌+ℤ◌, ◌≤ℤ◌}
use Rattle.quantity.specs.Quantities.{one, largest_ratio}
use Rattle.fit.specs.declared.Point.{Point}
use Rattle.deviation.specs.declared.places.Places.{Places}
use Rattle.deviation.specs.Limits.{keeps}
use Rattle.fit.specs.Fit.{beyond}

-- A cell that was accepted: W is from 0 to 4.4 and not 1, and the deviation keeps its limit.
pub record Kept (p : Point) : Type 0 where
  pub from_zero : neg_ℤ (pos one) ≤ℤ p.x
  pub to_largest : (p.x +ℤ pos one) ≤ℤ pos largest_ratio
  pub limit : keeps p.delta p.x ≡ true
  pub apart : p.x ≡ pos 0 → ⊥

-- Each cell lies that far above the one before it.
abbrev pub Spread : ℕ → List Point → Type 0
Spread gap [] = Unit {0}
Spread gap (p ∷ []) = Kept p
Spread gap (p ∷ p' ∷ ps) = Kept p × ((p.x +ℤ pos gap) ≤ℤ p'.x) × Spread gap (p' ∷ ps)

-- Three cells or more lie 0.66 apart, two 0.27.
abbrev pub wide : ℕ
wide = 660_000_000

abbrev pub narrow : ℕ
narrow = 270_000_000

abbrev pub least_gap : {A : Type 0} → List A → ℕ
least_gap [] = narrow
least_gap (p₁ ∷ []) = narrow
least_gap (p₁ ∷ p₂ ∷ []) = narrow
least_gap (p₁ ∷ p₂ ∷ p₃ ∷ ps) = wide

abbrev pub Roomy : List Point → Type 0
Roomy ps = Spread (least_gap ps) ps

-- Coefficients that stand for others: they are those, or both are beyond their limit. Where a, b, c are beyond it, d might not fit and is not worked.
pub record StandFor (k k' : Places) : Type 0 where
  pub verdict : beyond k ≡ beyond k'
  pub same : beyond k ≡ false → k ≡ k'
