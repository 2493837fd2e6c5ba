-- A list of one to four members is those at its places.
use mathlib.Core.Path.{◌≡◌, refl}
use mathlib.Core.List.{List, [], ◌∷◌}
use Rattle.std.proofs.Common.{◌≤◌, ◌<◌, length, get_or, arith}

module _ {A : Type 0} (d : A) where
  pub one : (xs : List A) → 1 ≤ length xs → length xs < 2 → xs ≡ (get_or xs 0 d ∷ [])
  one [] h k = absurd (omega arith)
  one (x ∷ []) h k = refl
  one (x ∷ y ∷ ys) h k = absurd (omega arith)

  pub two : (xs : List A) → 2 ≤ length xs → length xs < 3 → xs ≡ (get_or xs 0 d ∷ get_or xs 1 d ∷ [])
  two [] h k = absurd (omega arith)
  two (x ∷ []) h k = absurd (omega arith)
  two (x ∷ y ∷ []) h k = refl
  two (x ∷ y ∷ z ∷ zs) h k = absurd (omega arith)

  pub three : (xs : List A) → 3 ≤ length xs → length xs < 4 → xs ≡ (get_or xs 0 d ∷ get_or xs 1 d ∷ get_or xs 2 d ∷ [])
  three [] h k = absurd (omega arith)
  three (x ∷ []) h k = absurd (omega arith)
  three (x ∷ y ∷ []) h k = absurd (omega arith)
  three (x ∷ y ∷ z ∷ []) h k = refl
  three (x ∷ y ∷ z ∷ u ∷ us) h k = absurd (omega arith)

  pub four : (xs : List A) → 4 ≤ length xs → length xs < 5 → xs ≡ (get_or xs 0 d ∷ get_or xs 1 d ∷ get_or xs 2 d ∷ get_or xs 3 d ∷ [])
  four [] h k = absurd (omega arith)
  four (x ∷ []) h k = absurd (omega arith)
  four (x ∷ y ∷ []) h k = absurd (omega arith)
  four (x ∷ y ∷ z ∷ []) h k = absurd (omega arith)
  four (x ∷ y ∷ z ∷ u ∷ []) h k = refl
  four (x ∷ y ∷ z ∷ u ∷ v ∷ vs) h k = absurd (omega arith)
