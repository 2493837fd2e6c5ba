-- The same bytes, looked at one after the other.
use mathlib.Core.Path.{◌≡◌, refl, ap}
use mathlib.Core.Bool.{Bool, true, false, ◌&&◌}
use mathlib.Core.List.{List, [], ◌∷◌}
use Prim.Native.Nat.{ℕ, suc, ◌+◌, ◌≤◌, ◌<◌}
use native.Mathlib.Numerals.{add-one}
use lib.Dec.{eqb}
use lib.ListN.{length, get_or, drop, drop_of_length-le}
use lib.Seq.{drop-cons}
use borrow.Author.Tests.{eq-eqb, ne_eqb}
use Rattle.std.specs.Str.{bytes_eq}

-- bytes of two lengths are not the same
pub same_not : (s t : List ℕ) → (length s ≡ length t → ⊥) → bytes_eq s t ≡ false
same_not [] [] h = absurd (h refl)
same_not [] (b ∷ t) h = refl
same_not (a ∷ s) [] h = refl
same_not (a ∷ s) (b ∷ t) h = by (eqb a b) (same_not s t (λ e. h (ap suc e)))
  where
    by : (t : Bool) {u : Bool} → u ≡ false → (t && u) ≡ false
    by true e = e
    by false e = refl

module _ (a b : List ℕ) (i : ℕ) (h : i < length a) (k : i < length b) where
  pub same-on : get_or a i 0 ≡ get_or b i 0 → bytes_eq (drop i a) (drop i b) ≡ bytes_eq (drop (i + 1) a) (drop (i + 1) b)
  same-on e = rw (add-one, drop-cons a i 0, drop-cons b i 0, eq-eqb (get_or a i 0) (get_or b i 0) e)

  pub same-no : (get_or a i 0 ≡ get_or b i 0 → ⊥) → bytes_eq (drop i a) (drop i b) ≡ false
  same-no e = rw (drop-cons a i 0, drop-cons b i 0, ne_eqb (get_or a i 0) (get_or b i 0) e)

pub same_end : (a b : List ℕ) (i : ℕ) → length a ≤ i → length b ≤ i → bytes_eq (drop i a) (drop i b) ≡ true
same_end a b i h k = rw (drop_of_length-le a h, drop_of_length-le b k)
