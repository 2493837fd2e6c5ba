-- What a field says where the bytes of its kind stop.
use mathlib.Core.Path.{◌≡◌, refl}
use mathlib.Core.Bool.{Bool, true, false, ◌||◌}
use mathlib.Core.List.{List, [], ◌∷◌}
use native.Mathlib.Omega.{arith}
use Prim.Native.Nat.{ℕ, ◌≤◌}
use Prim.Native.Char.{code}
use lib.Dec.{leb, eqb}
use borrow.Author.Tests.{leb-true}
use Rattle.std.specs.List.{list_all}
use Rattle.whole.specs.Choice.{if◌then◌otherwise◌}
use Rattle.whole.proofs.Choice.{and_true}
use lib.ListN.{length, take, drop, get_or}
use Rattle.whole.specs.Text.{name_of}
use Rattle.text.specs.Fields.{field, sized, capital, small, letter}
use Rattle.text.specs.Columns.{longest_name, is_name, is_letter, first_byte}
use Rattle.text.specs.Scanned.{closes_at, scanned_if, scanned_in, scanned_at}
use Rattle.text.proofs.Digits.{small_bounds}
use Rattle.text.proofs.Spans.{Ending, whole, none, and_false}

pub name_stopped : {s : List ℕ} {i : ℕ} (value : ℕ) → value ≡ name_of (take i s) → Ending small longest_name s i → scanned_if 0 (closes_at i s) value i s ≡ scanned_in 0 is_name name_of s
name_stopped value v (whole e f l k) = rw (e, k, l, f, v)
name_stopped value v (none e k) = rw (e, k)

-- ---- a letter
pub letter_other : (s : List ℕ) → 1 ≤ length s → letter (get_or s 0 0) ≡ false → scanned_if 0 false 0 0 s ≡ scanned_in 0 is_letter first_byte s
letter_other [] h k = absurd (omega arith)
letter_other (b ∷ s) h k = by (eqb b (code ","))
  where
    by : (t : Bool) → scanned_if 0 false 0 0 (b ∷ s)
        ≡ (let f = if t then [] otherwise b ∷ field s in scanned_if 0 (is_letter f) (first_byte f) (length f) (b ∷ s))
    by true = refl
    by false = rw (k, and_false (sized 1 1 (b ∷ field s)))

-- the byte of a letter, 0 where there is none
letter_bounds : (b : ℕ) → letter b ≡ true → b ≤ 122
letter_bounds b e = by (capital b) refl e
  where
    by : (t : Bool) → capital b ≡ t → (t || small b) ≡ true → b ≤ 122
    by true c e = let h : b ≤ 90 = leb-true b (code "Z") (and_true (leb (code "A") b) (leb b (code "Z")) c).1 in omega arith
    by false c e = small_bounds b e

first_small : (f : List ℕ) → is_letter f ≡ true → first_byte f ≤ 122
first_small [] e = omega arith
first_small (b ∷ f) e = letter_bounds b (and_true (letter b) (list_all letter f) (and_true (sized 1 1 (b ∷ f)) (list_all letter (b ∷ f)) e).1).0

pub letter-small : (line : List ℕ) (from : ℕ) → (scanned_at is_letter first_byte line from).value ≤ 122
letter-small line from = by (leb from (length line)) (is_letter (field (drop from line))) refl
  where
    by : (t u : Bool) → is_letter (field (drop from line)) ≡ u → (if t then (if u then first_byte (field (drop from line)) otherwise 0) otherwise 0) ≤ 122
    by true true e = first_small (field (drop from line)) e
    by true false e = omega arith
    by false u e = omega arith
