-- Numbers with a minus, and fields that start at an offset of the line.
use mathlib.Core.Path.{◌≡◌, refl, ap, ◌∙◌}
use mathlib.Core.Bool.{Bool, true, false, ◌&&◌}
use mathlib.Core.List.{List, [], ◌∷◌}
use native.Mathlib.Omega.{arith}
use native.Mathlib.Nat.{pow-suc, pow-le-pow_right, mul-le-mul_right, le_trans}
use Prim.Native.Nat.{ℕ, suc, ◌+◌, ◌-◌, ◌*◌, ◌^◌, ◌≤◌, ◌<◌}
use Prim.Native.Char.{code}
use lib.Dec.{leb, eqb, lit<}
use lib.IntN.{pos}
use lib.ListN.{length, take, drop, length-drop}
use lib.Seq.{take_all}
use borrow.Author.Tests.{lt-leb, leb-true}
use Rattle.std.specs.List.{list_all}
use Rattle.whole.specs.Choice.{if◌then◌otherwise◌}
use Rattle.whole.proofs.Choice.{and_true}
use Rattle.text.specs.Fields.{field, digit, sized}
use Rattle.text.specs.Numbers.{most_digits, is_number, digits_after, value_of}
use Rattle.text.specs.Scanned.{nowhere, next_of, next_at, scanned_if, scanned_in, scanned_at, signed_at}
use Rattle.text.proofs.Digits.{digit_bounds}

-- ---- how large
pub field-length : (s : List ℕ) → length (field s) ≤ length s
field-length [] = omega arith
field-length (b ∷ s) = by (eqb b (code ",")) (field-length s)
  where
    by : (t : Bool) → length (field s) ≤ length s → length (if t then [] otherwise b ∷ field s) ≤ suc (length s)
    by true h = omega arith
    by false h = omega arith

pub next_most : (rule : List ℕ → Bool) (s : List ℕ) → next_of rule s ≤ length s + 2
next_most rule s = by (rule (field s)) (field-length s)
  where
    by : (t : Bool) → length (field s) ≤ length s → (if t then length (field s) + 1 otherwise nowhere (length s)) ≤ length s + 2
    by true h = omega arith
    by false h = omega arith

turn_most : (n d p : ℕ) → d ≤ 9 → (n * 10 + d + 1) * p ≤ (n + 1) * (p * 10)
turn_most n d p h = let m : (n * 10 + d + 1) * p ≤ (n * 10 + 10) * p = mul-le-mul_right p (omega arith) in omega (arith, m)

digits_most : (n : ℕ) (x : List ℕ) → list_all digit x ≡ true → digits_after n x + 1 ≤ (n + 1) * 10 ^ length x
digits_most n [] h = omega arith
digits_most n (b ∷ x) h =
    let p = and_true (digit b) (list_all digit x) h in
    let d : b - code "0" ≤ 9 = omega (arith, digit_bounds b p.0) in
    rw (pow-suc 10 (length x)) (le_trans (digits_most (n * 10 + (b - code "0")) x p.1) (turn_most n (b - code "0") (10 ^ length x) d))

value_most : (most : ℕ) (f : List ℕ) → is_number most f ≡ true → most ≤ most_digits → value_of f < 10 ^ most_digits
value_most most f e few =
    let p = and_true (sized 1 most f && list_all digit f) _ e in
    let q = and_true (sized 1 most f) (list_all digit f) p.0 in
    let l = leb-true (length f) most (and_true (leb 1 (length f)) (leb (length f) most) q.0).1 in
    let m : 10 ^ length f ≤ 10 ^ most_digits = pow-le-pow_right (lit< tt) (le_trans l few) in
    omega (arith, digits_most 0 f q.1, m)

pub number_most : (most : ℕ) (s : List ℕ) → most ≤ most_digits → (scanned_in 0 (is_number most) value_of s).value < 10 ^ most_digits
number_most most s few = by (is_number most (field s)) refl
  where
    by : (t : Bool) → is_number most (field s) ≡ t → (if t then value_of (field s) otherwise 0) < 10 ^ most_digits
    by true e = value_most most (field s) e few
    by false e = omega arith

-- ---- an offset
-- the part of the line from an offset on
pub part_is : (line : List ℕ) (from : ℕ) → take (length line - from) (drop from line) ≡ drop from line
part_is line from = take_all (length line - from) (drop from line) (rw (length-drop from line) (omega arith))

-- what a step says of the part of the line from an offset on
module _ (line : List ℕ) (from : ℕ) (h : from ≤ length line) where
  -- no next field starts past the line by more than two
  pub next-within : (rule : List ℕ → Bool) (n : ℕ) → n ≡ next_of rule (take (length line - from) (drop from line)) → from + n ≤ length line + 2
  next-within rule n e = omega (arith, e ∙ ap (next_of rule) (part_is line from), next_most rule (drop from line), length-drop from line)

pub next_past : (rule : List ℕ → Bool) (line : List ℕ) (from : ℕ) → length line < from → nowhere (length line) ≡ next_at rule line from
next_past rule line from h = rw (lt-leb from (length line) h)

pub scanned_past : (rule : List ℕ → Bool) (value : List ℕ → ℕ) (line : List ℕ) (from : ℕ) → length line < from → scanned_if 0 false 0 0 line ≡ scanned_at rule value line from
scanned_past rule value line from h = rw (lt-leb from (length line) h)

pub signed_past : (most : ℕ) (line : List ℕ) (from : ℕ) → length line < from → scanned_if (pos 0) false (pos 0) 0 line ≡ signed_at most line from
signed_past most line from h = rw (lt-leb from (length line) h)
