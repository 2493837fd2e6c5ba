-- The number that bytes spell, one more byte at a time.
use mathlib.Core.Path.{◌≡◌, refl}
use mathlib.Core.Bool.{true}
use mathlib.Core.List.{List, [], ◌∷◌, ◌++◌}
use native.Mathlib.Nat.{pow-suc}
use native.Mathlib.Numerals.{add-one}
use Prim.Native.Nat.{ℕ, ◌+◌, ◌-◌, ◌*◌, ◌^◌, ◌≤◌, ◌<◌}
use Prim.Native.Char.{code}
use lib.Dec.{leb}
use lib.ListN.{length, take, get_or}
use lib.Seq.{take-suc}
use borrow.Author.Tests.{leb-true}
use Rattle.whole.proofs.Choice.{and_true}
use Rattle.whole.specs.Text.{after, name_of}
use Rattle.text.specs.Fields.{digit, small}
use Rattle.text.specs.Numbers.{digits_after, value_of}

after_more : (n : ℕ) (x : List ℕ) (b : ℕ) → after n (x ++ (b ∷ [])) ≡ after n x * 256 + b
after_more n [] b = refl
after_more n (a ∷ x) b = after_more (n * 256 + a) x b

pub digits_more : (n : ℕ) (x : List ℕ) (b : ℕ) → digits_after n (x ++ (b ∷ [])) ≡ digits_after n x * 10 + (b - code "0")
digits_more n [] b = refl
digits_more n (a ∷ x) b = digits_more (n * 10 + (a - code "0")) x b

module _ (s : List ℕ) (i : ℕ) (h : i < length s) where
  pub name-more : name_of (take (i + 1) s) ≡ name_of (take i s) * 256 + get_or s i 0
  name-more = rw (add-one, take-suc s i 0 h) (after_more 0 (take i s) (get_or s i 0))

  pub number_more : value_of (take (i + 1) s) ≡ value_of (take i s) * 10 + (get_or s i 0 - code "0")
  number_more = rw (add-one, take-suc s i 0 h) (digits_more 0 (take i s) (get_or s i 0))

pub small_bounds : (b : ℕ) → small b ≡ true → b ≤ 122
small_bounds b e = leb-true b (code "z") (and_true (leb (code "a") b) (leb b (code "z")) e).1

pub digit_bounds : (b : ℕ) → digit b ≡ true → (48 ≤ b) × (b ≤ 57)
digit_bounds b e =
    let p = and_true (leb (code "0") b) (leb b (code "9")) e in
    (leb-true (code "0") b p.0, leb-true b (code "9") p.1)

pub pow_more : (base i : ℕ) → base ^ (i + 1) ≡ base ^ i * base
pow_more base i = rw add-one (pow-suc base i)
