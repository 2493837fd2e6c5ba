-- Decimal digits, one more or one less at a time.
use mathlib.Core.Path.{◌≡◌, refl, sym, ap, ◌∙◌}
use mathlib.Core.Bool.{Bool, true, false}
use mathlib.Core.List.{List, [], ◌∷◌, ◌++◌, append_assoc, append-nil}
use native.Mathlib.Decide.{dec_le}
use native.Mathlib.Nat.{pow-suc, one-le-pow}
use native.Mathlib.Omega.{arith}
use Prim.Native.Nat.{ℕ, zero, suc, ◌+◌, ◌-◌, ◌*◌, ◌/◌, ◌%◌, ◌^◌, ◌≤◌, ◌<◌}
use Prim.Native.Char.{code}
use lib.Dec.{ltb, lit<}
use lib.ListN.{length, take, drop, set, length-append, length-set, take-append-drop}
use borrow.Author.Tests.{lt-ltb, le-ltb, ltb-false}
use Rattle.whole.specs.Choice.{if◌then◌otherwise◌}
use Rattle.text.specs.Decimal.{digits_in, decimal}
use Rattle.text.specs.Writing.{over}
use Rattle.text.proofs.Overs.{over-before}

-- enough is enough
digits_same : (most most' n : ℕ) → n < most → n < most' → digits_in most n ≡ digits_in most' n
digits_same zero most' n h k = absurd (omega arith)
digits_same (suc most) zero n h k = absurd (omega arith)
digits_same (suc most) (suc most') n h k = by (ltb n 10) refl (digits_same most most' (n / 10))
  where
    by : (t : Bool) → ltb n 10 ≡ t → (n / 10 < most → n / 10 < most' → digits_in most (n / 10) ≡ digits_in most' (n / 10))
        → (if t then (code "0" + n) ∷ [] otherwise digits_in most (n / 10) ++ ((code "0" + n % 10) ∷ [])) ≡ (if t then (code "0" + n) ∷ [] otherwise digits_in most' (n / 10) ++ ((code "0" + n % 10) ∷ []))
    by true e again = refl
    by false e again = ap (λ (s : List ℕ). s ++ ((code "0" + n % 10) ∷ [])) (let m = ltb-false n 10 e in again (omega arith) (omega arith))

pub decimal-one : (n : ℕ) → n < 10 → decimal n ≡ (code "0" + n) ∷ []
unfolding decimal
decimal-one n h = rw (lt-ltb n 10 h)

pub decimal_more : (n : ℕ) → 10 ≤ n → decimal n ≡ decimal (n / 10) ++ ((code "0" + n % 10) ∷ [])
unfolding decimal
decimal_more n h = rw (le-ltb n 10 h) (ap (λ (s : List ℕ). s ++ ((code "0" + n % 10) ∷ [])) (digits_same n (suc (n / 10)) (n / 10) (omega arith) (omega arith)))

pub one-long : (n : ℕ) → n < 10 → length (decimal n) ≡ 1
one-long n h = ap length (decimal-one n h)

pub more_long : (n : ℕ) → 10 ≤ n → length (decimal n) ≡ length (decimal (n / 10)) + 1
more_long n h = ap length (decimal_more n h) ∙ length-append (decimal (n / 10)) ((code "0" + n % 10) ∷ [])

-- two digits more than a hundredth of it
two_longer : (n : ℕ) → 100 ≤ n → length (decimal n) ≡ length (decimal (n / 100)) + 2
two_longer n h =
    let tenth : 10 ≤ n / 10 = omega (arith, h) in
    let hundredth : n / 10 / 10 ≡ n / 100 = omega arith in
    omega (arith, more_long n (omega (arith, h)), more_long (n / 10) tenth, ap (λ (k : ℕ). length (decimal k)) hundredth)

-- seven digits more than a ten-millionth
pub seven_longer : (n : ℕ) → 10000000 ≤ n → length (decimal n) ≡ length (decimal (n / 10000000)) + 7
seven_longer n h =
    let four : length (decimal n) ≡ length (decimal (n / 100 / 100)) + 4 = omega (arith, two_longer n (omega arith), two_longer (n / 100) (omega arith)) in
    let three : length (decimal (n / 100 / 100)) ≡ length (decimal (n / 100 / 100 / 100 / 10)) + 3 =
    omega (arith, two_longer (n / 100 / 100) (omega arith), more_long (n / 100 / 100 / 100) (omega arith)) in
    let all : n / 100 / 100 / 100 / 10 ≡ n / 10000000 = omega arith in
    omega (arith, four, three, ap (λ (k : ℕ). length (decimal k)) all)

-- between two powers of ten
pub exactly : (k n : ℕ) → 10 ^ k ≤ n → n < 10 ^ suc k → length (decimal n) ≡ suc k
exactly zero n h l = one-long n l
exactly (suc k) n h l =
    let low : 10 ^ k * 10 ≤ n = rw (pow-suc 10 k) at h in
    let high : n < 10 ^ suc k * 10 = rw (pow-suc 10 (suc k)) at l in
    let one : 1 ≤ 10 ^ k = one-le-pow k 10 (lit< tt) in
    omega (arith, more_long n (omega (arith, low, one)), exactly k (n / 10) (omega (arith, low)) (omega (arith, high)))

pub some_digit : (n : ℕ) → 1 ≤ length (decimal n)
some_digit n =
    elim (dec_le 10 n) [
      | yes h ↦ omega (arith, more_long n h)
      | no h ↦ omega (arith, one-long n (omega (arith, h)))
    ]

-- Digits are written from the last to the first: those of `rest` are still to be written, and a tail stands after them.
pub record Writing (out₀ : List ℕ) (at n : ℕ) (out : List ℕ) (rest i : ℕ) : Type 0 where
  pub tail : List ℕ
  pub digits : decimal n ≡ decimal rest ++ tail
  pub offset : i ≡ at + length (decimal rest)
  pub bytes : out ≡ take i out₀ ++ tail ++ drop (at + length (decimal n)) out₀
  pub same : length out ≡ length out₀
  pub within : i ≤ length out₀

module _ {out₀ : List ℕ} {at n : ℕ} {out : List ℕ} {rest i : ℕ} (w : Writing out₀ at n out rest i) where
  pub write-more : 10 ≤ rest → Writing out₀ at n (set out (i - 1) (code "0" + rest % 10)) (rest / 10) (i - 1)
  write-more h =
      let l = more_long rest h in
      let i-is : i ≡ suc (i - 1) = omega (arith, w.offset, some_digit rest) in
      record {
        tail = (code "0" + rest % 10) ∷ w.tail;
        digits = w.digits ∙ ap (λ (s : List ℕ). s ++ w.tail) (decimal_more rest h) ∙ append_assoc (decimal (rest / 10)) ((code "0" + rest % 10) ∷ []) w.tail;
        offset = omega (arith, w.offset, l);
        bytes =
            ap (λ (s : List ℕ). set s (i - 1) (code "0" + rest % 10)) (w.bytes ∙ ap (λ (k : ℕ). take k out₀ ++ w.tail ++ drop (at + length (decimal n)) out₀) i-is)
            ∙ over-before out₀ w.tail (drop (at + length (decimal n)) out₀) (i - 1) (code "0" + rest % 10) (omega (arith, w.within, i-is));
        same = length-set out (i - 1) (code "0" + rest % 10) ∙ w.same;
        within = omega (arith, w.within);
      }

  pub write-last : rest < 10 → set out at (code "0" + rest) ≡ over out₀ at (decimal n)
  write-last h =
      let i-is : i ≡ suc at = omega (arith, w.offset, one-long rest h) in
      let n-is : decimal n ≡ (code "0" + rest) ∷ w.tail = w.digits ∙ ap (λ (s : List ℕ). s ++ w.tail) (decimal-one rest h) in
      ap (λ (s : List ℕ). set s at (code "0" + rest)) (w.bytes ∙ ap (λ (k : ℕ). take k out₀ ++ w.tail ++ drop (at + length (decimal n)) out₀) i-is)
      ∙ over-before out₀ w.tail (drop (at + length (decimal n)) out₀) at (code "0" + rest) (omega (arith, w.within, i-is))
      ∙ ap (λ (s : List ℕ). take at out₀ ++ s ++ drop (at + length (decimal n)) out₀) (sym n-is)

pub write_start : (out : List ℕ) (at n : ℕ) → at + length (decimal n) ≤ length out → Writing out at n out n (at + length (decimal n))
write_start out at n h = record {
  tail = [];
  digits = sym (append-nil (decimal n));
  offset = refl;
  bytes =
      sym (ap (λ (s : List ℕ). s ++ drop (at + length (decimal n)) out) (append-nil (take (at + length (decimal n)) out)) ∙ take-append-drop (at + length (decimal n)) out);
  same = refl;
  within = h;
}

-- a number below a power of ten has no more digits than that
pub few_digits : (k n : ℕ) → n < 10 ^ suc k → length (decimal n) ≤ suc k
few_digits zero n h = omega (arith, one-long n h)
few_digits (suc k) n h =
    elim (dec_le 10 n) [
      | yes m ↦ omega (arith, more_long n m, few_digits k (n / 10) (less (rw (sym (pow-suc 10 (suc k))) h)))
      | no m ↦ omega (arith, one-long n (omega (arith, m)))
    ]
  where
    less : n < 10 ^ suc k * 10 → n / 10 < 10 ^ suc k
    less h = omega arith

pub word-digits : (n : ℕ) → n < 2 ^ 64 → length (decimal n) ≤ 20
word-digits n h = few_digits 19 n (omega (arith, h))
