-- A number written is read back, and a number read is written back.
use mathlib.Core.Path.{◌≡◌, refl, sym, ap, ◌∙◌}
use mathlib.Core.Bool.{Bool, true, false, false≢true, ◌&&◌, not}
use mathlib.Core.List.{List, [], ◌∷◌, ◌++◌, append_assoc, append-nil}
use native.Mathlib.Decide.{dec_le}
use native.Mathlib.Omega.{arith}
use Prim.Native.Nat.{ℕ, zero, suc, ◌+◌, ◌-◌, ◌*◌, ◌/◌, ◌%◌, ◌≤◌, ◌<◌}
use Prim.Native.Char.{code}
use lib.Dec.{eqb}
use lib.IntN.{pos, negsuc, ◌-ℤ◌}
use lib.ListN.{length, get_or, get_or-append}
use borrow.Author.Tests.{le-leb, eqb-true, eqb-false, ne_eqb, not-true}
use Rattle.std.specs.List.{list_all}
use Rattle.whole.specs.Choice.{if◌then◌otherwise◌}
use Rattle.whole.proofs.Choice.{and_true}
use Rattle.whole.proofs.Parts.{ints, sub_parts}
use Rattle.text.specs.Fields.{sized, digit}
use Rattle.text.specs.Numbers.{leading_zero, is_number, digits_after, value_of, is_signed, signed_of}
use Rattle.text.proofs.Digits.{digits_more, digit_bounds}
use Rattle.text.specs.Decimal.{decimal, signed_decimal}
use Rattle.text.specs.Promised.{NumberReadBack, SignedReadBack, NumberWrittenBack, SignedWrittenBack}
use Rattle.text.proofs.Decimals.{decimal-one, decimal_more, some_digit, few_digits}

-- ---- what the rule of a number says
number_parts : (most : ℕ) (s : List ℕ) → is_number most s ≡ true → (list_all digit s ≡ true) × (leading_zero s ≡ false)
number_parts most s e =
    let p = and_true (sized 1 most s && list_all digit s) (not (leading_zero s)) e in
    ((and_true (sized 1 most s) (list_all digit s) p.0).1, not-true (leading_zero s) p.1)

-- ---- what the digits of a number are
digit_of : (d : ℕ) → d < 10 → digit (code "0" + d) ≡ true
digit_of d h = rw (le-leb (code "0") (code "0" + d) (omega arith), le-leb (code "0" + d) (code "9") (omega arith))

every_more : (kind : ℕ → Bool) (x : List ℕ) (b : ℕ) → list_all kind x ≡ true → kind b ≡ true → list_all kind (x ++ (b ∷ [])) ≡ true
every_more kind [] b e k = rw k
every_more kind (a ∷ x) b e k = let p = and_true (kind a) (list_all kind x) e in rw p.0 (every_more kind x b p.1 k)

-- s is n in digits, and starts with a 0 only where n is 0
record Spelt (n : ℕ) (s : List ℕ) : Type 0 where
  digits : list_all digit s ≡ true
  value : value_of s ≡ n
  first : 1 ≤ n → get_or s 0 0 ≡ code "0" → ⊥

spelt_one : (n : ℕ) → n < 10 → Spelt n ((code "0" + n) ∷ [])
spelt_one n h = record {
  digits = rw (digit_of n h);
  value = omega arith;
  first = λ k e. omega arith;
}

spelt_more : (n : ℕ) (s : List ℕ) → 10 ≤ n → 1 ≤ length s → Spelt (n / 10) s → Spelt n (s ++ ((code "0" + n % 10) ∷ []))
spelt_more n s h k p = record {
  digits = every_more digit s (code "0" + n % 10) p.digits (digit_of (n % 10) (omega arith));
  value = omega (arith, digits_more 0 s (code "0" + n % 10), p.value);
  first = λ m e. p.first (omega arith) (sym (get_or-append s ((code "0" + n % 10) ∷ []) 0 0 k) ∙ e);
}

-- by induction on a bound of n, for n / 10 is less than n
spelt_below : (most n : ℕ) → n < most → Spelt n (decimal n)
spelt_below zero n h = absurd (omega arith)
spelt_below (suc most) n h =
    elim (dec_le 10 n) [
      | yes m ↦ rw (decimal_more n m) (spelt_more n (decimal (n / 10)) m (some_digit (n / 10)) (spelt_below most (n / 10) (omega arith)))
      | no m ↦ let l : n < 10 = omega (arith, m) in rw (decimal-one n l) (spelt_one n l)
    ]

spelt : (n : ℕ) → Spelt n (decimal n)
spelt n = spelt_below (suc n) n (omega arith)

no_leading_zero : (s : List ℕ) → (get_or s 0 0 ≡ code "0" → ⊥) → leading_zero s ≡ false
no_leading_zero [] h = refl
no_leading_zero (b ∷ []) h = refl
no_leading_zero (b ∷ c ∷ s) h = ne_eqb b (code "0") h

decimal_plain : (n : ℕ) → leading_zero (decimal n) ≡ false
decimal_plain n =
    elim (dec_le 10 n) [
      | yes m ↦ no_leading_zero (decimal n) ((spelt n).first (omega arith))
      | no m ↦ rw (decimal-one n (omega (arith, m)))
    ]

-- ---- a number written and read back
pub number_read_back : NumberReadBack
number_read_back zero n one h = absurd (omega arith)
number_read_back (suc most) n one h =
    (rw (le-leb 1 (length (decimal n)) (some_digit n), le-leb (length (decimal n)) (suc most) (few_digits most n h), (spelt n).digits, decimal_plain n), (spelt n).value)

-- a number starts with a digit, and so with no minus
signed_plain : (most : ℕ) (s : List ℕ) → is_number most s ≡ true → (is_signed most s ≡ true) × (signed_of s ≡ pos (value_of s))
signed_plain most [] e = absurd (false≢true e)
signed_plain most (b ∷ s) e =
    let d = digit_bounds b (and_true (digit b) (list_all digit s) (number_parts most (b ∷ s) e).0).0 in
    rw (ne_eqb b (code "-") (λ k. omega (arith, d, k))) (e, refl)

negated : (n : ℕ) → pos 0 -ℤ pos (suc n) ≡ negsuc n
negated n = omega (ints, sub_parts (pos 0) (pos (suc n)))

pub signed_read_back : SignedReadBack
signed_read_back most (pos n) one h =
    let p = number_read_back most n one h in
    let q = signed_plain most (decimal n) p.0 in
    (q.0, q.1 ∙ ap pos p.1)
signed_read_back most (negsuc n) one h = let p = number_read_back most (suc n) one h in rw (p.0, p.1, ne_eqb (suc n) 0 (λ k. omega (arith, k))) (refl, negated n)

-- ---- a number read and written back
-- digits after those of a number above 0
written_after : (n : ℕ) (x : List ℕ) → 1 ≤ n → list_all digit x ≡ true → decimal (digits_after n x) ≡ decimal n ++ x
written_after n [] h e = sym (append-nil (decimal n))
written_after n (b ∷ x) h e =
    let p = and_true (digit b) (list_all digit x) e in
    let d = digit_bounds b p.0 in
    let m = n * 10 + (b - code "0") in
    let q : m / 10 ≡ n = omega arith in
    let r : code "0" + m % 10 ≡ b = omega arith in
    let more : decimal m ≡ decimal n ++ (b ∷ []) = rw (decimal_more m (omega arith), q, r) in
    written_after m x (omega arith) p.1 ∙ ap (λ (s : List ℕ). s ++ x) more ∙ append_assoc (decimal n) (b ∷ []) x

written_one : (b : ℕ) → digit b ≡ true → decimal (value_of (b ∷ [])) ≡ b ∷ []
written_one b e =
    let d = digit_bounds b e in
    let k : code "0" + value_of (b ∷ []) ≡ b = omega arith in
    decimal-one (value_of (b ∷ [])) (omega arith) ∙ ap (λ (c : ℕ). c ∷ []) k

-- where there are more digits than one, the first is above 0
pub number_written_back : NumberWrittenBack
number_written_back most [] e = absurd (false≢true e)
number_written_back most (b ∷ []) e = written_one b (and_true (digit b) true (number_parts most (b ∷ []) e).0).0
number_written_back most (b ∷ c ∷ s) e =
    let p = number_parts most (b ∷ c ∷ s) e in
    let q = and_true (digit b) (list_all digit (c ∷ s)) p.0 in
    let d = digit_bounds b q.0 in
    let k : 1 ≤ value_of (b ∷ []) = omega (arith, eqb-false b (code "0") p.1) in
    written_after (value_of (b ∷ [])) (c ∷ s) k q.1 ∙ ap (λ (x : List ℕ). x ++ (c ∷ s)) (written_one b q.0)

written_minus : (n : ℕ) → (n ≡ 0 → ⊥) → signed_decimal (pos 0 -ℤ pos n) ≡ code "-" ∷ decimal n
written_minus zero h = absurd (h refl)
written_minus (suc n) h = ap signed_decimal (negated n)

pub signed_written_back : SignedWrittenBack
signed_written_back most [] e = absurd (false≢true e)
signed_written_back most (b ∷ s) e = by (eqb b (code "-")) refl e
  where
    by : (t : Bool) → eqb b (code "-") ≡ t → (if t then is_number most s && not (eqb (value_of s) 0) otherwise is_number most (b ∷ s)) ≡ true
        → signed_decimal (if t then pos 0 -ℤ pos (value_of s) otherwise pos (value_of (b ∷ s))) ≡ b ∷ s
    by true k e =
        let p = and_true (is_number most s) (not (eqb (value_of s) 0)) e in
        written_minus (value_of s) (eqb-false (value_of s) 0 (not-true (eqb (value_of s) 0) p.1))
        ∙ ap (λ (x : List ℕ). code "-" ∷ x) (number_written_back most s p.0)
        ∙ ap (λ (c : ℕ). c ∷ s) (sym (eqb-true b (code "-") k))
    by false k e = number_written_back most (b ∷ s) e
