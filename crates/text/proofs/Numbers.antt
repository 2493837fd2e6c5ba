-- What a field says that is to hold a number, digit by digit.
use mathlib.Core.Path.{◌≡◌, refl, sym, subst, ◌∙◌}
use mathlib.Core.Bool.{true, false}
use mathlib.Core.List.{List, [], ◌∷◌}
use native.Mathlib.Nat.{pow-le-pow_right}
use native.Mathlib.Omega.{arith}
use Prim.Native.Nat.{ℕ, zero, suc, ◌+◌, ◌-◌, ◌*◌, ◌^◌, ◌≤◌, ◌<◌}
use Prim.Native.Char.{code}
use lib.Dec.{leb, lit<}
use lib.ListN.{length, take, get_or}
use borrow.Author.Tests.{le-leb, lt-leb, ne_eqb}
use Rattle.text.specs.Fields.{field, digit}
use Rattle.text.specs.Numbers.{most_digits, leading_zero, is_number, value_of}
use Rattle.text.specs.Scanned.{closes_at, scanned_if, scanned_in}
use Rattle.text.proofs.Digits.{number_more, digit_bounds, pow_more}
use Rattle.text.proofs.Spans.{Span, span_start, span_more, Ending, whole, none, and_false}
use Rattle.text.proofs.Offsets.{field-length}

-- The first i bytes are digits, and this is their value.
pub record Figures (s : List ℕ) (value i : ℕ) : Type 0 where
  pub span : Span digit s i
  pub says : value ≡ value_of (take i s)
  pub small : value < 10 ^ i

pub figures_start : (s : List ℕ) → Figures s 0 0
figures_start s = record { span = span_start digit s; says = refl; small = omega arith }

-- one more, the byte b
module _ {s : List ℕ} {value i : ℕ} (f : Figures s value i) (more : i < length s) (b : ℕ) (is : b ≡ get_or s i 0) (figure : digit b ≡ true) where
  pub figures-more : Figures s (value * 10 + (b - code "0")) (i + 1)
  figures-more =
      let power : 10 ^ (i + 1) ≡ 10 ^ i * 10 = pow_more 10 i in
      let same : value * 10 + (b - code "0") ≡ value_of (take i s) * 10 + (get_or s i 0 - code "0") = cc (f.says, is) in
      record {
        span = span_more f.span more (subst (λ (b : ℕ). digit b ≡ true) is figure);
        says = same ∙ sym (number_more s i more);
        small = omega (arith, f.small, power, digit_bounds b figure);
      }

  pub figures-fit : i < most_digits → value * 10 + (b - code "0") < 10 ^ most_digits
  figures-fit room =
      let few : i + 1 ≤ most_digits = omega arith in
      let power : 10 ^ (i + 1) ≤ 10 ^ most_digits = pow-le-pow_right (lit< tt) few in
      omega (arith, figures-more.small, power)

-- ---- where they stop
pub number_stopped : {most : ℕ} {s : List ℕ} {value i : ℕ} → Figures s value i → leading_zero (take i s) ≡ false → Ending digit most s i
    → scanned_if 0 (closes_at i s) value i s ≡ scanned_in 0 (is_number most) value_of s
number_stopped f z (whole e w l k) = rw (e, k, l, w, f.says, z)
number_stopped f z (none e k) = rw (e, k)

-- no leading zero where the first byte is none
pub no_zero : (s : List ℕ) (i : ℕ) → (get_or s 0 0 ≡ code "0" → ⊥) → leading_zero (take i s) ≡ false
no_zero s zero h = refl
no_zero [] (suc i) h = refl
no_zero (b ∷ s) (suc zero) h = refl
no_zero (b ∷ []) (suc (suc i)) h = refl
no_zero (b ∷ d ∷ s) (suc (suc i)) h = ne_eqb b (code "0") h

-- no number has no digit
pub no_digits : (s : List ℕ) → scanned_if 0 false 0 0 s ≡ scanned_in 0 (is_number 0) value_of s
no_digits s = by (field s)
  where
    by : (f : List ℕ) → scanned_if 0 false 0 0 s ≡ scanned_if 0 (is_number 0 f) (value_of f) (length f) s
    by [] = refl
    by (b ∷ f) = rw (lt-leb (suc (length f)) 0 (omega arith), and_false (leb 1 (suc (length f))))

-- no field has more bytes than the line
pub number_short : (most : ℕ) (s : List ℕ) → length s ≤ most → scanned_in 0 (is_number (length s)) value_of s ≡ scanned_in 0 (is_number most) value_of s
number_short most s h =
    let fits = field-length s in
    rw (le-leb (length (field s)) (length s) fits, le-leb (length (field s)) most (omega arith))
