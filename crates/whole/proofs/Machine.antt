-- What the proof of a function that works on signed numbers cites: a signed local is kept as bits, and a test on signed numbers is a Bool.
use mathlib.Core.Path.{◌≡◌, refl, sym, ◌∙◌, subst}
use mathlib.Core.Bool.{Bool, true, false, not}
use Prim.Native.Nat.{ℕ, ◌<◌, ◌≤◌, ◌^◌}
use native.Mathlib.Decide.{dec_lt}
use native.Mathlib.Omega.{arith}
use borrow.Author.Tests.{le-leb, lt-leb}
use lib.Dec.{T, leb}
use lib.IntN.{ℤ}
use lib.Signed.{mag, le_z, lt_z, ◌≤ℤ◌, ◌<ℤ◌, le_z_yes, lt_z_yes, lt_z_no, clash_ℤ}
use mir.Syntax.{w64}
use mir.Val.{to_z, of_z}
use mir.Facts.{to_z-of_z}

is_true : (t : Bool) → T t → t ≡ true
is_true true h = refl
is_true false h = absurd h

is_false : (t : Bool) → (T t → ⊥) → t ≡ false
is_false true h = absurd (h tt)
is_false false h = refl

-- a call's result, read back from its bits
pub back : (z : ℤ) → mag z < 2 ^ 63 → to_z w64 (of_z w64 z) ≡ z
back z h = to_z-of_z {w = w64} (record { sfits = h })

-- what a passed or failed test says
pub le_yes : {a b : ℤ} {t : Bool} → t ≡ le_z a b → t ≡ true → a ≤ℤ b
le_yes p q = le_z_yes (subst T (sym q ∙ p) tt)

not_le : (a b : ℤ) → le_z a b ≡ false → b <ℤ a
not_le a b e = by (lt_z b a) refl
  where
    by : (t : Bool) → t ≡ lt_z b a → b <ℤ a
    by true p = lt_z_yes (subst T p tt)
    by false p = absurd (subst T e (lt_z_no {a = b} {b = a} (subst (λ (t : Bool). T (not t)) p tt)).le)

pub le_no : {a b : ℤ} {t : Bool} → t ≡ le_z a b → t ≡ false → b <ℤ a
le_no {a} {b} p q = not_le a b (sym p ∙ q)

pub lt_yes : {a b : ℤ} {t : Bool} → t ≡ lt_z a b → t ≡ true → a <ℤ b
lt_yes p q = lt_z_yes (subst T (sym q ∙ p) tt)

pub lt_no : {a b : ℤ} {t : Bool} → t ≡ lt_z a b → t ≡ false → b ≤ℤ a
lt_no p q = lt_z_no (subst (λ (t : Bool). T (not t)) (sym q ∙ p) tt)

-- and what holds passes or fails a test
pub yes_le : {a b : ℤ} → a ≤ℤ b → le_z a b ≡ true
yes_le {a} {b} h = is_true (le_z a b) h.le

pub yes_lt : {a b : ℤ} → a <ℤ b → lt_z a b ≡ true
yes_lt {a} {b} h = is_true (lt_z a b) h.lt

pub no_le : {a b : ℤ} → b <ℤ a → le_z a b ≡ false
no_le {a} {b} h = is_false (le_z a b) (λ t. clash_ℤ h (le_z_yes t))

pub no_lt : {a b : ℤ} → b ≤ℤ a → lt_z a b ≡ false
no_lt {a} {b} h = is_false (lt_z a b) (λ t. clash_ℤ (lt_z_yes t) h)

-- a test on natural numbers that says the same
pub same_test : (m n : ℕ) (a b : ℤ) → (m ≤ n → a ≤ℤ b) → (n < m → b <ℤ a) → leb m n ≡ le_z a b
same_test m n a b f g = by (dec_lt n m)
  where
    by : Dec (n < m) → leb m n ≡ le_z a b
    by (yes h) = lt-leb m n h ∙ sym (no_le (g h))
    by (no h) =
        let l : m ≤ n = omega arith in
        le-leb m n l ∙ sym (yes_le (f l))
