-- The integers as a ring, and how its operations keep an order. Laws that `lib.IntN` has (associativity and commutativity of the sum, commutativity of
-- the product, 0 and 1) are cited from there.
use mathlib.Core.Path.{◌≡◌, ap}
use Prim.Native.Nat.{ℕ, suc, ◌+◌, ◌*◌, ◌<◌, ◌≤◌}
use native.Mathlib.Nat.{mul-le-mul_right, le_of_mul-le-mul_right, lt_of_mul-lt-mul_right}
use native.Mathlib.Decide.{dec_lt}
use lib.IntN.{ℤ, pos, neg_ℤ, ◌+ℤ◌, ◌-ℤ◌, ◌*ℤ◌, *ℤ_comm}
use lib.Signed.{◌≤ℤ◌, ◌<ℤ◌}
use Rattle.whole.proofs.Parts.{up, dn, ints, add_parts, sub_parts, neg_parts, mul_parts, le→parts, lt→parts}

pub *ℤ-distribˡ : (a b c : ℤ) → a *ℤ (b +ℤ c) ≡ a *ℤ b +ℤ a *ℤ c
*ℤ-distribˡ a b c =
    omega (
      ints,
      add_parts (a *ℤ b) (a *ℤ c),
      mul_parts a (b +ℤ c),
      mul_parts a b,
      mul_parts a c,
      ap (λ (x : ℕ). up a * x) (add_parts b c),
      ap (λ (x : ℕ). dn a * x) (add_parts b c),
    )

pub *ℤ-distribʳ : (a b c : ℤ) → (a +ℤ b) *ℤ c ≡ a *ℤ c +ℤ b *ℤ c
*ℤ-distribʳ a b c = cc (*ℤ_comm (a +ℤ b) c, *ℤ-distribˡ c a b, *ℤ_comm c a, *ℤ_comm c b)

pub *ℤ-subʳ : (a b c : ℤ) → (a -ℤ b) *ℤ c ≡ a *ℤ c -ℤ b *ℤ c
*ℤ-subʳ a b c =
    omega (
      ints,
      sub_parts (a *ℤ c) (b *ℤ c),
      mul_parts (a -ℤ b) c,
      mul_parts a c,
      mul_parts b c,
      ap (λ (x : ℕ). x * up c) (sub_parts a b),
      ap (λ (x : ℕ). x * dn c) (sub_parts a b),
    )

pub *ℤ-subˡ : (a b c : ℤ) → a *ℤ (b -ℤ c) ≡ a *ℤ b -ℤ a *ℤ c
*ℤ-subˡ a b c = cc (*ℤ_comm a (b -ℤ c), *ℤ-subʳ b c a, *ℤ_comm b a, *ℤ_comm c a)

pub *ℤ-assoc : (a b c : ℤ) → (a *ℤ b) *ℤ c ≡ a *ℤ (b *ℤ c)
*ℤ-assoc a b c =
    omega (
      ints,
      mul_parts a (b *ℤ c),
      mul_parts (a *ℤ b) c,
      ap (λ (x : ℕ). up a * x) (mul_parts b c),
      ap (λ (x : ℕ). dn a * x) (mul_parts b c),
      ap (λ (x : ℕ). up c * x) (mul_parts a b),
      ap (λ (x : ℕ). dn c * x) (mul_parts a b),
    )

-- two factors change places
pub *ℤ-swap : (a b c : ℤ) → a *ℤ b *ℤ c ≡ a *ℤ c *ℤ b
*ℤ-swap a b c = cc (*ℤ-assoc a b c, *ℤ-assoc a c b, *ℤ_comm b c)

pub *ℤ-cross : (a b c d : ℤ) → a *ℤ b *ℤ (c *ℤ d) ≡ a *ℤ c *ℤ (b *ℤ d)
*ℤ-cross a b c d = cc (*ℤ-assoc (a *ℤ b) c d, *ℤ-assoc (a *ℤ c) b d, *ℤ-swap a b c)

pub *ℤ-negʳ : (a b : ℤ) → a *ℤ neg_ℤ b ≡ neg_ℤ (a *ℤ b)
*ℤ-negʳ a b =
    omega (ints, mul_parts a (neg_ℤ b), mul_parts a b, neg_parts b, neg_parts (a *ℤ b), ap (λ (x : ℕ). up a * x) (neg_parts b).0, ap (λ (x : ℕ). up a * x) (neg_parts b).1, ap (λ (x : ℕ). dn a * x) (neg_parts b).0, ap (λ (x : ℕ). dn a * x) (neg_parts b).1)

pub *ℤ-negˡ : (a b : ℤ) → neg_ℤ a *ℤ b ≡ neg_ℤ (a *ℤ b)
*ℤ-negˡ a b = cc (*ℤ_comm (neg_ℤ a) b, *ℤ-negʳ b a, *ℤ_comm b a)

-- ---- orders
pub strictly : (a b : ℤ) → a ≤ℤ b → (b ≡ a → ⊥) → a <ℤ b
strictly a b h f = by (dec_lt (up a + dn b) (up b + dn a))
  where
    by : Dec (up a + dn b < up b + dn a) → a <ℤ b
    by (yes l) = omega ints
    by (no l) = absurd (f (omega ints))

pub +ℤ-mono : (a b c d : ℤ) → a ≤ℤ b → c ≤ℤ d → (a +ℤ c) ≤ℤ (b +ℤ d)
+ℤ-mono a b c d h k = omega (ints, add_parts a c, add_parts b d)

pub *ℤ-mono : (a b : ℤ) (k : ℕ) → a ≤ℤ b → (a *ℤ pos k) ≤ℤ (b *ℤ pos k)
*ℤ-mono a b k h = omega (ints, mul_parts a (pos k), mul_parts b (pos k), mul-le-mul_right k (le→parts h))

pub *ℤ-cancel-≤ : (a b : ℤ) (k : ℕ) → 0 < k → (a *ℤ pos k) ≤ℤ (b *ℤ pos k) → a ≤ℤ b
*ℤ-cancel-≤ a b k p h =
    let m : (up a + dn b) * k ≤ (up b + dn a) * k = omega (ints, mul_parts a (pos k), mul_parts b (pos k)) in
    let l : up a + dn b ≤ up b + dn a = le_of_mul-le-mul_right m p in
    omega ints

pub *ℤ-strict : (a b : ℤ) (k : ℕ) → 0 < k → a <ℤ b → (a *ℤ pos k) <ℤ (b *ℤ pos k)
*ℤ-strict a b k p h =
    let m : suc (up a + dn b) * k ≤ (up b + dn a) * k = mul-le-mul_right k (lt→parts h) in
    omega (ints, mul_parts a (pos k), mul_parts b (pos k), m)

pub *ℤ-cancel-< : (a b : ℤ) (k : ℕ) → (a *ℤ pos k) <ℤ (b *ℤ pos k) → a <ℤ b
*ℤ-cancel-< a b k h =
    let m : (up a + dn b) * k < (up b + dn a) * k = omega (ints, mul_parts a (pos k), mul_parts b (pos k)) in
    let l : up a + dn b < up b + dn a = lt_of_mul-lt-mul_right k m in
    omega ints
