-- A fraction is known by a whole number z and a natural number P of which it is z / P; sums, products and orders of fractions are those of such numbers.
use mathlib.Core.Path.{◌≡◌, refl}
use mathlib.Core.List.{List, [], ◌∷◌}
use Prim.Native.Nat.{ℕ, zero, suc, ◌*◌, ◌^◌, ◌<◌}
use native.Mathlib.Nat.{mul-pos, pow-zero, pow-succ', mul-one, one-mul}
use native.Mathlib.Omega.{arith}
use lib.ListN.{length}
use lib.IntN.{ℤ, pos, pow, one, ◌+ℤ◌, ◌-ℤ◌, ◌*ℤ◌, *ℤ_comm, *ℤ-one}
use lib.Signed.{◌≤ℤ◌, ◌<ℤ◌}
use Rattle.whole.proofs.Parts.{ints, mul_parts}
use Rattle.whole.proofs.Ring.{*ℤ-assoc, *ℤ-distribˡ, *ℤ-distribʳ, *ℤ-subʳ, *ℤ-swap, *ℤ-cross, *ℤ-mono, *ℤ-strict, *ℤ-cancel-≤, *ℤ-cancel-<}
use Rattle.exact.specs.Fraction.{Fraction, integer, ◌+ᶠ◌, ◌-ᶠ◌, ◌*ᶠ◌, ◌^ᶠ◌, ◌<ᶠ◌, ◌≤ᶠ◌}
use Rattle.exact.specs.Polynomial.{terms}

-- p is z / P
pub record Is (p : Fraction) (z : ℤ) (P : ℕ) : Type 0 where
  pub same : p.num *ℤ pos P ≡ z *ℤ pos p.den

pub is_itself : (p : Fraction) → Is p p.num p.den
is_itself p = record { same = refl }

pub is_integer : (z : ℤ) (P : ℕ) → Is (integer z) (z *ℤ pos P) P
unfolding integer
is_integer z P = record { same = omega (ints, mul_parts (z *ℤ pos P) (pos 1)) }

pub is_scaled : {p : Fraction} {z : ℤ} {P : ℕ} (Q : ℕ) → Is p z P → Is p (z *ℤ pos Q) (P * Q)
is_scaled {p} {z} {P} Q h = record { same = cc (h.same, *ℤ-assoc p.num (pos P) (pos Q), *ℤ-swap z (pos p.den) (pos Q)) }

-- a sum or a difference over one denominator, by the law that it is multiplied term by term
combined : (op : ℤ → ℤ → ℤ) → ((a b c : ℤ) → op a b *ℤ c ≡ op (a *ℤ c) (b *ℤ c)) → {p q : Fraction} {y z : ℤ} {P : ℕ} → Is p y P → Is q z P → op (p.num *ℤ pos q.den) (q.num *ℤ pos p.den) *ℤ pos P ≡ op y z *ℤ (pos p.den *ℤ pos q.den)
combined op each {p} {q} {y} {z} {P} h k =
    let a = pos p.den in
    let b = pos q.den in
    cc (
      each (p.num *ℤ b) (q.num *ℤ a) (pos P),
      *ℤ-swap p.num b (pos P),
      *ℤ-swap q.num a (pos P),
      h.same,
      k.same,
      *ℤ-assoc y a b,
      *ℤ-assoc z b a,
      *ℤ_comm b a,
      each y z (a *ℤ b),
    )

pub is_add : {p q : Fraction} {y z : ℤ} {P : ℕ} → Is p y P → Is q z P → Is (p +ᶠ q) (y +ℤ z) P
unfolding ◌+ᶠ◌
is_add h k = record { same = combined ◌+ℤ◌ *ℤ-distribʳ h k }

pub is_sub : {p q : Fraction} {y z : ℤ} {P : ℕ} → Is p y P → Is q z P → Is (p -ᶠ q) (y -ℤ z) P
unfolding ◌-ᶠ◌
is_sub h k = record { same = combined ◌-ℤ◌ *ℤ-subʳ h k }

pub is_mul : {p q : Fraction} {y z : ℤ} {P Q : ℕ} → Is p y P → Is q z Q → Is (p *ᶠ q) (y *ℤ z) (P * Q)
unfolding ◌*ᶠ◌
is_mul {p} {q} {y} {z} {P} {Q} h k =
    record { same = cc (*ℤ-cross p.num q.num (pos P) (pos Q), h.same, k.same, *ℤ-cross y (pos p.den) z (pos q.den)) }

-- ---- the order: that of the whole numbers over one denominator
module _ {p q : Fraction} {y z : ℤ} {P : ℕ} (h : Is p y P) (k : Is q z P) where
  left : p.num *ℤ pos q.den *ℤ pos P ≡ y *ℤ (pos p.den *ℤ pos q.den)
  left = cc (*ℤ-swap p.num (pos q.den) (pos P), h.same, *ℤ-assoc y (pos p.den) (pos q.den))

  right : q.num *ℤ pos p.den *ℤ pos P ≡ z *ℤ (pos p.den *ℤ pos q.den)
  right = cc (*ℤ-swap q.num (pos p.den) (pos P), k.same, *ℤ-assoc z (pos q.den) (pos p.den), *ℤ_comm (pos p.den) (pos q.den))

  pub is-< : 0 < P → y <ℤ z → p <ᶠ q
  is-< s o =
      record { out = *ℤ-cancel-< (p.num *ℤ pos q.den) (q.num *ℤ pos p.den) P (rw (left, right) (*ℤ-strict y z (p.den * q.den) (mul-pos p.positive q.positive) o)) }

  pub is-≤ : 0 < P → y ≤ℤ z → p ≤ᶠ q
  is-≤ s o =
      record { out = *ℤ-cancel-≤ (p.num *ℤ pos q.den) (q.num *ℤ pos p.den) P s (rw (left, right) (*ℤ-mono y z (p.den * q.den) o)) }

-- ---- a polynomial at x = n / unit is a whole number over a power of the unit
-- the exact value times unit ^ (number of the coefficients after the first)
unfoldable pub scaled : ℕ → ℤ → ℤ → List ℤ → ℤ
scaled unit n c [] = c
scaled unit n c (c' ∷ cs) = c *ℤ pos (unit ^ length (c' ∷ cs)) +ℤ n *ℤ scaled unit n c' cs

pub is_power : {x : Fraction} {n : ℤ} {unit : ℕ} → Is x n unit → (i : ℕ) → Is (x ^ᶠ i) (pow n i) (unit ^ i)
unfolding ◌^ᶠ◌ pow one
is_power h zero = rw pow-zero (is_integer (pos 1) 1)
is_power {n} h (suc i) = rw (pow-succ', *ℤ_comm (pow n i) n) (is_mul h (is_power h i))

pub is_times : {p : Fraction} {z : ℤ} {P : ℕ} (c : ℤ) → Is p z P → Is (integer c *ᶠ p) (c *ℤ z) P
unfolding ◌*ᶠ◌ integer
is_times {p} {z} {P} c h = record { same = rw one-mul (cc (*ℤ-assoc c p.num (pos P), h.same, *ℤ-assoc c z (pos p.den))) }

regroup : (c p m n e : ℤ) → c *ℤ p *ℤ m +ℤ p *ℤ n *ℤ e ≡ p *ℤ (c *ℤ m +ℤ n *ℤ e)
regroup c p m n e = rw (*ℤ-distribˡ p (c *ℤ m) (n *ℤ e), *ℤ_comm c p, *ℤ-assoc p c m, *ℤ-assoc p n e)

shift : (u a b : ℕ) → u * a * b ≡ a * (u * b)
shift u a b = omega arith

is_terms : {x : Fraction} {n : ℤ} {unit : ℕ} → Is x n unit → (i : ℕ) (c : ℤ) (cs : List ℤ) → Is (terms x i c cs) (pow n i *ℤ scaled unit n c cs) (unit ^ i * unit ^ length cs)
unfolding terms scaled pow
is_terms {n} h i c [] = rw (pow-zero, mul-one, *ℤ_comm (pow n i) c) (is_times c (is_power h i))
is_terms {x} {n} {unit} h i c (c' ∷ cs) =
    let a = is_scaled (unit ^ length (c' ∷ cs)) (is_times c (is_power h i)) in
    let b : Is (terms x (suc i) c' cs) (pow n i *ℤ n *ℤ scaled unit n c' cs) (unit ^ i * unit ^ length (c' ∷ cs)) =
    rw (pow-succ' unit i, shift unit (unit ^ i) (unit ^ length cs), ← pow-succ' unit (length cs)) at (is_terms h (suc i) c' cs) in
    rw (regroup c (pow n i) (pos (unit ^ length (c' ∷ cs))) n (scaled unit n c' cs)) at (is_add a b)

pub is_exactly : {x : Fraction} {n : ℤ} {unit : ℕ} → Is x n unit → (c : ℤ) (cs : List ℤ) → Is (terms x 0 c cs) (scaled unit n c cs) (unit ^ length cs)
unfolding pow one
is_exactly {n} {unit} h c cs =
    rw (pow-zero, one-mul, *ℤ_comm one (scaled unit n c cs), *ℤ-one (scaled unit n c cs)) at (is_terms h 0 c cs)
