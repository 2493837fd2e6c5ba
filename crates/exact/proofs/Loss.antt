-- How far a working value is from the exact one.
use mathlib.Core.Path.{◌≡◌, ap}
use mathlib.Core.List.{List, [], ◌∷◌}
use Prim.Native.Nat.{ℕ, zero, suc, ◌+◌, ◌-◌, ◌*◌, ◌<◌, ◌≤◌, ◌^◌}
use native.Mathlib.Nat.{mul-le-mul_right, pow-succ', pow-zero, one-le-pow}
use native.Mathlib.Omega.{arith}
use lib.ListN.{length}
use lib.IntN.{ℤ, pos, nat_abs, ◌+ℤ◌, ◌-ℤ◌, ◌*ℤ◌}
use Rattle.whole.specs.Floor.{floor}
use Rattle.whole.proofs.Parts.{up, dn, ints, one_part, abs_parts, add_parts, sub_parts, mul_parts}
use Rattle.whole.proofs.Size.{abs_product}
use Rattle.whole.proofs.Rounding.{floor_parts}
use Rattle.exact.specs.Fraction.{Within}
use Rattle.exact.specs.Polynomial.{rounded, exactly}
use Rattle.exact.proofs.Fractions.{scaled, is_itself, is_integer, is_add, is-<, is_exactly}

-- One turn, with the values times P so far: where |n| is at most R, a distance B becomes B R and less than one unit's worth, unit P, more.
module _ (unit R : ℕ) (u : 0 < unit) (n w e c : ℤ) (P B : ℕ) (b : nat_abs n ≤ R) (h : nat_abs (w *ℤ pos P -ℤ e) ≤ B) where
  d : ℤ
  d = w *ℤ pos P -ℤ e

  q : ℤ
  q = floor (w *ℤ n) unit

  -- unit P q is at most w n P, and less than unit P below it
  kept : (unit * up q * P + dn (w *ℤ n) * P ≤ up (w *ℤ n) * P + unit * dn q * P) × (up (w *ℤ n) * P + unit * dn q * P + P ≤ unit * up q * P + dn (w *ℤ n) * P + unit * P)
  unfolding q
  kept =
      let f = floor_parts (w *ℤ n) unit u in
      omega (arith, mul-le-mul_right P f.0, mul-le-mul_right P f.1)

  -- w P = d + e
  sum : up w * P + dn d + dn e ≡ dn w * P + up d + up e
  unfolding d
  sum = omega (arith, sub_parts (w *ℤ pos P) e, mul_parts w (pos P))

  multiplied : up (w *ℤ n) * P + (dn w * P * up n + up w * P * dn n) ≡ dn (w *ℤ n) * P + (up w * P * up n + dn w * P * dn n)
  multiplied = omega (arith, ap (λ (x : ℕ). x * P) (mul_parts w n))

  -- w n P = d n + n e
  spread-out : up (w *ℤ n) * P + dn (d *ℤ n) + dn (n *ℤ e) ≡ dn (w *ℤ n) * P + up (d *ℤ n) + up (n *ℤ e)
  spread-out = omega (arith, mul_parts n e, mul_parts d n, multiplied, ap (λ (x : ℕ). x * up n) sum, ap (λ (x : ℕ). x * dn n) sum)

  t : ℤ
  t = (q +ℤ c) *ℤ pos (unit * P) -ℤ (c *ℤ pos (unit * P) +ℤ n *ℤ e)

  -- t = unit P q - n e: the coefficient goes
  gone : up t + unit * dn q * P + up (n *ℤ e) ≡ dn t + unit * up q * P + dn (n *ℤ e)
  unfolding t
  gone =
      omega (
        arith,
        sub_parts ((q +ℤ c) *ℤ pos (unit * P)) (c *ℤ pos (unit * P) +ℤ n *ℤ e),
        mul_parts (q +ℤ c) (pos (unit * P)),
        mul_parts c (pos (unit * P)),
        add_parts (c *ℤ pos (unit * P)) (n *ℤ e),
        ap (λ (x : ℕ). x * (unit * P)) (add_parts q c),
      )

  turned : nat_abs t + P ≤ B * R + unit * P
  unfolding d
  turned = omega (arith, gone, kept, spread-out, abs_product d n B R h b, abs_parts (d *ℤ n), abs_parts t, one_part t)

-- the most that k turns lose, times unit ^ k
unfoldable pub loss : ℕ → ℕ → ℕ → ℕ
loss unit R zero = 0
loss unit R (suc k) = loss unit R k * R + (unit - 1) * unit ^ k

none_lost : (c : ℤ) → nat_abs (c *ℤ pos 1 -ℤ c) ≤ 0
none_lost c = omega (arith, mul_parts c (pos 1), sub_parts (c *ℤ pos 1) c, abs_parts (c *ℤ pos 1 -ℤ c), one_part (c *ℤ pos 1 -ℤ c))

less_one : (unit P : ℕ) → 0 < unit → (unit - 1) * P + P ≡ unit * P
less_one zero P h = absurd (omega arith)
less_one (suc m) P h =
    let e : suc m - 1 ≡ m = omega arith in
    rw e (omega arith)

module _ (unit R : ℕ) (u : 0 < unit) (n : ℤ) (b : nat_abs n ≤ R) where
  pub lost : (c : ℤ) (cs : List ℤ) → nat_abs (rounded unit n c cs *ℤ pos (unit ^ length cs) -ℤ scaled unit n c cs) ≤ loss unit R (length cs)
  unfolding rounded scaled loss t q
  lost c [] = rw pow-zero (none_lost c)
  lost c (c' ∷ cs) =
      let P = unit ^ length cs in
      rw pow-succ'
      (omega (arith, less_one unit P u, turned unit R u n (rounded unit n c' cs) (scaled unit n c' cs) c P (loss unit R (length cs)) b (lost c' cs)))

-- at |n| no larger than the unit, each turn loses one unit's worth less unit ^ k
pub loss_each : (unit : ℕ) → 0 < unit → (k : ℕ) → loss unit unit (suc k) + suc k * unit ^ k ≡ suc k * unit ^ suc k
unfolding loss
loss_each unit u zero = rw (pow-succ', pow-zero) (omega (arith, less_one unit 1 u))
loss_each unit u (suc k) =
    let P = unit ^ suc k in
    let l = loss_each unit u k in
    rw (pow-succ' unit (suc k))
    (omega (arith, less_one unit P u, ap (λ (x : ℕ). x * unit) l, ap (λ (x : ℕ). suc k * x) (pow-succ' unit k)))

-- so the value of a polynomial with k coefficients after the first, k not 0, lies less than k from the exact one
module _ (unit : ℕ) (u : 0 < unit) (n : ℤ) (b : nat_abs n ≤ unit) (c c' : ℤ) (cs : List ℤ) where
  P : ℕ
  P = unit ^ length (c' ∷ cs)

  close : nat_abs (rounded unit n c (c' ∷ cs) *ℤ pos P -ℤ scaled unit n c (c' ∷ cs)) < length (c' ∷ cs) * P
  unfolding P
  close = omega (arith, lost unit unit u n b c (c' ∷ cs), loss_each unit u (length cs), one-le-pow (length cs) unit u)

  power : 0 < P
  unfolding P
  power = one-le-pow (length (c' ∷ cs)) unit u

  pub near : Within (length (c' ∷ cs)) (rounded unit n c (c' ∷ cs)) (exactly (record { num = n; den = unit; positive = u }) c (c' ∷ cs))
  unfolding P
  near =
      let w = rounded unit n c (c' ∷ cs) in
      let e = scaled unit n c (c' ∷ cs) in
      let k = length (c' ∷ cs) in
      let s = sub_parts (w *ℤ pos P) e in
      let a = abs_parts (w *ℤ pos P -ℤ e) in
      let x = is_exactly (is_itself (record { num = n; den = unit; positive = u })) c (c' ∷ cs) in
      record {
        over_by_less = is-< (is_integer w P) (is_add x (is_integer (pos k) P)) power (omega (ints, close, s, a, add_parts e (pos (k * P))));
        under_by_less = is-< x (is_add (is_integer w P) (is_integer (pos k) P)) power (omega (ints, close, s, a, add_parts (w *ℤ pos P) (pos (k * P))));
      }
