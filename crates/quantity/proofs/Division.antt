-- Division by shift and subtract, and the nearest whole number to a quotient.
use mathlib.Core.Path.{◌≡◌, ◌∙◌, ap, subst}
use Prim.Native.Nat.{ℕ, suc, ◌+◌, ◌*◌, ◌-◌, ◌/◌, ◌<◌, ◌≤◌, ◌^◌}
use lib.Arith.{digits_div}
use lib.Pow.{pow-add}
use native.Mathlib.Decide.{dec_lt}
use native.Mathlib.Nat.{mul-le-mul, le_refl, pow-suc}
use native.Mathlib.Omega.{arith}

-- ---- shift and subtract
-- n is being divided by d, so many turns are done, and so many are still to come. As at school: the digits found so far, times the divisor in its place, and what
-- is left make n; and what is left is less than the divisor in its place. x holds what is left and, in the places below it, the digits, one for each turn done.
pub record Dividing (n d turns x more : ℕ) : Type 0 where
  pub quotient : ℕ
  pub left : ℕ
  pub done : ℕ
  pub turned : done + more ≡ turns
  pub whole : quotient * (d * 2 ^ more) + left ≡ n
  pub rest : left < d * 2 ^ more
  pub packed : x ≡ left * 2 ^ done + quotient
  pub room : quotient < 2 ^ done

-- the divisor that x is compared with is the one in its place, above the digits
at_place : (d turns done more : ℕ) → done + more ≡ turns → d * 2 ^ turns ≡ d * 2 ^ more * 2 ^ done
at_place d turns done more e =
    let split : d * 2 ^ (done + more) ≡ d * 2 ^ more * 2 ^ done = omega (arith, ap (λ (y : ℕ). d * y) (pow-add 2 done more)) in
    subst (λ (t : ℕ). d * 2 ^ t ≡ d * 2 ^ more * 2 ^ done) e split

-- x is below it, so that doubling x stays within 64 bits
pub small : (n d turns x more : ℕ) → Dividing n d turns x more → x < d * 2 ^ turns
small n d turns x more h =
    let place = at_place d turns h.done more h.turned in
    let most : (h.left + 1) * 2 ^ h.done ≤ d * 2 ^ more * 2 ^ h.done = mul-le-mul (omega (arith, h.rest)) (le_refl (2 ^ h.done)) in
    omega (arith, place, most, h.packed, h.room)

-- one turn
module _ (n d turns x more : ℕ) (h : Dividing n d turns x (suc more)) where
  part : ℕ
  part = d * 2 ^ more

  places : ℕ
  places = 2 ^ suc h.done

  divisor-is : d * 2 ^ turns ≡ part * places
  unfolding part places
  divisor-is = at_place d turns (suc h.done) more (omega (arith, h.turned))

  doubled : x * 2 ≡ h.left * places + h.quotient * 2
  unfolding places
  doubled = omega (arith, h.packed, ap (λ (y : ℕ). h.left * y) (pow-suc 2 h.done))

  below : h.quotient * 2 + 1 < places
  unfolding places
  below = omega (arith, h.room, pow-suc 2 h.done)

  halved : d * 2 ^ suc more ≡ 2 * part
  unfolding part
  halved = omega (arith, ap (λ (y : ℕ). d * y) (pow-suc 2 more))

  whole_by : h.quotient * (2 * part) + h.left ≡ n
  whole_by = subst (λ (y : ℕ). h.quotient * y + h.left ≡ n) halved h.whole

  enough : d * 2 ^ turns ≤ x * 2 → part ≤ h.left
  enough l = by (dec_lt h.left part)
    where
      by : Dec (h.left < part) → part ≤ h.left
      by (yes s) =
          let most : (h.left + 1) * places ≤ part * places = mul-le-mul (omega (arith, s)) (le_refl places) in
          absurd (omega (arith, most, l, divisor-is, doubled, below))
      by (no s) = omega arith

  short : x * 2 < d * 2 ^ turns → h.left < part
  short l = by (dec_lt h.left part)
    where
      by : Dec (h.left < part) → h.left < part
      by (yes s) = s
      by (no s) =
          let least : part * places ≤ h.left * places = mul-le-mul (omega (arith, s)) (le_refl places) in
          absurd (omega (arith, least, l, divisor-is, doubled))

  -- the divisor goes once more, and the digit is 1
  pub goes : d * 2 ^ turns ≤ x * 2 → 0 < d * 2 ^ turns → Dividing n d turns (x * 2 - (d * 2 ^ turns - 1)) more
  unfolding part places
  goes l above =
      let rest : ℕ = h.left - part in
      let again : rest + part ≡ h.left = omega (arith, enough l) in
      record {
        quotient = h.quotient * 2 + 1;
        left = rest;
        done = suc h.done;
        turned = omega (arith, h.turned);
        whole = omega (arith, whole_by, again);
        rest = omega (arith, halved, h.rest, again);
        packed = omega (arith, divisor-is, doubled, ap (λ (y : ℕ). y * places) again);
        room = below;
      }

  -- it does not go, and the digit is 0
  pub stays : x * 2 < d * 2 ^ turns → Dividing n d turns (x * 2) more
  unfolding part places
  stays l = record {
    quotient = h.quotient * 2;
    left = h.left;
    done = suc h.done;
    turned = omega (arith, h.turned);
    whole = omega (arith, whole_by);
    rest = short l;
    packed = doubled;
    room = omega (arith, below);
  }

-- what is left and the quotient, taken apart after the last turn
pub record Apart (n d turns x : ℕ) : Type 0 where
  pub both : x / 2 ^ turns * 2 ^ turns + (x - x / 2 ^ turns * 2 ^ turns) ≡ x
  pub whole : (x - x / 2 ^ turns * 2 ^ turns) * d + x / 2 ^ turns ≡ n
  pub rest : x / 2 ^ turns < d
  pub room : x - x / 2 ^ turns * 2 ^ turns < 2 ^ turns

pub apart : (n d turns x : ℕ) → Dividing n d turns x 0 → Apart n d turns x
apart n d turns x h =
    let done : h.done ≡ turns = omega (arith, h.turned) in
    let packed : x ≡ h.left * 2 ^ turns + h.quotient = rw done at h.packed in
    let room : h.quotient < 2 ^ turns = rw done at h.room in
    let left : x / 2 ^ turns ≡ h.left = rw packed (digits_div h.left room) in
    let under : x - x / 2 ^ turns * 2 ^ turns ≡ h.quotient = rw left (omega (arith, packed)) in
    record {
      both = rw left (omega (arith, packed));
      whole = rw (under, left) (omega (arith, h.whole));
      rest = rw left (omega (arith, h.rest));
      room = rw under room;
    }

-- ---- the nearest whole number to n / d, by the quotient and what is left
pub nearest_below : (n d q left : ℕ) → q * d + left ≡ n → 2 * left < d → (2 * n + d) / (2 * d) ≡ q
nearest_below n d q left whole h =
    let sum : 2 * n + d ≡ q * (2 * d) + (2 * left + d) = omega (arith, whole) in
    ap (λ (x : ℕ). x / (2 * d)) sum ∙ digits_div q (omega (arith, h))

pub nearest_above : (n d q left : ℕ) → q * d + left ≡ n → d ≤ 2 * left → left < d → (2 * n + d) / (2 * d) ≡ q + 1
nearest_above n d q left whole h l =
    let sum : 2 * n + d ≡ (q + 1) * (2 * d) + (2 * left - d) = omega (arith, whole) in
    ap (λ (x : ℕ). x / (2 * d)) sum ∙ digits_div (q + 1) (omega (arith, l))
