-- How far Wr is from W less the exact deviation: three roundings with |x| up to 3.4 and two with z up to 1.03 lose less than 18 units.
use mathlib.Core.Path.{◌≡◌, refl, ◌∙◌}
use mathlib.Core.Bool.{Bool, true, false}
use mathlib.Core.List.{[], ◌∷◌}
use Prim.Native.Nat.{ℕ, ◌*◌, ◌<◌, ◌≤◌}
use native.Mathlib.Omega.{arith}
use lib.Signed.{◌<ℤ◌}
use lib.IntN.{ℤ, pos, nat_abs, pow, one as oneℤ, ◌+ℤ◌, ◌-ℤ◌, ◌*ℤ◌, *ℤ_comm, *ℤ-one, +ℤ_idl, +ℤ_assoc, zero-*ℤ}
use Rattle.whole.specs.Choice.{if◌then◌otherwise◌}
use Rattle.whole.proofs.Parts.{ints, one_part, abs_parts, add_parts, sub_parts, mul_parts}
use Rattle.whole.proofs.Ring.{*ℤ-assoc, *ℤ-distribˡ, *ℤ-subʳ}
use Rattle.exact.specs.Fraction.{integer, ◌+ᶠ◌, ◌*ᶠ◌, ◌^ᶠ◌}
use Rattle.exact.specs.Polynomial.{rounded}
use Rattle.exact.proofs.Fractions.{Is, is_itself, is_integer, is_scaled, is_add, is_sub, is_times, is_power, is-<, scaled}
use Rattle.exact.proofs.Loss.{loss, lost}
use Rattle.quantity.specs.Quantities.{one, largest_ratio}
use Rattle.law.specs.declared.subrange.Form.{Form}
use Rattle.deviation.specs.declared.places.Places.{Places}
use Rattle.deviation.specs.Limits.{fine, x, Limited}
use Rattle.deviation.specs.Working.{plain_deviation, has_d_term, z, d_term, deviation, Wr}
use Rattle.deviation.specs.Exact.{exact_ratio, exact_deviation, exact_wr}
use Rattle.deviation.specs.Promised.{rounding, Near}
use Rattle.deviation.proofs.Sized.{farthest, x_size, z-size}

-- ---- the exact deviation as a whole number over 10^27
abbrev pub cubed : ℕ
cubed = 1_000_000_000_000_000_000_000_000_000

abbrev squared : ℕ
squared = 1_000_000_000_000_000_000

move : (b p q : ℤ) → b *ℤ p *ℤ q ≡ p *ℤ (b *ℤ q)
move b p q = cc (*ℤ_comm b p, *ℤ-assoc p b q)

one_times : (n : ℤ) → oneℤ *ℤ n ≡ n
one_times n = *ℤ_comm oneℤ n ∙ *ℤ-one n

-- a n u² + b n² u + c n³, taken from c inward
inward : (a b c n u u² u³ : ℤ) → a *ℤ n *ℤ u² +ℤ b *ℤ pow n 2 *ℤ u +ℤ c *ℤ pow n 3 ≡ pos 0 *ℤ u³ +ℤ n *ℤ (a *ℤ u² +ℤ n *ℤ (b *ℤ u +ℤ n *ℤ c))
unfolding pow
inward a b c n u u² u³ =
    cc (
      one_times n,
      move a n u²,
      move b (n *ℤ n) u,
      *ℤ-assoc n n (b *ℤ u),
      *ℤ_comm c (n *ℤ n *ℤ n),
      *ℤ-assoc (n *ℤ n) n c,
      *ℤ-assoc n n (n *ℤ c),
      *ℤ-distribˡ n (b *ℤ u) (n *ℤ c),
      *ℤ-distribˡ n (n *ℤ (b *ℤ u)) (n *ℤ (n *ℤ c)),
      *ℤ-distribˡ n (a *ℤ u²) (n *ℤ (b *ℤ u +ℤ n *ℤ c)),
      +ℤ_assoc (n *ℤ (a *ℤ u²)) (n *ℤ (n *ℤ (b *ℤ u))) (n *ℤ (n *ℤ (n *ℤ c))),
      zero-*ℤ u³,
      +ℤ_idl (n *ℤ (a *ℤ u² +ℤ n *ℤ (b *ℤ u +ℤ n *ℤ c))),
    )

-- d n², likewise
inward₂ : (d n u u² : ℤ) → d *ℤ pow n 2 ≡ pos 0 *ℤ u² +ℤ n *ℤ (pos 0 *ℤ u +ℤ n *ℤ d)
unfolding pow
inward₂ d n u u² = cc (one_times n, *ℤ_comm d (n *ℤ n), *ℤ-assoc n n d, zero-*ℤ u², zero-*ℤ u, +ℤ_idl (n *ℤ d), +ℤ_idl (n *ℤ (n *ℤ d)))

module _ (form : Form) (k : Places) (w : ℕ) where
  plain_up : ℤ
  plain_up = scaled one (x w) (pos 0) (k.a ∷ k.b ∷ k.c ∷ [])

  silver_up : ℤ
  silver_up = scaled one (z k w) (pos 0) (pos 0 ∷ k.d ∷ [])

  silver_part : ℤ
  silver_part = if has_d_term form k w then silver_up *ℤ pos one otherwise pos 0

  is_plain : Is (integer k.a *ᶠ exact_ratio (x w) +ᶠ integer k.b *ᶠ exact_ratio (x w) ^ᶠ 2 +ᶠ integer k.c *ᶠ exact_ratio (x w) ^ᶠ 3) plain_up cubed
  unfolding plain_up scaled
  is_plain =
      let i = is_itself (exact_ratio (x w)) in
      let a = is_scaled squared (is_times k.a i) in
      let b = is_scaled one (is_times k.b (is_power i 2)) in
      let c = is_times k.c (is_power i 3) in
      rw (inward k.a k.b k.c (x w) (pos one) (pos squared) (pos cubed)) at (is_add (is_add a b) c)

  is-silver : Is (integer k.d *ᶠ exact_ratio (z k w) ^ᶠ 2) (silver_up *ℤ pos one) cubed
  unfolding silver_up scaled
  is-silver =
      is_scaled one (rw (inward₂ k.d (z k w) (pos one) (pos squared)) at (is_times k.d (is_power (is_itself (exact_ratio (z k w))) 2)))

  -- the exact deviation times 10^27
  pub scaled_deviation : ℤ
  scaled_deviation = plain_up +ℤ silver_part

  pub is-deviation : Is (exact_deviation form k w) scaled_deviation cubed
  unfolding exact_deviation silver_part scaled_deviation
  is-deviation = is_add is_plain (by (has_d_term form k w))
    where
      by : (t : Bool) → Is (if t then integer k.d *ᶠ exact_ratio (z k w) ^ᶠ 2 otherwise integer (pos 0)) (if t then silver_up *ℤ pos one otherwise pos 0) cubed
      by true = is-silver
      by false = is_integer (pos 0) cubed

  module _ (s : Limited form k) (h : w ≤ largest_ratio) where
    plain-lost : nat_abs (plain_deviation k (x w) *ℤ pos cubed -ℤ plain_up) ≤ 15_960_000_000_000_000_000_000_000_000
    unfolding plain_deviation plain_up loss
    plain-lost = omega (arith, lost one farthest (omega arith) (x w) (x_size form k s w h) (pos 0) (k.a ∷ k.b ∷ k.c ∷ []))

    silver-lost : nat_abs (d_term form k w *ℤ pos cubed -ℤ silver_part) ≤ 2_030_000_000_000_000_000_000_000_000
    unfolding d_term silver_part silver_up loss
    silver-lost = by (has_d_term form k w) refl
      where
        by : (t : Bool) → has_d_term form k w ≡ t → nat_abs ((if t then rounded one (z k w) (pos 0) (pos 0 ∷ k.d ∷ []) otherwise pos 0) *ℤ pos cubed -ℤ (if t then scaled one (z k w) (pos 0) (pos 0 ∷ k.d ∷ []) *ℤ pos one otherwise pos 0)) ≤ 2_030_000_000_000_000_000_000_000_000
        by true e =
            let q = rounded one (z k w) (pos 0) (pos 0 ∷ k.d ∷ []) in
            let y = scaled one (z k w) (pos 0) (pos 0 ∷ k.d ∷ []) in
            omega (
              arith,
              lost one 1_030_000_000 (omega arith) (z k w) (z-size form k s w h e) (pos 0) (pos 0 ∷ k.d ∷ []),
              abs_parts (q *ℤ pos squared -ℤ y),
              sub_parts (q *ℤ pos squared) y,
              mul_parts q (pos squared),
              mul_parts q (pos cubed),
              mul_parts y (pos one),
              sub_parts (q *ℤ pos cubed) (y *ℤ pos one),
              abs_parts (q *ℤ pos cubed -ℤ y *ℤ pos one),
              one_part (q *ℤ pos cubed -ℤ y *ℤ pos one),
            )
        by false e = omega arith

    pub deviation-lost : nat_abs (deviation form k w *ℤ pos cubed -ℤ scaled_deviation) < rounding * cubed
    unfolding deviation scaled_deviation
    deviation-lost =
        let p = plain_deviation k (x w) in
        let q = d_term form k w in
        let t = pos cubed in
        omega (
          arith,
          plain-lost,
          silver-lost,
          abs_parts (p *ℤ t -ℤ plain_up),
          abs_parts (q *ℤ t -ℤ silver_part),
          sub_parts (p *ℤ t) plain_up,
          sub_parts (q *ℤ t) silver_part,
          mul_parts p t,
          mul_parts q t,
          mul_parts (p +ℤ q) t,
          add_parts p q,
          add_parts plain_up silver_part,
          sub_parts ((p +ℤ q) *ℤ t) (plain_up +ℤ silver_part),
          abs_parts ((p +ℤ q) *ℤ t -ℤ (plain_up +ℤ silver_part)),
          one_part ((p +ℤ q) *ℤ t -ℤ (plain_up +ℤ silver_part)),
        )

-- ---- W less it
-- |d T - D| < n T, said of v - d and v T - D
beside : (v d D : ℤ) (n T : ℕ) → nat_abs (d *ℤ pos T -ℤ D) < n * T → (((v -ℤ d) *ℤ pos T) <ℤ (v *ℤ pos T -ℤ D +ℤ pos n *ℤ pos T)) × ((v *ℤ pos T -ℤ D) <ℤ ((v -ℤ d) *ℤ pos T +ℤ pos n *ℤ pos T))
beside v d D n T h =
    let r = *ℤ-subʳ v d (pos T) in
    let a = abs_parts (d *ℤ pos T -ℤ D) in
    let b = sub_parts (d *ℤ pos T) D in
    let m = sub_parts (v *ℤ pos T) (d *ℤ pos T) in
    let q = sub_parts (v *ℤ pos T) D in (
      omega (ints, h, r, a, b, m, q, add_parts (v *ℤ pos T -ℤ D) (pos n *ℤ pos T)),
      omega (ints, h, r, a, b, m, q, add_parts ((v -ℤ d) *ℤ pos T) (pos n *ℤ pos T)),
    )

pub is_wr : (form : Form) (k : Places) (w : ℕ) → Is (exact_wr form k w) (pos (fine * w) *ℤ pos cubed -ℤ scaled_deviation form k w) cubed
unfolding exact_wr
is_wr form k w = is_sub (is_integer (pos (fine * w)) cubed) (is-deviation form k w)

pub close : Near
unfolding Wr
close form k s w h =
    let b = beside (pos (fine * w)) (deviation form k w) (scaled_deviation form k w) rounding cubed (deviation-lost form k w s h) in
    record {
      over_by_less = is-< (is_integer (Wr form k w) cubed) (is_add (is_wr form k w) (is_integer (pos rounding) cubed)) (omega arith) b.0;
      under_by_less = is-< (is_wr form k w) (is_add (is_integer (Wr form k w) cubed) (is_integer (pos rounding) cubed)) (omega arith) b.1;
    }
