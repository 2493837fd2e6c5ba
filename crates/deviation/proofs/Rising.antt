-- Wr rises with the ratio: by 75 to 125 units of 10^-11 from one ratio to the next, across W(Al) too.
use mathlib.Core.Path.{◌≡◌}
use mathlib.Core.List.{[], ◌∷◌}
use Prim.Native.Nat.{ℕ, zero, suc, ◌+◌, ◌*◌, ◌<◌, ◌≤◌}
use native.Mathlib.Decide.{dec_lt}
use native.Mathlib.Omega.{arith}
use lib.IntN.{pos, nat_abs, ◌+ℤ◌, ◌-ℤ◌}
use lib.Signed.{◌≤ℤ◌, ◌<ℤ◌}
use Rattle.whole.proofs.Parts.{up, dn, ints, one_part, abs_parts, add_parts, sub_parts}
use Rattle.exact.specs.Polynomial.{rounded}
use Rattle.exact.proofs.Sizes.{size, abs-rounded}
use Rattle.exact.proofs.Rise.{spread, apart}
use Rattle.quantity.specs.Quantities.{one, largest_ratio}
use Rattle.law.specs.declared.subrange.Form.{Form}
use Rattle.deviation.specs.declared.places.Places.{Places}
use Rattle.deviation.specs.Limits.{fine, x, Limited}
use Rattle.deviation.specs.Working.{plain_deviation, z, d_term, deviation, Wr}
use Rattle.deviation.specs.Promised.{Increasing}
use Rattle.deviation.proofs.Limits.{x_parts}
use Rattle.deviation.proofs.Sized.{farthest, Next, neither, starts, both, next, z_parts, abc, od, x_size, z-size}

x-next : (w : ℕ) → x (suc w) ≡ x w +ℤ pos 1
x-next w = omega (ints, x_parts w, x_parts (suc w), add_parts (x w) (pos 1))

z-next : (k : Places) (w : ℕ) → z k (suc w) ≡ z k w +ℤ pos 1
z-next k w = omega (ints, z_parts k w, z_parts k (suc w), add_parts (z k w) (pos 1))

module _ (form : Form) (k : Places) (s : Limited form k) (w : ℕ) (h : w < largest_ratio) where
  plain-near : nat_abs (plain_deviation k (x (suc w)) -ℤ plain_deviation k (x w)) ≤ 20
  unfolding plain_deviation spread size
  plain-near =
      let b : nat_abs (x w +ℤ pos 1) ≤ farthest = rw (x-next w) at (x_size form k s (suc w) (omega arith)) in
      rw (x-next w) (omega (arith, apart one farthest (omega arith) (x w) (x_size form k s w (omega arith)) b (pos 0) (abc form k s)))

  silver-near : nat_abs (d_term form k (suc w) -ℤ d_term form k w) ≤ 5
  unfolding d_term spread size
  silver-near = by (next form k w)
    where
      by : Next form k w → nat_abs (d_term form k (suc w) -ℤ d_term form k w) ≤ 5
      by (neither p q) = rw (p, q) (omega arith)
      by (starts p q e) =
          let o : nat_abs (z k (suc w)) ≤ 0 = omega (arith, e, z_parts k (suc w), abs_parts (z k (suc w)), one_part (z k (suc w))) in
          let v = rounded one (z k (suc w)) (pos 0) (pos 0 ∷ k.d ∷ []) in
          rw (p, q)
          (omega (
            arith,
            abs-rounded one 0 (omega arith) (z k (suc w)) o (pos 0) 0 (omega arith) (od form k s),
            sub_parts v (pos 0),
            abs_parts v,
            abs_parts (v -ℤ pos 0),
            one_part (v -ℤ pos 0),
          ))
      by (both p q) =
          let b : nat_abs (z k w +ℤ pos 1) ≤ 1_030_000_000 = rw (z-next k w) at (z-size form k s (suc w) (omega arith) q) in
          rw (p, q, z-next k w)
          (omega (arith, apart one 1_030_000_000 (omega arith) (z k w) (z-size form k s w (omega arith) p) b (pos 0) (od form k s)))

  pub step-up : (up (Wr form k w) + dn (Wr form k (suc w)) + 75 ≤ up (Wr form k (suc w)) + dn (Wr form k w)) × (up (Wr form k (suc w)) + dn (Wr form k w) ≤ up (Wr form k w) + dn (Wr form k (suc w)) + 125)
  unfolding Wr deviation
  step-up =
      let p = plain_deviation k (x w) in
      let p' = plain_deviation k (x (suc w)) in
      let q = d_term form k w in
      let q' = d_term form k (suc w) in
      omega (
        arith,
        plain-near,
        silver-near,
        abs_parts (p' -ℤ p),
        abs_parts (q' -ℤ q),
        sub_parts p' p,
        sub_parts q' q,
        add_parts p q,
        add_parts p' q',
        sub_parts (pos (fine * w)) (p +ℤ q),
        sub_parts (pos (fine * suc w)) (p' +ℤ q'),
      )

module _ (form : Form) (k : Places) (s : Limited form k) where
  up_one : (w : ℕ) → w < largest_ratio → Wr form k w <ℤ Wr form k (suc w)
  up_one w h = omega (ints, step-up form k s w h)

  pub rises-from : (v w : ℕ) → v < w → w ≤ largest_ratio → Wr form k v <ℤ Wr form k w
  rises-from v zero l h = absurd (omega arith)
  rises-from v (suc w) l h = by (dec_lt v w) (λ l. rises-from v w l (omega arith))
    where
      by : Dec (v < w) → (v < w → Wr form k v <ℤ Wr form k w) → Wr form k v <ℤ Wr form k (suc w)
      by (yes m) f = omega (ints, f m, up_one w (omega arith))
      by (no m) f =
          let e : v ≡ w = omega arith in
          rw e (up_one w (omega arith))

  pub not_falling : (v w : ℕ) → v ≤ w → w ≤ largest_ratio → Wr form k v ≤ℤ Wr form k w
  not_falling v w l h = by (dec_lt v w)
    where
      by : Dec (v < w) → Wr form k v ≤ℤ Wr form k w
      by (yes m) = omega (ints, rises-from v w m h)
      by (no m) =
          let e : v ≡ w = omega arith in
          rw e (omega ints)

pub rises : Increasing
rises form k s v w l h = rises-from form k s v w l h
