-- An order of whole numbers that lie near fractions is one of the fractions, give or take how near.
use mathlib.Core.Path.{◌≡◌}
use Prim.Native.Nat.{ℕ, ◌+◌, ◌*◌, ◌≤◌}
use native.Mathlib.Nat.{mul-le-mul_right}
use lib.IntN.{ℤ, pos, ◌+ℤ◌, ◌*ℤ◌}
use lib.Signed.{◌≤ℤ◌, ◌<ℤ◌}
use Rattle.whole.proofs.Parts.{ints, add_parts, mul_parts}
use Rattle.whole.proofs.Ring.{*ℤ-assoc, *ℤ-distribʳ, *ℤ-swap, *ℤ-mono, *ℤ-strict}
use Rattle.exact.specs.Fraction.{Fraction, integer, ◌+ᶠ◌, ◌≤ᶠ◌, Within}

-- the two halves of `Within`, in whole numbers
over : (d : ℕ) (v : ℤ) (e : Fraction) → Within d v e → (v *ℤ pos e.den) <ℤ (e.num +ℤ pos (d * e.den))
unfolding ◌+ᶠ◌ integer
over d v e h =
    let o = h.over_by_less.out in
    omega (
      ints,
      o,
      mul_parts v (pos (e.den * 1)),
      mul_parts v (pos e.den),
      mul_parts e.num (pos 1),
      mul_parts (e.num *ℤ pos 1 +ℤ pos (d * e.den)) (pos 1),
      add_parts (e.num *ℤ pos 1) (pos (d * e.den)),
      add_parts e.num (pos (d * e.den)),
    )

under : (d : ℕ) (v : ℤ) (e : Fraction) → Within d v e → e.num <ℤ ((v +ℤ pos d) *ℤ pos e.den)
unfolding ◌+ᶠ◌ integer
under d v e h =
    let sum : v *ℤ pos 1 +ℤ pos (d * 1) ≡ v +ℤ pos d = omega (ints, mul_parts v (pos 1), add_parts (v *ℤ pos 1) (pos (d * 1)), add_parts v (pos d)) in
    omega (ints, rw sum at h.under_by_less.out, mul_parts e.num (pos 1))

-- e is near v, e' is near v', and v is not above v': then e is not above e' by more than the two together
pub through : (e e' : Fraction) (v v' : ℤ) (d d' D : ℕ) → Within d v e → Within d' v' e' → v ≤ℤ v' → d + d' ≤ D → e ≤ᶠ e' +ᶠ integer (pos D)
unfolding ◌+ᶠ◌ integer
through e e' v v' d d' D near near' order room =
    let P = e.den in
    let Q = e'.den in
    let a : (e.num *ℤ pos Q) <ℤ ((v +ℤ pos d) *ℤ pos P *ℤ pos Q) = *ℤ-strict e.num ((v +ℤ pos d) *ℤ pos P) Q e'.positive (under d v e near) in
    let b : (v' *ℤ pos Q *ℤ pos P) <ℤ ((e'.num +ℤ pos (d' * Q)) *ℤ pos P) = *ℤ-strict (v' *ℤ pos Q) (e'.num +ℤ pos (d' * Q)) P e.positive (over d' v' e' near') in
    let m : (v *ℤ pos (P * Q)) ≤ℤ (v' *ℤ pos (P * Q)) = *ℤ-mono v v' (P * Q) order in
    let r : (d + d') * (P * Q) ≤ D * (P * Q) = mul-le-mul_right (P * Q) room in
    let l : (v +ℤ pos d) *ℤ pos P *ℤ pos Q ≡ v *ℤ pos (P * Q) +ℤ pos (d * (P * Q)) = cc (*ℤ-assoc (v +ℤ pos d) (pos P) (pos Q), *ℤ-distribʳ v (pos d) (pos (P * Q))) in
    let k : v' *ℤ pos Q *ℤ pos P ≡ v' *ℤ pos (P * Q) = cc (*ℤ-swap v' (pos Q) (pos P), *ℤ-assoc v' (pos P) (pos Q)) in
    let n : (e'.num +ℤ pos (d' * Q)) *ℤ pos P ≡ e'.num *ℤ pos P +ℤ pos (d' * Q * P) = *ℤ-distribʳ e'.num (pos (d' * Q)) (pos P) in
    let one : e'.num *ℤ pos 1 ≡ e'.num = omega (ints, mul_parts e'.num (pos 1)) in
    let t : (e'.num *ℤ pos 1 +ℤ pos (D * Q)) *ℤ pos P ≡ e'.num *ℤ pos P +ℤ pos (D * Q * P) = rw one (*ℤ-distribʳ e'.num (pos (D * Q)) (pos P)) in
    let f : e.num *ℤ pos (Q * 1) ≡ e.num *ℤ pos Q = omega (ints, mul_parts e.num (pos (Q * 1)), mul_parts e.num (pos Q)) in
    record {
      out =
          omega (
            ints,
            f,
            t,
            rw l at a,
            rw (k, n) at b,
            m,
            r,
            add_parts (v *ℤ pos (P * Q)) (pos (d * (P * Q))),
            add_parts (e'.num *ℤ pos P) (pos (d' * Q * P)),
            add_parts (e'.num *ℤ pos P) (pos (D * Q * P)),
          );
    }
