-- Texts added one after the other.
use mathlib.Core.Path.{◌≡◌, refl, sym, ap, ◌∙◌}
use mathlib.Core.Bool.{true, false}
use mathlib.Core.List.{List, [], ◌++◌, append_assoc, append-nil}
use native.Mathlib.Omega.{arith}
use Prim.Native.Nat.{ℕ, ◌+◌, ◌≤◌}
use lib.IntN.{ℤ, pos, negsuc, nat_abs}
use lib.Signed.{lt_z, ◌≤ℤ◌, ◌<ℤ◌}
use lib.ListN.{length, take, drop, length-append, length-drop}
use lib.Seq.{take_at, length-take-le}
use Rattle.whole.specs.Text.{ascii}
use Rattle.whole.proofs.Machine.{lt_yes, lt_no}
use Rattle.whole.proofs.Parts.{ints}
use Rattle.text.specs.Decimal.{decimal, signed_decimal}
use Rattle.text.specs.Writing.{over, Added}

-- what is written over a buffer from an offset on is added there
pub added : (out : List ℕ) (at : ℕ) (text out' : List ℕ) (r : ℕ) → at + length text ≤ length out → out' ≡ over out at text → r ≡ at + length text → Added out at text out' r
added out at text out' r h e n =
    let first : length (take at out) ≡ at = length-take-le at out (omega arith) in
    let both : length (take at out ++ text) ≡ r = length-append (take at out) text ∙ omega arith in
    record {
      end = n;
      bytes = ap (take r) e ∙ take_at (take at out ++ text) (drop (at + length text) out) r both;
      long = ap length e ∙ length-append (take at out ++ text) (drop (at + length text) out) ∙ omega (arith, both, length-drop (at + length text) out);
    }

pub added_none : (out : List ℕ) (at : ℕ) → Added out at [] out at
added_none out at = record { end = omega arith; bytes = sym (append-nil (take at out)); long = refl }

-- two texts
pub added_more : {out out₁ out₂ x y : List ℕ} {at r₁ r₂ : ℕ} → Added out at x out₁ r₁ → Added out₁ r₁ y out₂ r₂ → Added out at (x ++ y) out₂ r₂
added_more {out} {out₁} {out₂} {x} {y} {at} {r₁} {r₂} p q = record {
  end = omega (arith, p.end, q.end, length-append x y);
  bytes = q.bytes ∙ ap (λ (l : List ℕ). l ++ y) p.bytes ∙ append_assoc (take at out) x y;
  long = q.long ∙ p.long;
}

-- the sign and the digits
pub signed_below : (z : ℤ) → lt_z z (pos 0) ≡ true → ascii "-" ++ decimal (nat_abs z) ≡ signed_decimal z
signed_below (pos n) e = absurd (let h : pos n <ℤ pos 0 = lt_yes refl e in omega ints)
signed_below (negsuc n) e = refl

pub signed_above : (z : ℤ) → lt_z z (pos 0) ≡ false → decimal (nat_abs z) ≡ signed_decimal z
signed_above (pos n) e = refl
signed_above (negsuc n) e = absurd (let h : pos 0 ≤ℤ negsuc n = lt_no refl e in omega ints)
