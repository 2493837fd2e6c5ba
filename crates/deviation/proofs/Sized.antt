-- What places within their limits say of their numbers, and how large the two parts of the deviation get.
use mathlib.Core.Path.{◌≡◌, refl}
use mathlib.Core.Bool.{Bool, true, false}
use mathlib.Core.List.{[], ◌∷◌}
use Prim.Native.Nat.{ℕ, suc, ◌+◌, ◌≤◌}
use native.Mathlib.Omega.{arith}
use borrow.Author.Tests.{leb-true, leb-false}
use lib.Dec.{leb}
use lib.IntN.{ℤ, pos, nat_abs, ◌+ℤ◌, ◌*ℤ◌}
use Rattle.whole.specs.Choice.{if◌then◌otherwise◌}
use Rattle.whole.specs.Floor.{floor}
use Rattle.whole.proofs.Choice.{and_true}
use Rattle.whole.proofs.Parts.{up, dn, one_part, abs_parts, sub_parts}
use Rattle.whole.proofs.Size.{abs_add}
use Rattle.exact.specs.Polynomial.{rounded}
use Rattle.exact.proofs.Sizes.{size, Bounded, none, and, abs-rounded, turn-size}
use Rattle.quantity.specs.Quantities.{one, largest_ratio}
use Rattle.law.specs.declared.cell.Cell.TheVariants.{Al}
use Rattle.law.specs.declared.subrange.Form.{Form}
use Rattle.law.specs.Cells as cells
use Rattle.law.specs.Subranges.{to_silver}
use Rattle.deviation.specs.declared.places.Places.{Places}
use Rattle.deviation.specs.Limits.{x, δ, within, largest_coefficient, Small, Limited}
use Rattle.deviation.specs.Working.{plain_deviation, has_d_term, z, d_term, deviation}
use Rattle.deviation.proofs.Limits as limits

-- ---- the working deviation by a, b, c, where |x| is at most 3.4
abbrev pub farthest : ℕ
farthest = 3_400_000_000

module _ (k : Places) (s : Small k) (x : ℤ) (h : nat_abs x ≤ farthest) where
  abbrev pub linear : ℤ
  linear = floor (k.c *ℤ x) one +ℤ k.b

  abbrev pub square : ℤ
  square = floor (linear *ℤ x) one +ℤ k.a

  pub linear-size : nat_abs linear ≤ 440_000_001
  linear-size = omega (arith, turn-size one farthest (omega arith) x h k.c k.b largest_coefficient largest_coefficient s.c s.b)

  pub square-size : nat_abs square ≤ 1_596_000_004
  square-size = omega (arith, turn-size one farthest (omega arith) x h linear k.a 440_000_001 largest_coefficient linear-size s.a)

  pub plain_size : nat_abs (plain_deviation k x) ≤ 5_426_400_014
  unfolding plain_deviation rounded
  plain_size = omega (arith, turn-size one farthest (omega arith) x h square (pos 0) 1_596_000_004 0 square-size (omega arith))

-- ---- W(Al), which keeps its limit
-- the least that does
abbrev pub least_aluminium : ℕ
least_aluminium = 3_373_634_966

near_aluminium : (w : ℕ) → within (cells.Wr Al) w ≡ true → (least_aluminium ≤ w) × (w ≤ largest_ratio)
near_aluminium w e =
    let wr = cells.Wr Al in
    omega (arith, limits.limit wr w e, limits.x_parts w, limits.δ-parts wr w, abs_parts (x w), abs_parts (δ wr w), one_part (x w), one_part (δ wr w))

pub aluminium : (form : Form) (k : Places) → Limited form k → to_silver form ≡ true → (least_aluminium ≤ k.wal.0) × (k.wal.0 ≤ largest_ratio)
aluminium form k s e = near_aluminium k.wal.0 (s.aluminium e)

-- ---- where there is a d term
pub counted : (form : Form) (k : Places) (w : ℕ) → has_d_term form k w ≡ true → (to_silver form ≡ true) × (k.wal.0 ≤ w)
unfolding has_d_term
counted form k w e =
    let h = and_true (to_silver form) (leb k.wal.0 w) e in
    (h.0, leb-true k.wal.0 w h.1)

-- from one ratio to the next the d term can start to count, at z = 0, and never stops
pub data Next (form : Form) (k : Places) (w : ℕ) : Type 0 where
  neither : has_d_term form k w ≡ false → has_d_term form k (suc w) ≡ false → Next form k w
  starts : has_d_term form k w ≡ false → has_d_term form k (suc w) ≡ true → k.wal.0 ≡ suc w → Next form k w
  both : has_d_term form k w ≡ true → has_d_term form k (suc w) ≡ true → Next form k w

pub next : (form : Form) (k : Places) (w : ℕ) → Next form k w
unfolding has_d_term
next form k w = by (to_silver form) refl (leb k.wal.0 w) refl (leb k.wal.0 (suc w)) refl
  where
    by : (s : Bool) → to_silver form ≡ s → (a : Bool) → leb k.wal.0 w ≡ a → (b : Bool) → leb k.wal.0 (suc w) ≡ b → Next form k w
    by false s a p b q = neither (rw s) (rw s)
    by true s false p false q = neither (rw (s, p)) (rw (s, q))
    by true s false p true q = starts (rw (s, p)) (rw (s, q)) (omega (arith, leb-false k.wal.0 w p, leb-true k.wal.0 (suc w) q))
    by true s true p false q = absurd (omega (arith, leb-true k.wal.0 w p, leb-false k.wal.0 (suc w) q))
    by true s true p true q = both (rw (s, p)) (rw (s, q))

pub z_parts : (k : Places) (w : ℕ) → up (z k w) + k.wal.0 ≡ dn (z k w) + w
unfolding z
z_parts k w = omega (arith, sub_parts (pos w) (pos k.wal.0))

module _ (form : Form) (k : Places) (s : Limited form k) where
  pub abc : Bounded (k.a ∷ k.b ∷ k.c ∷ []) (largest_coefficient ∷ largest_coefficient ∷ largest_coefficient ∷ [])
  abc = and s.small.a (and s.small.b (and s.small.c none))

  pub od : Bounded (pos 0 ∷ k.d ∷ []) (0 ∷ largest_coefficient ∷ [])
  od = and {c = pos 0} {k = 0} (omega arith) (and s.small.d none)

  module _ (w : ℕ) (h : w ≤ largest_ratio) where
    pub x_size : nat_abs (x w) ≤ farthest
    x_size = omega (arith, limits.x_size w h)

    pub z-size : has_d_term form k w ≡ true → nat_abs (z k w) ≤ 1_030_000_000
    z-size e =
        let c = counted form k w e in
        omega (arith, aluminium form k s c.0, c.1, z_parts k w, abs_parts (z k w), one_part (z k w))

    pub silver-size : nat_abs (d_term form k w) ≤ 200_000_000
    unfolding d_term size
    silver-size = by (has_d_term form k w) refl
      where
        by : (t : Bool) → has_d_term form k w ≡ t → nat_abs (if t then rounded one (z k w) (pos 0) (pos 0 ∷ k.d ∷ []) otherwise pos 0) ≤ 200_000_000
        by true e = omega (arith, abs-rounded one 1_030_000_000 (omega arith) (z k w) (z-size e) (pos 0) 0 (omega arith) od)
        by false e = omega arith

    pub deviation-size : nat_abs (deviation form k w) ≤ 5_700_000_000
    unfolding deviation
    deviation-size = omega (arith, abs_add (plain_deviation k (x w)) (d_term form k w), plain_size k s.small (x w) x_size, silver-size)
