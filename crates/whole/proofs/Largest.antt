-- The largest step at which a function is not above a value: there is one at most, and two neighbours show it.
use mathlib.Core.Path.{◌≡◌}
use Prim.Native.Nat.{◌+◌, ◌<◌}
use native.Mathlib.Decide.{dec_lt}
use lib.IntN.{ℤ, pos, ◌+ℤ◌}
use lib.Signed.{◌≤ℤ◌, ◌<ℤ◌}
use Rattle.whole.specs.Largest.{Largest}
use Rattle.whole.proofs.Parts.{ints, up, dn, add_parts}
use Rattle.whole.proofs.Rising.{under-later, not_falling}

module _ (f : ℤ → ℤ) (first last value : ℤ) where
  -- of two largest steps neither is the later one
  not-later : (a b : ℤ) → Largest f first last value a → Largest f first last value b → a <ℤ b → ⊥
  not-later a b p q h = omega (ints, p.above b h (omega (ints, q.to_last, add_parts last (pos 1))), q.not_above)

  pub largest-unique : (a b : ℤ) → Largest f first last value a → Largest f first last value b → a ≡ b
  largest-unique a b p q = by (dec_lt (up a + dn b) (up b + dn a)) (dec_lt (up b + dn a) (up a + dn b))
    where
      by : Dec (up a + dn b < up b + dn a) → Dec (up b + dn a < up a + dn b) → a ≡ b
      by (yes h) k = absurd (not-later a b p q (omega ints))
      by (no h) (yes k) = absurd (not-later b a q p (omega ints))
      by (no h) (no k) = omega ints

-- a larger value has no smaller largest step
pub largest_mono : (f : ℤ → ℤ) (first last v v' a b : ℤ) → v ≤ℤ v' → Largest f first last v a → Largest f first last v' b → a ≤ℤ b
largest_mono f first last v v' a b h p q = by (dec_lt (up b + dn a) (up a + dn b))
  where
    by : Dec (up b + dn a < up a + dn b) → a ≤ℤ b
    by (yes k) = absurd (omega (ints, h, p.not_above, q.above a (omega ints) (omega (ints, p.to_last, add_parts last (pos 1)))))
    by (no k) = omega ints

-- of a function that rises from the first step to the one past the last
module _ (f : ℤ → ℤ) (first last : ℤ) (rise : (s : ℤ) → first ≤ℤ s → s <ℤ (last +ℤ pos 1) → f s <ℤ f (s +ℤ pos 1)) (value : ℤ) where
  pub largest-by-next : (s : ℤ) → first ≤ℤ s → s ≤ℤ last → f s ≤ℤ value → value <ℤ f (s +ℤ pos 1) → Largest f first last value s
  largest-by-next s p q n a =
      let e = add_parts s (pos 1) in
      record {
        from_first = p;
        to_last = q;
        not_above = n;
        above = λ later h k. under-later f first (last +ℤ pos 1) rise value (s +ℤ pos 1) later (omega (ints, e)) a (omega (ints, e)) k;
      }

  -- the value is neither under that at the first step nor at or over that past the last
  pub largest-not-below : (s : ℤ) → Largest f first last value s → value <ℤ f first → ⊥
  largest-not-below s l h =
      let e = add_parts last (pos 1) in
      omega (ints, l.not_above, not_falling f first (last +ℤ pos 1) rise first s (omega ints) l.from_first (omega (ints, e, l.to_last)))

  pub largest-not-past : (s : ℤ) → Largest f first last value s → f (last +ℤ pos 1) ≤ℤ value → ⊥
  largest-not-past s l h =
      let e = add_parts last (pos 1) in
      omega (ints, l.above (last +ℤ pos 1) (omega (ints, e, l.to_last)) (omega ints))
