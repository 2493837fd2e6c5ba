-- A function that rises at each step of a range rises over any distance in it.
use mathlib.Core.Path.{◌≡◌}
use Prim.Native.Nat.{ℕ, zero, suc, ◌+◌, ◌-◌, ◌<◌}
use native.Mathlib.Decide.{dec_lt}
use lib.IntN.{ℤ, pos, ◌+ℤ◌}
use lib.Signed.{◌≤ℤ◌, ◌<ℤ◌}
use Rattle.whole.proofs.Parts.{ints, up, dn, add_parts}

module _ (f : ℤ → ℤ) (least most : ℤ) (step : (s : ℤ) → least ≤ℤ s → s <ℤ most → f s <ℤ f (s +ℤ pos 1)) where
  from : (a : ℤ) (k : ℕ) → least ≤ℤ a → (a +ℤ pos (suc k)) ≤ℤ most → f a <ℤ f (a +ℤ pos (suc k))
  from a zero p q = step a p (omega (ints, add_parts a (pos 1)))
  from a (suc k) p q =
      let b = a +ℤ pos (suc k) in
      let s = add_parts a (pos (suc k)) in
      let t = add_parts a (pos (suc (suc k))) in
      let u = add_parts b (pos 1) in
      let e : b +ℤ pos 1 ≡ a +ℤ pos (suc (suc k)) = omega (ints, s, t, u) in
      let r : f b <ℤ f (a +ℤ pos (suc (suc k))) = rw e at (step b (omega (ints, s)) (omega (ints, s, t))) in
      omega (ints, from a k p (omega (ints, s, t)), r)

  pub rises : (a b : ℤ) → least ≤ℤ a → a <ℤ b → b ≤ℤ most → f a <ℤ f b
  rises a b p h q =
      let k = up b + dn a - (up a + dn b) - 1 in
      let e : a +ℤ pos (suc k) ≡ b = omega (ints, add_parts a (pos (suc k))) in
      rw e at (from a k p (omega (ints, e)))

  -- what is under the value at a step is under each later value
  pub under-later : (v a b : ℤ) → least ≤ℤ a → v <ℤ f a → a ≤ℤ b → b ≤ℤ most → v <ℤ f b
  under-later v a b p h k q = by (dec_lt (up a + dn b) (up b + dn a))
    where
      by : Dec (up a + dn b < up b + dn a) → v <ℤ f b
      by (yes r) = omega (ints, h, rises a b p (omega ints) q)
      by (no r) =
          let e : a ≡ b = omega ints in
          rw e at h

  pub not_falling : (a b : ℤ) → least ≤ℤ a → a ≤ℤ b → b ≤ℤ most → f a ≤ℤ f b
  not_falling a b p k q = by (dec_lt (up a + dn b) (up b + dn a))
    where
      by : Dec (up a + dn b < up b + dn a) → f a ≤ℤ f b
      by (yes r) = omega (ints, rises a b p (omega ints) q)
      by (no r) =
          let e : a ≡ b = omega ints in
          rw e (omega ints)
