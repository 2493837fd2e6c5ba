use mathlib.Core.Path.{◌≡◌, refl, sym, ◌∙◌, ap}
use mathlib.Core.List.{List, [], ◌∷◌, ◌++◌}
use Prim.Native.Nat.{ℕ, zero, suc, ◌<◌, ◌≤◌}
use native.Mathlib.Omega.{arith}
use borrow.Author.Rules.{rules}
use lib.ListN.{length, take, get_or}
use lib.Seq.{take-suc, get_or-append_seam}
use lib.IntN.{ℤ, pos, nat_abs, ◌+ℤ◌, ◌-ℤ◌, ◌*ℤ◌}
use lib.Signed.{◌≤ℤ◌}
use mir.Syntax.{w64}
use mir.Val.{SFits, to_z, of_z}
use mir.Facts.{to_z-of_z}
use Rattle.std.proofs.lemmas.List.{take_at, length_push}
use Rattle.std.specs.Iterator.Adapters.{rev_source}
use Rattle.std.specs.Slice.Iter.{iter_rest}
use Rattle.whole.specs.Floor.{floor}
use Rattle.whole.proofs.Machine.{back}
use Rattle.whole.proofs.Size.{abs→fits}
use Rattle.exact.specs.Polynomial.{rounded}
use Rattle.exact.proofs.Loops.{from, one_lower, total, coefficient_size, from-size, room}
use Rattle.reference.specs.Reference.{C₀, C₁₋₉, middle, n, working, past_last}
use Rattle.reference.proofs.Steps.{span}
use Rattle.reference.proofs.working.working_at.Goals as goal

-- `reference::working::working_at` meets its contract.
abbrev C : List ℤ
C = C₀ ∷ C₁₋₉

length-take : (j : ℕ) → j ≤ 10 → length (take j C) ≡ j
length-take j h = search rules

-- the last of the k lowest coefficients, and those before it
record Last (k : ℕ) (ys : List ℤ) (x : ℤ) : Type 0 where
  j : ℕ
  next : k ≡ suc j
  before : ys ≡ take j C
  is : x ≡ get_or C j (pos 0)

last : (k : ℕ) (ys : List ℤ) (x : ℤ) → k ≤ 9 → take k C ≡ ys ++ x ∷ [] → Last k ys x
last zero ys x h e = absurd (omega (arith, length_push ys x, ap (λ (l : List ℤ). length l) e))
last (suc j) ys x h e =
    let c = get_or C j (pos 0) in
    let same : ys ++ x ∷ [] ≡ take j C ++ c ∷ [] = sym e ∙ take-suc C j (pos 0) (omega arith) in
    let l' = length-take j (omega arith) in
    let l : length ys ≡ j = omega (arith, length_push ys x, length-take (suc j) (omega arith), ap (λ (l : List ℤ). length l) e) in
    record {
      j = j;
      next = refl;
      before = sym (take_at ys (x ∷ []) j l) ∙ ap (λ (l : List ℤ). take j l) same ∙ take_at (take j C) (c ∷ []) j l';
      is = sym (get_or-append_seam ys x [] (pos 0)) ∙ ap (λ (l : List ℤ). get_or l (length ys) (pos 0)) same ∙ ap (λ (i : ℕ). get_or (take j C ++ c ∷ []) i (pos 0)) (l ∙ sym l') ∙ get_or-append_seam (take j C) c [] (pos 0);
    }

size : (i : ℕ) → nat_abs (get_or C i (pos 0)) ≤ total C
size i = coefficient_size C i

-- a coefficient, read back from its bits
coefficient : (i : ℕ) → to_z w64 (of_z w64 (get_or C i (pos 0))) ≡ get_or C i (pos 0)
unfolding total
coefficient i = to_z-of_z (abs→fits _ (omega (arith, size i)))

-- how far the step is from the middle, read back from its bits
distance : (step : ℤ) → SFits w64 step → pos 0 ≤ℤ step → step ≤ℤ past_last → to_z w64 (of_z w64 (to_z w64 (of_z w64 step) -ℤ pos middle)) ≡ n step
distance step known p q = rw (to_z-of_z known) (to_z-of_z (abs→fits _ (omega (arith, span step p q))))

-- a turn to the next lower coefficient: it fits, and what it gives
module _ (m : ℤ) (k j : ℕ) (x sum : ℤ) (next : k ≡ suc j) (is : x ≡ get_or C j (pos 0)) (e : sum ≡ from middle m C k) (h : j < 9) where
  turn-fits : nat_abs m ≤ middle → (0 < middle) × SFits w64 (sum *ℤ m) × SFits w64 (floor (sum *ℤ m) middle +ℤ to_z w64 (of_z w64 x))
  unfolding total
  turn-fits b =
      rw (e, next, is, coefficient)
      (room middle (omega arith) m b (from middle m C (suc j)) (get_or C j (pos 0)) (total C) (from-size middle (omega arith) m b C (suc j) (omega arith)) (size j) (omega arith))

  turned : floor (sum *ℤ m) middle +ℤ to_z w64 (of_z w64 x) ≡ from middle m C j
  turned = rw (e, next, is, coefficient) (one_lower middle m C j (omega arith))

pub loop-c-init : goal.loop-c-init
unfolding from rounded
loop-c-init c =
    let rest : iter_rest (rev_source c.into_iter-c-iterator.result) ≡ take 9 C = search rules in
    (tt, tt, (9, omega arith, rest, refl))

pub turn-sum-requires : goal.turn-sum-requires
turn-sum-requires c =
    let step = c.args.step.0 in
    let known : SFits w64 step = search rules in
    let i = c.loop-c.invariant.2 in
    let x = last i.0 (iter_rest (rev_source c.next.new.self)) c.in-Some.c.now i.1 (sym i.2 ∙ c.in-Some.ensures.steps) in
    let d = distance step known c.requires.0 c.requires.1 in
    let e : to_z w64 c.loop-c.sum-bits ≡ from middle (n step) C i.0 = rw d at i.3 in
    rw d (turn-fits (n step) i.0 x.j c.in-Some.c.now (to_z w64 c.loop-c.sum-bits) x.next x.is e (omega (arith, i.1, x.next)) (span step c.requires.0 c.requires.1))

pub loop-c-preserved : goal.loop-c-preserved
loop-c-preserved c =
    let i = c.loop-c.invariant.2 in
    let x = last i.0 (iter_rest (rev_source c.next.new.self)) c.in-Some.c.now i.1 (sym i.2 ∙ c.in-Some.ensures.steps) in
    let lower = turned _ i.0 x.j c.in-Some.c.now (to_z w64 c.loop-c.sum-bits) x.next x.is i.3 (omega (arith, i.1, x.next)) in
    (tt, tt, (x.j, omega (arith, i.1, x.next), x.before, back c.turn-sum.result c.turn-sum.type_inv ∙ c.turn-sum.ensures ∙ lower))

pub returns : goal.returns
unfolding working from
returns c =
    let step = c.args.step.0 in
    let known : SFits w64 step = search rules in
    let i = c.loop-c.invariant.2 in
    let z : i.0 ≡ 0 = omega (arith, c.in-None.ensures.steps.0, i.1, length-take i.0 (omega (arith, i.1)), ap (λ (l : List ℤ). length l) i.2) in
    rw (i.3, z, distance step known c.requires.0 c.requires.1) refl
