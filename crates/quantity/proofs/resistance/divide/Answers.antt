use mathlib.Core.Path.{◌≡◌, subst}
use Prim.Native.Nat.{ℕ, suc, ◌+◌, ◌*◌, ◌-◌, ◌/◌, ◌%◌, ◌<◌, ◌≤◌, ◌^◌}
use native.Mathlib.Nat.{mod-eq_of_lt}
use native.Mathlib.Numerals.{unary_clauses}
use native.Mathlib.Omega.{arith}
use Rattle.quantity.proofs.Division.{Dividing, small, goes, stays, Apart, apart}
use Rattle.quantity.proofs.resistance.divide.Goals as goal
use Rattle.quantity.proofs.resistance.divide.Goals.{then-divisor-x, else-divisor-x}

pub loop-done-init : goal.loop-done-init
loop-done-init c = record {
  quotient = 0;
  left = c.args.n;
  done = 0;
  turned = omega arith;
  whole = omega arith;
  rest = simp unary_clauses c.requires.2;
  packed = omega arith;
  room = omega arith;
}

pub loop-done-preserved : goal.loop-done-preserved
loop-done-preserved c =
    let divisor-fits : c.args.d * 2 ^ c.args.turns % 2 ^ 64 ≡ c.args.d * 2 ^ c.args.turns = mod-eq_of_lt (omega (arith, c.requires.1)) in
    let above : 0 < c.args.d * 2 ^ c.args.turns = omega (arith, c.requires.2) in
    let double-fits : c.loop-done.x * 2 % 2 ^ 64 ≡ c.loop-done.x * 2 = mod-eq_of_lt (omega (arith, small _ _ _ _ _ c.loop-done.invariant, c.requires.1)) in
    let to-come : Dividing c.args.n c.args.d c.args.turns c.loop-done.x (suc (c.args.turns - (c.loop-done.done + 1))) =
    let one_more : c.args.turns - c.loop-done.done ≡ suc (c.args.turns - (c.loop-done.done + 1)) = omega arith in
    subst (λ (k : ℕ). Dividing c.args.n c.args.d c.args.turns c.loop-done.x k) one_more c.loop-done.invariant in
    elim c.if-divisor-x.branch [
      | then-divisor-x w ↦
          let l : c.args.d * 2 ^ c.args.turns ≤ c.loop-done.x * 2 = omega (arith, w.if-divisor-x.true, double-fits, divisor-fits) in
          rw (w.x-is, double-fits, divisor-fits) (goes _ _ _ _ _ to-come l above)
      | else-divisor-x w ↦
          let l : c.loop-done.x * 2 < c.args.d * 2 ^ c.args.turns = omega (arith, w.if-divisor-x.false, double-fits, divisor-fits) in
          rw (w.x-is, double-fits) (stays _ _ _ _ _ to-come l)
    ]

pub returns : goal.returns
returns c =
    let parts : Apart c.args.n c.args.d c.args.turns c.loop-done.x =
    let none : c.args.turns - c.loop-done.done ≡ 0 = omega arith in
    apart _ _ _ _ (subst (λ (k : ℕ). Dividing c.args.n c.args.d c.args.turns c.loop-done.x k) none c.loop-done.invariant) in
    let left-fits : let places = 2 ^ c.args.turns in
    c.loop-done.x / places * places % 2 ^ 64 ≡ c.loop-done.x / places * places = mod-eq_of_lt (omega (arith, (parts).both, small _ _ _ _ _ c.loop-done.invariant, c.requires.1)) in
    rw left-fits (parts.whole, parts.rest, parts.room)
