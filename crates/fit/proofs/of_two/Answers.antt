use mathlib.Core.List.{[], ◌∷◌}
use Prim.Native.Nat.{◌≤◌}
use native.Mathlib.Nat.{mul-le-mul}
use native.Mathlib.Omega.{arith}
use lib.IntN.{pos, nat_abs, ◌-ℤ◌}
use mir.Syntax.{w64}
use mir.Val.{SFits}
use mir.Facts.{to_z-of_z}
use Rattle.whole.proofs.Parts.{ints, add_parts}
use Rattle.whole.proofs.Size.{difference-fits}
use Rattle.whole.proofs.Machine.{back}
use Rattle.fit.specs.declared.Point.{Point}
use Rattle.fit.specs.Fit.{◌·◌, q, r}
use Rattle.fit.specs.Room.{Roomy, narrow}
use Rattle.fit.proofs.Sizes as sizes
use Rattle.fit.proofs.of_two.Goals as goal

module _ (p₁ p₂ : Point) (room : Roomy (p₁ ∷ p₂ ∷ [])) where
  b-size : nat_abs (r p₁ p₂) ≤ 741_000_000
  b-size = sizes.r_size p₁ p₂ narrow 741_000_000 (omega arith) room.0 room.2 room.1 (omega arith)

  fits : SFits w64 (q p₁ -ℤ r p₁ p₂ · p₁.x)
  fits = difference-fits (q p₁) (r p₁ p₂ · p₁.x)
      (omega (arith, sizes.q_size p₁ room.0, sizes.times_size (r p₁ p₂) p₁.x 741_000_000 3_400_000_000 b-size (sizes.x_size p₁ room.0)))

pub slope-b-requires : goal.slope-b-requires
slope-b-requires c =
    let p1 = c.args.p1 in
    let p2 = c.args.p2 in
    rw (back c.q-q1.result c.q-q1.type_inv, c.q-q1.ensures, back c.q.result c.q.type_inv, c.q.ensures)
    (omega (arith, sizes.q_size p1 c.requires.0), omega (arith, sizes.q_size p2 c.requires.2), c.requires.0, c.requires.2, omega (ints, c.requires.1, add_parts p1.x (pos narrow)))

pub times-requires : goal.times-requires
times-requires c =
    let p1 = c.args.p1 in
    rw (back c.slope-b.result c.slope-b.type_inv, c.slope-b.ensures, back c.q-q1.result c.q-q1.type_inv, c.q-q1.ensures, back c.q.result c.q.type_inv, c.q.ensures, to_z-of_z (sizes.x_fits p1 c.requires.0))
    (omega (arith, mul-le-mul (b-size p1 c.args.p2 c.requires) (sizes.x_size p1 c.requires.0)))

pub overflow_sub-result : goal.overflow_sub-result
overflow_sub-result c =
    let p1 = c.args.p1 in
    rw (back c.times.result c.times.type_inv, c.times.ensures, back c.slope-b.result c.slope-b.type_inv, c.slope-b.ensures, back c.q-q1.result c.q-q1.type_inv, c.q-q1.ensures, back c.q.result c.q.type_inv, c.q.ensures, to_z-of_z (sizes.x_fits p1 c.requires.0))
    (fits p1 c.args.p2 c.requires)

pub returns : goal.returns
returns c =
    let p1 = c.args.p1 in
    rw (back c.times.result c.times.type_inv, c.times.ensures, back c.slope-b.result c.slope-b.type_inv, c.slope-b.ensures, back c.q-q1.result c.q-q1.type_inv, c.q-q1.ensures, back c.q.result c.q.type_inv, c.q.ensures, to_z-of_z (sizes.x_fits p1 c.requires.0), to_z-of_z (fits p1 c.args.p2 c.requires))
