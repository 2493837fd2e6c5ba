use native.Mathlib.Omega.{arith}
use lib.IntN.{pos}
use Rattle.whole.proofs.Parts.{ints, add_parts}
use Rattle.whole.proofs.Machine.{back}
use Rattle.fit.specs.Room.{wide}
use Rattle.fit.proofs.Sizes.{q_size, sizes}
use Rattle.fit.proofs.of_three.Goals as goal

pub slope-r12-requires : goal.slope-r12-requires
slope-r12-requires c =
    let p1 = c.args.p1 in
    let p2 = c.args.p2 in
    rw (back c.q-q1.result c.q-q1.type_inv, c.q-q1.ensures, back c.q-q2.result c.q-q2.type_inv, c.q-q2.ensures)
    (omega (arith, q_size p1 c.requires.0), omega (arith, q_size p2 c.requires.2.0), c.requires.0, c.requires.2.0, omega (ints, c.requires.1, add_parts p1.x (pos wide)))

pub slope-r23-requires : goal.slope-r23-requires
slope-r23-requires c =
    let p2 = c.args.p2 in
    let p3 = c.args.p3 in
    rw (back c.q-q2.result c.q-q2.type_inv, c.q-q2.ensures, back c.q.result c.q.type_inv, c.q.ensures)
    (omega (arith, q_size p2 c.requires.2.0), omega (arith, q_size p3 c.requires.2.2), c.requires.2.0, c.requires.2.2, omega (ints, c.requires.2.1, add_parts p2.x (pos wide)))

pub slope-c-requires : goal.slope-c-requires
slope-c-requires c =
    let p1 = c.args.p1 in
    let p2 = c.args.p2 in
    let z = sizes p1 p2 c.args.p3 c.requires in
    rw (back c.slope-r12.result c.slope-r12.type_inv, c.slope-r12.ensures, back c.slope-r23.result c.slope-r23.type_inv, c.slope-r23.ensures, back c.q-q1.result c.q-q1.type_inv, c.q-q1.ensures, back c.q-q2.result c.q-q2.type_inv, c.q-q2.ensures, back c.q.result c.q.type_inv, c.q.ensures)
    (omega (arith, z.r₁₂), omega (arith, z.r₂₃), c.requires.0, c.requires.2.2, omega (ints, c.requires.1, c.requires.2.1, add_parts p1.x (pos wide), add_parts p2.x (pos wide)))

pub coefficient_b-b-requires : goal.coefficient_b-b-requires
coefficient_b-b-requires c =
    let z = sizes c.args.p1 c.args.p2 c.args.p3 c.requires in
    rw (back c.slope-c.result c.slope-c.type_inv, c.slope-c.ensures, back c.slope-r12.result c.slope-r12.type_inv, c.slope-r12.ensures, back c.slope-r23.result c.slope-r23.type_inv, c.slope-r23.ensures, back c.q-q1.result c.q-q1.type_inv, c.q-q1.ensures, back c.q-q2.result c.q-q2.type_inv, c.q-q2.ensures, back c.q.result c.q.type_inv, c.q.ensures)
    (omega (arith, z.r₁₂), omega (arith, z.c), c.requires.0, c.requires.2.0)

pub coefficient_a-requires : goal.coefficient_a-requires
coefficient_a-requires c =
    let z = sizes c.args.p1 c.args.p2 c.args.p3 c.requires in
    rw (back c.coefficient_b-b.result c.coefficient_b-b.type_inv, c.coefficient_b-b.ensures, back c.slope-c.result c.slope-c.type_inv, c.slope-c.ensures, back c.slope-r12.result c.slope-r12.type_inv, c.slope-r12.ensures, back c.slope-r23.result c.slope-r23.type_inv, c.slope-r23.ensures, back c.q-q1.result c.q-q1.type_inv, c.q-q1.ensures, back c.q-q2.result c.q-q2.type_inv, c.q-q2.ensures, back c.q.result c.q.type_inv, c.q.ensures)
    (omega (arith, q_size c.args.p1 c.requires.0), omega (arith, z.b), omega (arith, z.c), omega (arith, z.x₁))

pub returns : goal.returns
returns c =
    rw (back c.coefficient_a.result c.coefficient_a.type_inv, c.coefficient_a.ensures, back c.coefficient_b-b.result c.coefficient_b-b.type_inv, c.coefficient_b-b.ensures, back c.slope-c.result c.slope-c.type_inv, c.slope-c.ensures, back c.slope-r12.result c.slope-r12.type_inv, c.slope-r12.ensures, back c.slope-r23.result c.slope-r23.type_inv, c.slope-r23.ensures, back c.q-q1.result c.q-q1.type_inv, c.q-q1.ensures, back c.q-q2.result c.q-q2.type_inv, c.q-q2.ensures, back c.q.result c.q.type_inv, c.q.ensures)
