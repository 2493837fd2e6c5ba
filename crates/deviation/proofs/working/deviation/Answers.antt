use mathlib.Core.Path.{◌≡◌}
use native.Mathlib.Omega.{arith}
use mir.Facts.{to_z-of_z}
use Rattle.whole.proofs.Size.{sum_fits}
use Rattle.whole.proofs.Machine.{back}
use Rattle.deviation.specs.Limits.{x}
use Rattle.deviation.specs.Working.{plain_deviation, d_term, deviation}
use Rattle.deviation.proofs.Limits as limits
use Rattle.deviation.proofs.Sized.{x_size, plain_size, silver-size}
use Rattle.deviation.proofs.working.deviation.Goals as goal

pub plain_deviation-requires : goal.plain_deviation-requires
plain_deviation-requires c = (c.requires.0.small, rw (back c.offset.result c.offset.type_inv, c.offset.ensures) (limits.x_size c.args.w.0 c.requires.1))

pub overflow_add-result : goal.overflow_add-result
overflow_add-result c =
    let is_plain : c.plain_deviation.result ≡ plain_deviation c.args.k (x c.args.w.0) = rw (c.plain_deviation.ensures, back c.offset.result c.offset.type_inv, c.offset.ensures) in
    let k = c.args.k in
    let form = c.args.form in
    let w = c.args.w.0 in
    let l = c.requires.0 in
    rw (back c.plain_deviation.result c.plain_deviation.type_inv, is_plain, back c.d_term.result c.d_term.type_inv, c.d_term.ensures)
    (sum_fits (plain_deviation k (x w)) (d_term form k w) (omega (arith, plain_size k l.small (x w) (x_size form k l w c.requires.1), silver-size form k l w c.requires.1)))

pub returns : goal.returns
unfolding deviation
returns c =
    let is_plain : c.plain_deviation.result ≡ plain_deviation c.args.k (x c.args.w.0) = rw (c.plain_deviation.ensures, back c.offset.result c.offset.type_inv, c.offset.ensures) in
    let k = c.args.k in
    let form = c.args.form in
    let w = c.args.w.0 in
    let l = c.requires.0 in
    rw (back c.plain_deviation.result c.plain_deviation.type_inv, is_plain, back c.d_term.result c.d_term.type_inv, c.d_term.ensures, to_z-of_z (sum_fits (plain_deviation k (x w)) (d_term form k w) (omega (arith, plain_size k l.small (x w) (x_size form k l w c.requires.1), silver-size form k l w c.requires.1))))
