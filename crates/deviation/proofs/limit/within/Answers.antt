use mathlib.Core.Path.{◌≡◌, sym, ◌∙◌}
use Prim.Native.Nat.{◌+◌, ◌≤◌}
use native.Mathlib.Omega.{arith}
use borrow.Author.Tests.{lt-leb}
use lib.IntN.{nat_abs}
use Rattle.whole.proofs.Machine.{back}
use Rattle.quantity.specs.Quantities.{one, largest_ratio}
use Rattle.deviation.specs.Limits.{x, δ, keeps}
use Rattle.deviation.proofs.Limits.{x_size, δ-size, far}
use Rattle.deviation.proofs.limit.within.Goals as goal

-- `deviation::limit::within` meets its contract.
pub returns-else-w-le-LARGEST_RATIO : goal.returns-else-w-le-LARGEST_RATIO
returns-else-w-le-LARGEST_RATIO c = lt-leb c.args.w.0 largest_ratio (omega arith) ∙ sym (far _ _ c.requires (omega arith))

pub overflow_mul-result : goal.overflow_mul-result
overflow_mul-result c =
    let is-δ : c.unsigned_abs.result ≡ nat_abs (δ c.args.wr c.args.w.0) = rw (c.unsigned_abs.ensures.value, back _ c.cell_deviation.type_inv, c.cell_deviation.ensures) in
    let size : c.unsigned_abs.result ≤ 440_000_000_000 = rw is-δ (δ-size c.args.wr c.args.w.0 c.requires (omega arith)) in
    omega (arith, size)

pub overflow_mul-result-then-w-le-LARGEST_RATIO : goal.overflow_mul-result-then-w-le-LARGEST_RATIO
overflow_mul-result-then-w-le-LARGEST_RATIO c =
    let is_x : c.unsigned_abs-then-w-le-LARGEST_RATIO.result ≡ nat_abs (x c.args.w.0) = rw (c.unsigned_abs-then-w-le-LARGEST_RATIO.ensures.value, back _ c.offset.type_inv, c.offset.ensures) in
    let x-small : c.unsigned_abs-then-w-le-LARGEST_RATIO.result + one ≤ largest_ratio = rw is_x (x_size c.args.w.0 (omega arith)) in
    omega (arith, x-small)

pub returns-then-w-le-LARGEST_RATIO : goal.returns-then-w-le-LARGEST_RATIO
unfolding keeps
returns-then-w-le-LARGEST_RATIO c =
    let is-δ : c.unsigned_abs.result ≡ nat_abs (δ c.args.wr c.args.w.0) = rw (c.unsigned_abs.ensures.value, back _ c.cell_deviation.type_inv, c.cell_deviation.ensures) in
    let is_x : c.unsigned_abs-then-w-le-LARGEST_RATIO.result ≡ nat_abs (x c.args.w.0) = rw (c.unsigned_abs-then-w-le-LARGEST_RATIO.ensures.value, back _ c.offset.type_inv, c.offset.ensures) in
    rw (is-δ, is_x)
