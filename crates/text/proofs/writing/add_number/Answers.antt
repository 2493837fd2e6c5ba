use native.Mathlib.Omega.{arith}
use mathlib.Core.Path.{ap}
use Prim.Native.Nat.{ℕ, ◌+◌, ◌≤◌}
use lib.ListN.{length}
use Rattle.text.specs.Decimal.{decimal, longest_number}
use Rattle.text.proofs.Adding.{added}
use Rattle.text.proofs.Decimals.{word-digits}
use Rattle.text.proofs.writing.add_number.Goals as goal

pub returns : goal.returns
returns c =
    let digits : length (decimal c.args.n) ≤ longest_number = word-digits c.args.n (omega (arith, c.ranges.n)) in
    let width = c.width-digits in
    (added c.args.out.now c.args.at (decimal c.args.n) c.put_digits.new.out _ (omega (arith, digits, c.requires)) c.put_digits.ensures (ap (λ (n : ℕ). c.args.at + n) width.ensures), omega (arith, width.ensures, digits))

pub put_digits-requires : goal.put_digits-requires
put_digits-requires c =
    (c.width-digits.ensures, omega (arith, c.width-digits.ensures, word-digits c.args.n (omega (arith, c.ranges.n)), c.requires))
