use lib.ListN.{length}
use Prim.Native.Nat.{◌+◌, ◌≤◌}
use native.Mathlib.Omega.{arith}
use mathlib.Core.Path.{refl}
use Rattle.whole.specs.Text.{ascii}
use Rattle.text.specs.Decimal.{decimal}
use Rattle.text.proofs.Decimals.{word-digits}
use Rattle.line.proofs.Buffers.{Four, placed_four}
use Rattle.line.proofs.lent.place_refused.Goals as goal

pub overflow_add-after_digits : goal.overflow_add-after_digits
overflow_add-after_digits c =
    let digits : c.width-digits.result ≤ 20 = omega (arith, c.width-digits.ensures, word-digits c.args.number (omega (arith, c.ranges.number))) in
    omega (arith, c.requires, digits)

pub overflow_add-after_digits-2 : goal.overflow_add-after_digits-2
overflow_add-after_digits-2 c =
    let digits : c.width-digits.result ≤ 20 = omega (arith, c.width-digits.ensures, word-digits c.args.number (omega (arith, c.ranges.number))) in
    omega (arith, c.requires, digits)

pub returns : goal.returns
returns c =
    let s = c.args in
    let after = length s.names.now + length s.commas.now in
    let written : Four s.names.now s.commas.now (decimal s.number) (ascii "\r\n") s.out.now c.put-3.new.out (after + c.width-digits.result + 2) = record {
      first = c.put.new.out;
      second = c.put-2.new.out;
      third = c.put_digits.new.out;
      at₁ = length s.names.now;
      at₂ = after;
      at₃ = after + c.width-digits.result;
      first_is = c.put.ensures;
      second_is = c.put-2.ensures;
      third_is = c.put_digits.ensures;
      fourth_is = c.put-3.ensures;
      at₁-is = refl;
      at₂-is = refl;
      at₃-is = omega (arith, c.width-digits.ensures);
      end_is = refl;
      fits = c.if-out-after_digits.false;
    } in
    placed_four s.number written
