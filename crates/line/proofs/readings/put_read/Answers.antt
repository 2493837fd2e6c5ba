use lib.ListN.{length}
use Prim.Native.Nat.{ℕ, ◌+◌, ◌≤◌}
use native.Mathlib.Omega.{arith}
use mathlib.Core.List.{List, ◌++◌, append_assoc}
use mathlib.Core.Path.{refl, subst}
use Rattle.std.specs.Prelude.{Some}
use Rattle.whole.specs.Text.{ascii}
use Rattle.text.specs.Decimal.{decimal}
use Rattle.text.proofs.Decimals.{word-digits}
use Rattle.line.specs.Lent.{PlacedAs}
use Rattle.line.proofs.Buffers.{Four, placed_four}
use Rattle.line.proofs.readings.put_read.Goals as goal

pub overflow_add-after_digits : goal.overflow_add-after_digits
overflow_add-after_digits c =
    let digits : c.width-digits.result ≤ 20 = omega (arith, c.width-digits.ensures, word-digits c.args.size (omega (arith, c.ranges.size))) in
    omega (arith, c.requires, digits)

pub overflow_add-after_digits-2 : goal.overflow_add-after_digits-2
overflow_add-after_digits-2 c =
    let digits : c.width-digits.result ≤ 20 = omega (arith, c.width-digits.ensures, word-digits c.args.size (omega (arith, c.ranges.size))) in
    omega (arith, c.requires, digits)

pub returns : goal.returns
returns c =
    let s = c.args in
    let after = length s.names.now + length s.sign.now in
    let wrote = after + c.width-digits.result + 4 in
    let written : Four s.names.now s.sign.now (decimal s.size) (ascii ",0\r\n") s.out.now c.put-3.new.out wrote = record {
      first = c.put.new.out;
      second = c.put-2.new.out;
      third = c.put_digits.new.out;
      at₁ = length s.names.now;
      at₂ = after;
      at₃ = after + c.width-digits.result;
      first_is = c.put.ensures;
      second_is = c.put-2.ensures;
      third_is = c.put_digits.ensures;
      fourth_is = c.put-3.ensures;
      at₁-is = refl;
      at₂-is = refl;
      at₃-is = omega (arith, c.width-digits.ensures);
      end_is = refl;
      fits = c.if-out-after_digits.false;
    } in
    subst (λ (t : List ℕ). PlacedAs 0 (t ++ ascii ",0\r\n") s.out.now c.put-3.new.out (Some (record { code = 0; wrote = wrote }))) (append_assoc s.names.now s.sign.now (decimal s.size))
    (placed_four 0 written)
