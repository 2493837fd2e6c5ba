use Rattle.text.proofs.Fields.{name_stopped}
use Rattle.text.proofs.Digits.{name-more, small_bounds, pow_more}
use Rattle.text.proofs.Spans.{span_more, stopped, overrun}
use Rattle.text.specs.Columns.{longest_name}
use Rattle.text.specs.Fields.{small}
use Rattle.whole.specs.Text.{name_of}
use lib.ListN.{length, get_or, take}
use Prim.Native.Nat.{◌+◌, ◌*◌, ◌^◌, ◌≤◌}
use lib.Dec.{lit<}
use native.Mathlib.Nat.{pow-le-pow_right}
use native.Mathlib.Omega.{arith}
use mathlib.Core.Bool.{true}
use mathlib.Core.Path.{◌≡◌, refl, sym, ◌∙◌}
use Rattle.text.proofs.name.name_in.Goals as goal

pub returns-then-not-is_ascii_lowercase : goal.returns-then-not-is_ascii_lowercase
returns-then-not-is_ascii_lowercase c =
    c.ended.ensures ∙ name_stopped c.loop-i.value c.loop-i.invariant.2
    (stopped small refl c.loop-i.invariant.0 longest_name c.loop-i.invariant.1 (λ h. sym c.is_ascii_lowercase.ensures.value ∙ c.if-not-is_ascii_lowercase.true))

pub returns-then-i-eq-LONGEST_NAME : goal.returns-then-i-eq-LONGEST_NAME
returns-then-i-eq-LONGEST_NAME c =
    rw (overrun small refl c.loop-i.invariant.0 longest_name (omega arith) c.loop-i-test.true (sym c.is_ascii_lowercase.ensures.value ∙ c.if-not-is_ascii_lowercase.false)) c.broken.ensures

pub overflow_mul-value : goal.overflow_mul-value
overflow_mul-value c =
    let few : c.loop-i.i ≤ 7 = omega arith in
    let most : 256 ^ c.loop-i.i ≤ 256 ^ 7 = pow-le-pow_right (lit< tt) few in
    omega arith

pub overflow_add-value : goal.overflow_add-value
overflow_add-value c =
    let few : c.loop-i.i ≤ 7 = omega arith in
    let most : 256 ^ c.loop-i.i ≤ 256 ^ 7 = pow-le-pow_right (lit< tt) few in
    let byte = small_bounds (get_or c.args.s.now c.loop-i.i 0) (sym c.is_ascii_lowercase.ensures.value ∙ c.if-not-is_ascii_lowercase.false) in
    omega arith

pub loop-i-preserved : goal.loop-i-preserved
loop-i-preserved c =
    let s = c.args.s.now in
    let i = c.loop-i.i in
    let letter : small (get_or s i 0) ≡ true = sym c.is_ascii_lowercase.ensures.value ∙ c.if-not-is_ascii_lowercase.false in
    let value : c.loop-i.value * 256 + c.from.result ≡ name_of (take i s) * 256 + get_or s i 0 = cc (c.loop-i.invariant.2, c.from.ensures) in
    let power : 256 ^ (i + 1) ≡ 256 ^ i * 256 = pow_more 256 i in (
      span_more c.loop-i.invariant.0 c.loop-i-test.true letter,
      omega arith,
      value ∙ sym (name-more s i c.loop-i-test.true),
      omega (arith, small_bounds (get_or s i 0) letter),
    )

pub returns : goal.returns
returns c =
    let all : c.loop-i.i ≡ length c.args.s.now = omega arith in
    c.ended-2.ensures ∙ name_stopped c.loop-i.value (rw all at c.loop-i.invariant.2) (stopped small refl (rw all at c.loop-i.invariant.0) longest_name (omega arith) (λ h. absurd (omega arith)))
