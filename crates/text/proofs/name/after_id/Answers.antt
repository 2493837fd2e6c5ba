use native.Mathlib.Omega.{arith}
use lib.ListN.{length}
use mathlib.Core.Path.{◌≡◌, refl, sym, ◌∙◌}
use Rattle.text.proofs.Spans.{stopped, overrun, next_stopped}
use Rattle.text.specs.Columns.{id_byte, longest_id}
use Rattle.text.proofs.name.after_id.Goals as goal

pub returns-then-not-id_byte : goal.returns-then-not-id_byte
returns-then-not-id_byte c = c.id_ended.ensures ∙ next_stopped (stopped id_byte refl c.loop-i.invariant.0 longest_id c.loop-i.invariant.1 (λ h. sym c.id_byte.ensures ∙ c.if-not-id_byte.true))

pub returns-then-i-eq-LONGEST_ID : goal.returns-then-i-eq-LONGEST_ID
returns-then-i-eq-LONGEST_ID c = rw (overrun id_byte refl c.loop-i.invariant.0 longest_id (omega arith) c.loop-i-test.true (sym c.id_byte.ensures ∙ c.if-not-id_byte.false)) c.no_field.ensures

pub returns : goal.returns
returns c =
    let all : c.loop-i.i ≡ length c.args.s.now = omega arith in
    c.id_ended-2.ensures ∙ next_stopped (stopped id_byte refl (rw all at c.loop-i.invariant.0) longest_id (omega arith) (λ h. absurd (omega arith)))
