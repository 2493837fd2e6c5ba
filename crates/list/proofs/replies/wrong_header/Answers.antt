use mathlib.Core.Path.{sym, subst}
use Prim.Native.Nat.{ℕ}
use Rattle.quantity.specs.Refusals.{number_of}
use Rattle.quantity.specs.declared.refusal.Refusal.TheVariants.{WrongHeader}
use Rattle.text.specs.Decimal.{decimal}
use Rattle.line.specs.Lent.{PlacedAs}
use Rattle.list.specs.declared.kinds.Desk.{Desk}
use Rattle.list.specs.declared.kinds.Desk.TheVariants.{Launch, Bench}
use Rattle.list.specs.Kinds.{wrong_header}
use Rattle.list.proofs.replies.wrong_header.Goals as goal

pub returns-in-Launch : goal.returns-in-Launch
unfolding decimal
returns-in-Launch c =
    let s = c.args in
    subst (λ (d : Desk). PlacedAs (number_of WrongHeader) (wrong_header d) s.out.now c.place_text.new.out c.place_text.result) (sym c.in-Launch.is)
    (subst (λ (n : ℕ). PlacedAs n (wrong_header Launch) s.out.now c.place_text.new.out c.place_text.result) c.number-number.ensures c.place_text.ensures)

pub returns-in-Bench : goal.returns-in-Bench
unfolding decimal
returns-in-Bench c =
    let s = c.args in
    subst (λ (d : Desk). PlacedAs (number_of WrongHeader) (wrong_header d) s.out.now c.place_text-in-Bench.new.out c.place_text-in-Bench.result) (sym c.in-Bench.is)
    (subst (λ (n : ℕ). PlacedAs n (wrong_header Bench) s.out.now c.place_text-in-Bench.new.out c.place_text-in-Bench.result) c.number-number.ensures c.place_text-in-Bench.ensures)
