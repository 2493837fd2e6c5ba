use mathlib.Core.Path.{refl, sym, subst}
use mathlib.Core.List.{[]}
use Rattle.list.specs.declared.state.Stage.{Stage}
use Rattle.list.specs.Feeding.{EndedWith}
use Rattle.list.proofs.Nothing.{nothing_placed}
use Rattle.quantity.specs.Refusals.{number_of}
use Rattle.quantity.specs.declared.refusal.Refusal.TheVariants.{WrongHeader}
use Rattle.line.proofs.Buffers.{placed-or-short}
use Rattle.list.specs.Kinds.{wrong_header}
use Rattle.list.proofs.feeding.nothing_begun.Goals as goal

pub returns-in-Header : goal.returns-in-Header
returns-in-Header c =
    let desk = c.in-Header.desk in
    rw (c.in-Header.is, c.unwrap_or.ensures, c.no_room.ensures)
    (number_of WrongHeader, wrong_header desk, (refl, refl), placed-or-short (number_of WrongHeader) (wrong_header desk) c.args.out.now c.wrong_header.new.out c.wrong_header.result c.wrong_header.ensures)

pub returns-in-Rows : goal.returns-in-Rows
returns-in-Rows c =
    let s = c.args in
    subst (λ (g : Stage). EndedWith g [] s.out.now s.out.now (record { code = 0; wrote = 0 })) (sym c.in-Rows.is) (0, [], (refl, refl), nothing_placed s.out.now)

pub returns-in-Stopped : goal.returns-in-Stopped
returns-in-Stopped c =
    let s = c.args in
    subst (λ (g : Stage). EndedWith g [] s.out.now s.out.now (record { code = 0; wrote = 0 })) (sym c.in-Stopped.is) (0, [], (refl, refl), nothing_placed s.out.now)
