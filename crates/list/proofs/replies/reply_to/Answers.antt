use mathlib.Core.Path.{refl, sym, subst}
use mathlib.Core.List.{[]}
use Rattle.std.specs.Prelude.{Some}
use Rattle.list.specs.declared.state.Stage.{Stage}
use Rattle.list.specs.declared.state.Stage.TheVariants.{Stopped}
use Rattle.list.specs.Replies.{RepliedAs}
use Rattle.list.proofs.Nothing.{nothing-fits}
use Rattle.list.proofs.replies.reply_to.Goals as goal

pub returns-in-Stopped : goal.returns-in-Stopped
returns-in-Stopped c =
    let s = c.args in
    subst (λ (g : Stage). RepliedAs g s.line.now s.out.now s.out.now (record { answer = Some (record { code = 0; wrote = 0 }); stage = Stopped })) (sym c.in-Stopped.is)
    (0, [], (refl, refl), nothing-fits s.out.now, refl)
