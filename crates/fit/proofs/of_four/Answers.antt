use mathlib.Core.Path.{◌≡◌, refl, sym, ◌∙◌}
use mathlib.Core.Bool.{true, true≢false}
use Rattle.fit.specs.Fit.{of_three, beyond}
use Rattle.fit.proofs.Within.{silver_beyond}
use Rattle.fit.proofs.of_four.Goals as goal

pub returns-then-beyond : goal.returns-then-beyond
returns-then-beyond c = let three = of_three c.args.p1 c.args.p2 c.args.p3 in
    let far : beyond three ≡ true = rw c.of_three-k.ensures at (sym c.beyond.ensures ∙ c.if-beyond.true) in
    rw c.of_three-k.ensures (record { verdict = far ∙ sym (silver_beyond three c.args.p3 c.args.p4 refl far); same = λ e. absurd (true≢false (sym far ∙ e)) })
