use Rattle.std.specs.Prelude.{Err, Ok}
use mathlib.Core.Path.{◌≡◌, sym, ap, ◌∙◌, subst}
use mathlib.Core.List.{List, [], ◌∷◌, ◌++◌, append_assoc, append-nil}
use native.Mathlib.Omega.{arith}
use Prim.Native.Nat.{ℕ}
use lib.ListN.{take}
use Rattle.whole.specs.Text.{ascii}
use Rattle.quantity.specs.Outcomes.{Follows}
use Rattle.law.specs.Answers.{stated_forward, no_ratio}
use Rattle.reading.specs.Forward.{forward_given}
use Rattle.text.specs.Columns.{values}
use Rattle.text.specs.Decimal.{decimal}
use Rattle.text.proofs.Names.{Repeated, repeated}
use Rattle.row.specs.declared.forward.ForwardRow.{ForwardRow}
use Rattle.row.specs.Forward.{columns}
use Rattle.line.specs.Writing.{commaed, refused_text}
use Rattle.line.specs.Lent.{PlacedAs}
use Rattle.line.proofs.Answers.{placed-answered, placed-refused}
use Rattle.bench.specs.Forward.{steps}
use Rattle.bench.proofs.forward.StepsKind.answer_row.Goals as goal

-- the ratio's column, and the code
ratio-text : (names w : List ℕ) → names ++ w ++ ascii ",0\r\n" ≡ names ++ commaed (w ∷ []) ++ ascii "0\r\n"
ratio-text names w =
    sym (append_assoc (names ++ w) (ascii ",") (ascii "0\r\n"))
    ∙ ap (λ (l : List ℕ). l ++ ascii "0\r\n") (append_assoc names w (ascii ",") ∙ ap (λ (l : List ℕ). names ++ l) (sym (append-nil (w ++ ascii ","))))

pub slice_bounds-names-end : goal.slice_bounds-names-end
slice_bounds-names-end c =
    let names : Repeated c.args.line.now c.args.row.names = repeated _ _ _ _ c.args.line.now c.requires.0 c.args.row.names (ap (λ (row : ForwardRow). row.names) c.requires.1) in
    names.long

pub place_ratio-requires : goal.place_ratio-requires
place_ratio-requires c =
    let names : Repeated c.args.line.now c.args.row.names = repeated _ _ _ _ c.args.line.now c.requires.0 c.args.row.names (ap (λ (row : ForwardRow). row.names) c.requires.1) in
    names.short

pub place_refused-requires : goal.place_refused-requires
place_refused-requires c =
    let names : Repeated c.args.line.now c.args.row.names = repeated _ _ _ _ c.args.line.now c.requires.0 c.args.row.names (ap (λ (row : ForwardRow). row.names) c.requires.1) in
    (names.short, omega arith)

pub returns-in-Ok : goal.returns-in-Ok
returns-in-Ok c =
    let names : Repeated c.args.line.now c.args.row.names = repeated _ _ _ _ c.args.line.now c.requires.0 c.args.row.names (ap (λ (row : ForwardRow). row.names) c.requires.1) in
    let follows : Follows (steps.rule (values columns c.args.line.now)) (stated_forward (Ok c.in-Ok.found)) = subst (λ (row : ForwardRow). Follows (forward_given row.certificate row.step.0) (stated_forward (Ok c.in-Ok.found))) c.requires.1 c.in-Ok.ensures in
    let found = c.in-Ok.found in
    let line = c.args.line.now in
    placed-answered steps line c.args.out.now c.place_ratio.new.out c.place_ratio.result c.requires.0 c.args.row.names names (stated_forward (Ok found)).answer follows
    (subst (λ (t : List ℕ). PlacedAs 0 t c.args.out.now c.place_ratio.new.out c.place_ratio.result) (ratio-text (take c.args.row.names line) (decimal found.ratio.0)) c.place_ratio.ensures)

pub returns-in-Err : goal.returns-in-Err
returns-in-Err c =
    let names : Repeated c.args.line.now c.args.row.names = repeated _ _ _ _ c.args.line.now c.requires.0 c.args.row.names (ap (λ (row : ForwardRow). row.names) c.requires.1) in
    let follows : Follows (steps.rule (values columns c.args.line.now)) (stated_forward (Err c.in-Err.why)) = subst (λ (row : ForwardRow). Follows (forward_given row.certificate row.step.0) (stated_forward (Err c.in-Err.why))) c.requires.1 c.in-Err.ensures in
    let why = c.in-Err.why in
    let line = c.args.line.now in
    placed-refused steps line c.args.out.now c.place_refused.new.out c.place_refused.result c.requires.0 c.args.row.names names no_ratio why follows
    (subst (λ (n : ℕ). PlacedAs n (refused_text (take c.args.row.names line) (ascii ",") n) c.args.out.now c.place_refused.new.out c.place_refused.result) c.number.ensures c.place_refused.ensures)
