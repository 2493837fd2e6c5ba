use Rattle.std.specs.Prelude.{Err, Ok}
use mathlib.Core.Path.{◌≡◌, sym, ap, ◌∙◌, subst}
use mathlib.Core.List.{List, [], ◌∷◌, ◌++◌, append_assoc, append-nil}
use native.Mathlib.Omega.{arith}
use Prim.Native.Nat.{ℕ}
use lib.IntN.{ℤ}
use lib.ListN.{take}
use mir.Facts.{to_z-of_z}
use mir.Val.{SFits}
use mir.Syntax.{w64}
use Rattle.whole.specs.Text.{ascii}
use Rattle.quantity.specs.Outcomes.{Follows}
use Rattle.curve.specs.Tolerance.{stated, no_result, tolerance_test}
use Rattle.text.specs.Columns.{values}
use Rattle.text.specs.Decimal.{signed_decimal}
use Rattle.text.proofs.Names.{Repeated, repeated}
use Rattle.row.specs.declared.tolerances.ToleranceRow.{ToleranceRow}
use Rattle.row.specs.Tolerances.{columns}
use Rattle.line.specs.Writing.{commaed, refused_text}
use Rattle.line.specs.Lent.{PlacedAs}
use Rattle.line.proofs.Answers.{placed-answered, placed-refused}
use Rattle.bench.specs.Tolerances.{tolerances, result_word}
use borrow.Author.Rules.{rules}
use Rattle.bench.proofs.tolerances.TolerancesKind.answer_row.Goals as goal

-- the result's two columns, and the code
result-text : (names word error : List ℕ) → names ++ (word ++ ascii ",") ++ (error ++ ascii ",") ++ ascii "0\r\n" ≡ names ++ commaed (word ∷ error ∷ []) ++ ascii "0\r\n"
result-text names word error =
    ap (λ (l : List ℕ). l ++ ascii "0\r\n") (append_assoc names (word ++ ascii ",") (error ++ ascii ",") ∙ ap (λ (l : List ℕ). names ++ ((word ++ ascii ",") ++ l)) (sym (append-nil (error ++ ascii ","))))

pub slice_bounds-names-end : goal.slice_bounds-names-end
slice_bounds-names-end c =
    let names : Repeated c.args.line.now c.args.row.names = repeated _ _ _ _ c.args.line.now c.requires.0 c.args.row.names (ap (λ (row : ToleranceRow). row.names) c.requires.1) in
    names.long

pub place_result-requires : goal.place_result-requires
place_result-requires c =
    let names : Repeated c.args.line.now c.args.row.names = repeated _ _ _ _ c.args.line.now c.requires.0 c.args.row.names (ap (λ (row : ToleranceRow). row.names) c.requires.1) in
    names.short

pub place_refused-requires : goal.place_refused-requires
place_refused-requires c =
    let names : Repeated c.args.line.now c.args.row.names = repeated _ _ _ _ c.args.line.now c.requires.0 c.args.row.names (ap (λ (row : ToleranceRow). row.names) c.requires.1) in
    (names.short, omega arith)

pub returns-in-Ok : goal.returns-in-Ok
returns-in-Ok c =
    let names : Repeated c.args.line.now c.args.row.names = repeated _ _ _ _ c.args.line.now c.requires.0 c.args.row.names (ap (λ (row : ToleranceRow). row.names) c.requires.1) in
    let follows : Follows (tolerances.rule (values columns c.args.line.now)) (stated (Ok c.in-Ok.x)) = subst (λ (row : ToleranceRow). Follows (tolerance_test row.class row.bath.0 row.r.0 row.r0.0) (stated (Ok c.in-Ok.x))) c.requires.1 c.in-Ok.ensures in
    let known : SFits w64 c.in-Ok.x.error = search rules in
    let x = c.in-Ok.x in
    let line = c.args.line.now in
    placed-answered tolerances line c.args.out.now c.place_result.new.out c.place_result.result c.requires.0 c.args.row.names names (stated (Ok x)).answer follows
    (subst (λ (t : List ℕ). PlacedAs 0 t c.args.out.now c.place_result.new.out c.place_result.result)
    (ap (λ (z : ℤ). take c.args.row.names line ++ (result_word x.passes ++ ascii ",") ++ (signed_decimal z ++ ascii ",") ++ ascii "0\r\n") (to_z-of_z known)
    ∙ result-text (take c.args.row.names line) (result_word x.passes) (signed_decimal x.error)) c.place_result.ensures)

pub returns-in-Err : goal.returns-in-Err
returns-in-Err c =
    let names : Repeated c.args.line.now c.args.row.names = repeated _ _ _ _ c.args.line.now c.requires.0 c.args.row.names (ap (λ (row : ToleranceRow). row.names) c.requires.1) in
    let follows : Follows (tolerances.rule (values columns c.args.line.now)) (stated (Err c.in-Err.why)) = subst (λ (row : ToleranceRow). Follows (tolerance_test row.class row.bath.0 row.r.0 row.r0.0) (stated (Err c.in-Err.why))) c.requires.1 c.in-Err.ensures in
    let why = c.in-Err.why in
    let line = c.args.line.now in
    placed-refused tolerances line c.args.out.now c.place_refused.new.out c.place_refused.result c.requires.0 c.args.row.names names no_result why follows
    (subst (λ (n : ℕ). PlacedAs n (refused_text (take c.args.row.names line) (ascii ",,") n) c.args.out.now c.place_refused.new.out c.place_refused.result) c.number.ensures c.place_refused.ensures)
