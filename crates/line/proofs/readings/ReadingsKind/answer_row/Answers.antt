use Rattle.std.specs.Prelude.{Err, Ok}
use mathlib.Core.Path.{◌≡◌, sym, ap, ◌∙◌, subst}
use mathlib.Core.List.{List, [], ◌∷◌, ◌++◌, append_assoc, append-nil}
use native.Mathlib.Omega.{arith}
use Prim.Native.Nat.{ℕ}
use lib.ListN.{take}
use Rattle.whole.specs.Text.{ascii}
use Rattle.quantity.specs.Outcomes.{Follows}
use Rattle.law.specs.Answers.{stated, no_step}
use Rattle.reading.specs.Reading.{read_given}
use Rattle.text.specs.Columns.{values}
use Rattle.text.specs.Decimal.{signed_decimal}
use Rattle.text.proofs.Names.{Repeated, repeated}
use Rattle.row.specs.declared.readings.ReadingRow.{ReadingRow}
use Rattle.row.specs.Readings.{columns}
use Rattle.line.specs.Readings.{readings}
use Rattle.line.specs.Writing.{commaed, read_text, refused_text}
use Rattle.line.specs.Lent.{PlacedAs}
use Rattle.line.proofs.Answers.{placed-answered, placed-refused}
use Rattle.line.proofs.readings.ReadingsKind.answer_row.Goals as goal

-- the step's column, and the code
read-text : (names t : List ℕ) → read_text names t ≡ names ++ commaed (t ∷ []) ++ ascii "0\r\n"
read-text names t =
    sym (append_assoc (names ++ t) (ascii ",") (ascii "0\r\n"))
    ∙ ap (λ (l : List ℕ). l ++ ascii "0\r\n") (append_assoc names t (ascii ",") ∙ ap (λ (l : List ℕ). names ++ l) (sym (append-nil (t ++ ascii ","))))

pub slice_bounds-names-end : goal.slice_bounds-names-end
slice_bounds-names-end c =
    let names : Repeated c.args.line.now c.args.row.names = repeated _ _ _ _ c.args.line.now c.requires.0 c.args.row.names (ap (λ (row : ReadingRow). row.names) c.requires.1) in
    names.long

pub put_step-requires : goal.put_step-requires
put_step-requires c =
    let names : Repeated c.args.line.now c.args.row.names = repeated _ _ _ _ c.args.line.now c.requires.0 c.args.row.names (ap (λ (row : ReadingRow). row.names) c.requires.1) in
    names.short

pub place_refused-requires : goal.place_refused-requires
place_refused-requires c =
    let names : Repeated c.args.line.now c.args.row.names = repeated _ _ _ _ c.args.line.now c.requires.0 c.args.row.names (ap (λ (row : ReadingRow). row.names) c.requires.1) in
    (names.short, omega arith)

pub returns-in-Ok : goal.returns-in-Ok
returns-in-Ok c =
    let names : Repeated c.args.line.now c.args.row.names = repeated _ _ _ _ c.args.line.now c.requires.0 c.args.row.names (ap (λ (row : ReadingRow). row.names) c.requires.1) in
    let reading = c.in-Ok.reading in
    let reads : Follows (readings.rule (values columns c.args.line.now)) (stated (Ok reading)) =
    subst (λ (row : ReadingRow). Follows (read_given row.certificate row.r.0 row.r0.0) (stated (Ok reading))) c.requires.1 c.in-Ok.ensures in
    let line = c.args.line.now in
    placed-answered readings line c.args.out.now c.put_step.new.out c.put_step.result c.requires.0 c.args.row.names names (stated (Ok reading)).answer reads
    (subst (λ (t : List ℕ). PlacedAs 0 t c.args.out.now c.put_step.new.out c.put_step.result) (read-text (take c.args.row.names line) (signed_decimal reading.step.0)) c.put_step.ensures)

pub returns-in-Err : goal.returns-in-Err
returns-in-Err c =
    let names : Repeated c.args.line.now c.args.row.names = repeated _ _ _ _ c.args.line.now c.requires.0 c.args.row.names (ap (λ (row : ReadingRow). row.names) c.requires.1) in
    let why = c.in-Err.why in
    let reads : Follows (readings.rule (values columns c.args.line.now)) (stated (Err why)) =
    subst (λ (row : ReadingRow). Follows (read_given row.certificate row.r.0 row.r0.0) (stated (Err why))) c.requires.1 c.in-Err.ensures in
    let line = c.args.line.now in
    placed-refused readings line c.args.out.now c.place_refused.new.out c.place_refused.result c.requires.0 c.args.row.names names no_step why reads
    (subst (λ (n : ℕ). PlacedAs n (refused_text (take c.args.row.names line) (ascii ",") n) c.args.out.now c.place_refused.new.out c.place_refused.result) c.number.ensures c.place_refused.ensures)
