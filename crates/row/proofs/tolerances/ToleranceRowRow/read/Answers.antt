use mathlib.Core.Path.{◌≡◌, ap, ◌∙◌}
use mathlib.Core.List.{List, [], ◌∷◌}
use native.Mathlib.Omega.{arith}
use Prim.Native.Nat.{ℕ}
use lib.ListN.{drop}
use mir.Facts.{to_z-of_z}
use mir.Val.{SFits}
use mir.Syntax.{w64}
use Rattle.text.specs.declared.field.Scanned.{Scanned}
use Rattle.text.specs.Fields.{field}
use mathlib.Core.Bool.{true}
use Rattle.text.specs.Columns.{Value, well_formed, byte, count, integer, word, is_id, is_letter, names_length}
use Rattle.text.specs.Scanned.{next_at}
use Rattle.text.proofs.Rows.{Scan, scan-no-row, done, a-letter, a-natural, a_signed, an-id, from_start}
use Rattle.text.proofs.Names.{names-end}
use Rattle.row.specs.Tolerances.{columns, row_from, row_of}
use Rattle.row.proofs.Read.{no-row, read-row}
use borrow.Author.Rules.{rules}
use Rattle.row.proofs.tolerances.ToleranceRowRow.read.Goals as goal

pub returns-then-r0-line : goal.returns-then-r0-line
returns-then-r0-line c =
    let line : List ℕ = c.args.line.now in
    let said : List Value = word (field (drop 0 (line)))
    ∷ byte c.letter_at-class.result.value
    ∷ integer c.signed_at-t.result.value
    ∷ count c.number_at-r.result.value
    ∷ count c.number_at-r0.result.value
    ∷ [] in
    let scan : Scan line columns 0 c.number_at-r0.result.next said = an-id c.after_id.result (c.after_id.ensures ∙ from_start (line) is_id)
    (a-letter c.letter_at-class.result c.letter_at-class.ensures
    (a_signed c.signed_at-t.result c.signed_at-t.ensures
    (a-natural c.number_at-r.result c.number_at-r.ensures
    (a-natural c.number_at-r0.result c.number_at-r0.ensures
    done)))) in
    no-row columns row_of line (scan-no-row line scan c.requires (λ e. omega (arith, c.if-r0-line.true, e)))

pub returns : goal.returns
returns c =
    let line : List ℕ = c.args.line.now in
    let said : List Value = word (field (drop 0 (line)))
    ∷ byte c.letter_at-class.result.value
    ∷ integer c.signed_at-t.result.value
    ∷ count c.number_at-r.result.value
    ∷ count c.number_at-r0.result.value
    ∷ [] in
    let scan : Scan line columns 0 c.number_at-r0.result.next said = an-id c.after_id.result (c.after_id.ensures ∙ from_start (line) is_id)
    (a-letter c.letter_at-class.result c.letter_at-class.ensures
    (a_signed c.signed_at-t.result c.signed_at-t.ensures
    (a-natural c.number_at-r.result c.number_at-r.ensures
    (a-natural c.number_at-r0.result c.number_at-r0.ensures
    done)))) in
    let names : well_formed columns line ≡ true → c.letter_at-class.result.next ≡ names_length line =
    λ w. ap (λ (x : Scanned ℕ). x.next) c.letter_at-class.ensures ∙ ap (next_at is_letter line) (c.after_id.ensures ∙ from_start line is_id) ∙ names-end _ _ _ _ line w in
    let known-t : SFits w64 c.signed_at-t.result.value = search rules in
    rw (to_z-of_z known-t) (read-row columns row_from line scan c.requires c.if-r0-line.false c.letter_at-class.result.next names)
