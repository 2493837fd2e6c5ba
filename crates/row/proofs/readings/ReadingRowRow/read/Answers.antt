use mathlib.Core.Path.{◌≡◌, ap, ◌∙◌}
use mathlib.Core.List.{List, [], ◌∷◌}
use native.Mathlib.Omega.{arith}
use Prim.Native.Nat.{ℕ}
use lib.ListN.{drop}
use mir.Facts.{to_z-of_z}
use mir.Val.{SFits}
use mir.Syntax.{w64}
use Rattle.text.specs.declared.field.Scanned.{Scanned}
use Rattle.text.specs.Fields.{field}
use mathlib.Core.Bool.{true}
use Rattle.text.specs.Columns.{Value, well_formed, count, integer, named, word, is_id, is_name, names_length}
use Rattle.text.specs.Scanned.{next_at}
use Rattle.text.proofs.Rows.{Scan, scan-no-row, done, a-name, a-natural, a_signed, an-id, from_start}
use Rattle.text.proofs.Names.{names-end}
use Rattle.row.specs.Readings.{columns, row_from, row_of}
use Rattle.row.proofs.Read.{no-row, read-row}
use borrow.Author.Rules.{rules}
use Rattle.row.proofs.readings.ReadingRowRow.read.Goals as goal

pub returns-then-wal-line : goal.returns-then-wal-line
returns-then-wal-line c =
    let line : List ℕ = c.args.line.now in
    let said : List Value = word (field (drop 0 (line)))
    ∷ named c.name_at-law.result.value
    ∷ count c.number_at-r.result.value
    ∷ count c.number_at-r0.result.value
    ∷ integer c.signed_at-a.result.value
    ∷ integer c.signed_at-b.result.value
    ∷ integer c.signed_at-c.result.value
    ∷ integer c.signed_at-d.result.value
    ∷ count c.number_at-wal.result.value
    ∷ [] in
    let scan : Scan line columns 0 c.number_at-wal.result.next said = an-id c.after_id.result (c.after_id.ensures ∙ from_start (line) is_id)
    (a-name c.name_at-law.result c.name_at-law.ensures
    (a-natural c.number_at-r.result c.number_at-r.ensures
    (a-natural c.number_at-r0.result c.number_at-r0.ensures
    (a_signed c.signed_at-a.result c.signed_at-a.ensures
    (a_signed c.signed_at-b.result c.signed_at-b.ensures
    (a_signed c.signed_at-c.result c.signed_at-c.ensures
    (a_signed c.signed_at-d.result c.signed_at-d.ensures
    (a-natural c.number_at-wal.result c.number_at-wal.ensures
    done)))))))) in
    no-row columns row_of line (scan-no-row line scan c.requires (λ e. omega (arith, c.if-wal-line.true, e)))

pub returns : goal.returns
returns c =
    let line : List ℕ = c.args.line.now in
    let said : List Value = word (field (drop 0 (line)))
    ∷ named c.name_at-law.result.value
    ∷ count c.number_at-r.result.value
    ∷ count c.number_at-r0.result.value
    ∷ integer c.signed_at-a.result.value
    ∷ integer c.signed_at-b.result.value
    ∷ integer c.signed_at-c.result.value
    ∷ integer c.signed_at-d.result.value
    ∷ count c.number_at-wal.result.value
    ∷ [] in
    let scan : Scan line columns 0 c.number_at-wal.result.next said = an-id c.after_id.result (c.after_id.ensures ∙ from_start (line) is_id)
    (a-name c.name_at-law.result c.name_at-law.ensures
    (a-natural c.number_at-r.result c.number_at-r.ensures
    (a-natural c.number_at-r0.result c.number_at-r0.ensures
    (a_signed c.signed_at-a.result c.signed_at-a.ensures
    (a_signed c.signed_at-b.result c.signed_at-b.ensures
    (a_signed c.signed_at-c.result c.signed_at-c.ensures
    (a_signed c.signed_at-d.result c.signed_at-d.ensures
    (a-natural c.number_at-wal.result c.number_at-wal.ensures
    done)))))))) in
    let names : well_formed columns line ≡ true → c.name_at-law.result.next ≡ names_length line =
    λ w. ap (λ (x : Scanned ℕ). x.next) c.name_at-law.ensures ∙ ap (next_at is_name line) (c.after_id.ensures ∙ from_start line is_id) ∙ names-end _ _ _ _ line w in
    let known-a : SFits w64 c.signed_at-a.result.value = search rules in
    let known-b : SFits w64 c.signed_at-b.result.value = search rules in
    let known-c : SFits w64 c.signed_at-c.result.value = search rules in
    let known-d : SFits w64 c.signed_at-d.result.value = search rules in
    rw (to_z-of_z known-a, to_z-of_z known-b, to_z-of_z known-c, to_z-of_z known-d) (read-row columns row_from line scan c.requires c.if-wal-line.false c.name_at-law.result.next names)
