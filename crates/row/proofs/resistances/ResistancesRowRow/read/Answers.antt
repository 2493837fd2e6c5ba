use mathlib.Core.Path.{◌≡◌, ap, ◌∙◌}
use mathlib.Core.Bool.{true}
use mathlib.Core.List.{List, [], ◌∷◌}
use native.Mathlib.Omega.{arith}
use Prim.Native.Nat.{ℕ}
use lib.ListN.{drop}
use Rattle.text.specs.declared.field.Scanned.{Scanned}
use Rattle.text.specs.Fields.{field}
use Rattle.text.specs.Columns.{Value, well_formed, word, named, count, is_id, is_name, names_length}
use Rattle.text.specs.Scanned.{next_at}
use Rattle.text.proofs.Rows.{Scan, scan-no-row, done, an-id, a-name, from_start}
use Rattle.text.proofs.Names.{names-end}
use Rattle.row.specs.Resistances.{columns, row_from, row_of}
use Rattle.row.proofs.Read.{no-row, read-row}
use Rattle.row.proofs.Pairs.{a_pair}
use Rattle.row.proofs.resistances.ResistancesRowRow.read.Goals as goal

pub returns-then-ag-line : goal.returns-then-ag-line
returns-then-ag-line c =
    let line : List ℕ = c.args.line.now in
    let said : List Value = word (field (drop 0 (line)))
    ∷ named c.name_at-subrange.result.value
    ∷ count c.pair_at-hg.result.value.r.0
    ∷ count c.pair_at-hg.result.value.r0.0
    ∷ count c.pair_at-ga.result.value.r.0
    ∷ count c.pair_at-ga.result.value.r0.0
    ∷ count c.pair_at-in_.result.value.r.0
    ∷ count c.pair_at-in_.result.value.r0.0
    ∷ count c.pair_at-sn.result.value.r.0
    ∷ count c.pair_at-sn.result.value.r0.0
    ∷ count c.pair_at-zn.result.value.r.0
    ∷ count c.pair_at-zn.result.value.r0.0
    ∷ count c.pair_at-al.result.value.r.0
    ∷ count c.pair_at-al.result.value.r0.0
    ∷ count c.pair_at-ag.result.value.r.0
    ∷ count c.pair_at-ag.result.value.r0.0
    ∷ [] in
    let scan : Scan line columns 0 c.pair_at-ag.result.next said = an-id c.after_id.result (c.after_id.ensures ∙ from_start (line) is_id)
    (a-name c.name_at-subrange.result c.name_at-subrange.ensures
    (a_pair c.pair_at-hg.result c.pair_at-hg.ensures
    (a_pair c.pair_at-ga.result c.pair_at-ga.ensures
    (a_pair c.pair_at-in_.result c.pair_at-in_.ensures
    (a_pair c.pair_at-sn.result c.pair_at-sn.ensures
    (a_pair c.pair_at-zn.result c.pair_at-zn.ensures
    (a_pair c.pair_at-al.result c.pair_at-al.ensures
    (a_pair c.pair_at-ag.result c.pair_at-ag.ensures
    done)))))))) in
    no-row columns row_of line (scan-no-row line scan c.requires (λ e. omega (arith, c.if-ag-line.true, e)))

pub returns : goal.returns
returns c =
    let line : List ℕ = c.args.line.now in
    let said : List Value = word (field (drop 0 (line)))
    ∷ named c.name_at-subrange.result.value
    ∷ count c.pair_at-hg.result.value.r.0
    ∷ count c.pair_at-hg.result.value.r0.0
    ∷ count c.pair_at-ga.result.value.r.0
    ∷ count c.pair_at-ga.result.value.r0.0
    ∷ count c.pair_at-in_.result.value.r.0
    ∷ count c.pair_at-in_.result.value.r0.0
    ∷ count c.pair_at-sn.result.value.r.0
    ∷ count c.pair_at-sn.result.value.r0.0
    ∷ count c.pair_at-zn.result.value.r.0
    ∷ count c.pair_at-zn.result.value.r0.0
    ∷ count c.pair_at-al.result.value.r.0
    ∷ count c.pair_at-al.result.value.r0.0
    ∷ count c.pair_at-ag.result.value.r.0
    ∷ count c.pair_at-ag.result.value.r0.0
    ∷ [] in
    let scan : Scan line columns 0 c.pair_at-ag.result.next said = an-id c.after_id.result (c.after_id.ensures ∙ from_start (line) is_id)
    (a-name c.name_at-subrange.result c.name_at-subrange.ensures
    (a_pair c.pair_at-hg.result c.pair_at-hg.ensures
    (a_pair c.pair_at-ga.result c.pair_at-ga.ensures
    (a_pair c.pair_at-in_.result c.pair_at-in_.ensures
    (a_pair c.pair_at-sn.result c.pair_at-sn.ensures
    (a_pair c.pair_at-zn.result c.pair_at-zn.ensures
    (a_pair c.pair_at-al.result c.pair_at-al.ensures
    (a_pair c.pair_at-ag.result c.pair_at-ag.ensures
    done)))))))) in
    let names : well_formed columns line ≡ true → c.name_at-subrange.result.next ≡ names_length line =
    λ w. ap (λ (x : Scanned ℕ). x.next) c.name_at-subrange.ensures ∙ ap (next_at is_name line) (c.after_id.ensures ∙ from_start line is_id) ∙ names-end _ _ _ _ line w in
    read-row columns row_from line scan c.requires c.if-ag-line.false c.name_at-subrange.result.next names
