use mathlib.Core.Path.{ap, subst}
use mathlib.Core.List.{List}
use Rattle.quantity.specs.Outcomes.{Follows}
use Rattle.certificate.specs.Certificate.{stated}
use Rattle.certificate.specs.Resistances.{resistances_rule}
use Rattle.text.specs.Columns.{Value}
use Rattle.text.proofs.Names.{Repeated, repeated}
use Rattle.row.specs.declared.resistances.ResistancesRow.{ResistancesRow}
use Rattle.row.specs.Resistances.{columns, resistances_from}
use Rattle.bench.proofs.Rows.{certificate_answered}
use Rattle.bench.proofs.certificates.RecordsByResistancesKind.answer_row.Goals as goal

pub slice_bounds-place_answer-end : goal.slice_bounds-place_answer-end
slice_bounds-place_answer-end c =
    let names : Repeated c.args.line.now c.args.row.names = repeated _ _ _ _ c.args.line.now c.requires.0 c.args.row.names (ap (λ (row : ResistancesRow). row.names) c.requires.1) in
    names.long

pub place_answer-requires : goal.place_answer-requires
place_answer-requires c =
    let names : Repeated c.args.line.now c.args.row.names = repeated _ _ _ _ c.args.line.now c.requires.0 c.args.row.names (ap (λ (row : ResistancesRow). row.names) c.requires.1) in
    names.short

pub returns : goal.returns
returns c =
    let names : Repeated c.args.line.now c.args.row.names = repeated _ _ _ _ c.args.line.now c.requires.0 c.args.row.names (ap (λ (row : ResistancesRow). row.names) c.requires.1) in
    let s = c.args in
    let follows = subst (λ (row : ResistancesRow). Follows (resistances_rule row.cells) (stated c.certify.result)) c.requires.1 c.certify.ensures in
    certificate_answered columns (λ (row : List Value). resistances_rule (resistances_from row)) s.line.now s.out.now c.place_answer.new.out c.place_answer.result c.requires.0 s.row.names names c.certify.result follows c.place_answer.ensures
