-- All places are passed, so what was seen is what the whole table shows.
use Rattle.std.proofs.Common.{◌≡◌, sym, ◌∙◌, ap}
use Rattle.examination.specs.declared.testing.Seen.{Seen}
use Rattle.examination.specs.Testing.{nothing_seen}
use Rattle.register.proofs.lists.GatheredTests.{seen_all, seen_end, seen_from}
use Rattle.register.proofs.table.examine.Goals as goal

pub returns : goal.returns
returns c =
    let table = c.args.table.now in
    let is : c.loop-i.s ≡ seen_from table nothing_seen 0 table = sym (c.loop-i.invariant.goes_on ∙ seen_end table c.loop-i.s c.loop-i.i c.loop-i-test.false) in
    (ap (λ (s : Seen). s.bad) is ∙ (seen_all table).0, ap (λ (s : Seen). s.places) is ∙ (seen_all table).1)
