use Rattle.list.proofs.Feeds.{none-held, at_start}
use Rattle.list.proofs.feeding.feed.Goals as goal

pub returns-then-begun-eq0 : goal.returns-then-begun-eq0
returns-then-begun-eq0 c =
    let st = c.args.state in
    let none = none-held st.count c.held_count-begun.result c.held_count-begun.ensures c.if-begun-eq0.true in
    c.feed_on.ensures st c.args.out.now (rw c.no_lines.ensures (at_start st c.args.chunk.now c.args.out.now none))
