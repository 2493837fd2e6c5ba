use Rattle.line.proofs.Buffers.{placed-or-short}
use Rattle.list.proofs.Feeds.{held_is, due-last}
use Rattle.lines.specs.Held.{most_held}
use Rattle.list.specs.Feeding.{line_of, EndedWith}
use lib.Seq.{length-take-le}
use lib.ListN.{length, take}
use Prim.Native.Nat.{ℕ, ◌≤◌}
use native.Mathlib.Omega.{arith}
use mathlib.Core.List.{List}
use mathlib.Core.Path.{◌≡◌, sym, subst}
use borrow.Author.Rules.{rules}
use Rattle.list.proofs.feeding.finish.Goals as goal

pub returns : goal.returns
returns c =
    let held-known : (c.held_count-count.result ≤ most_held) × (line_of c.args.state ≡ take c.held_count-count.result c.args.state.held) = let long : length c.args.state.held ≡ most_held = search rules in
    held_is c.args.state.held c.args.state.count c.held_count-count.result long c.held_count-count.ensures in
    let st = c.args.state in
    let known = held-known in
    let long : length st.held ≡ most_held = search rules in
    let n = c.held_count-count.result in
    let r = c.reply_to.ensures in
    let some : 1 ≤ length (take n st.held) = rw (length-take-le n st.held (omega (arith, known.0))) (omega arith) in
    subst (λ (l : List ℕ). EndedWith st.stage l c.args.out.now c.reply_to.new.out c.unwrap_or.result) (sym known.1)
    (r.0, r.1, due-last st.stage (take n st.held) r.0 r.1 some r.2, rw (c.unwrap_or.ensures, c.no_room.ensures) (placed-or-short r.0 r.1 c.args.out.now c.reply_to.new.out c.reply_to.result.answer r.3))
