-- The partial line is held on, or its answer has no room, or it is answered and the rest of the chunk is fed.
use mathlib.Core.Path.{◌≡◌, sym, ap, ◌∙◌, subst}
use mathlib.Core.List.{List, [], ◌++◌}
use native.Mathlib.Omega.{arith}
use Prim.Native.Nat.{ℕ, ◌-◌, ◌≤◌, ◌<◌}
use lib.ListN.{length, get_or, take}
use borrow.Author.Rules.{rules}
use Rattle.lines.specs.Ends.{EndsAt}
use Rattle.lines.specs.Lines.{last_byte, all_but_last}
use Rattle.lines.specs.Held.{most_held, capped, Appended}
use Rattle.lines.proofs.Lines.{front_take}
use Rattle.lines.proofs.Appending.{appended-held, appended-few}
use Rattle.list.specs.declared.state.State.{State}
use Rattle.list.specs.declared.state.Stage.{Stage}
use Rattle.list.specs.declared.replies.Reply.{Reply}
use Rattle.list.specs.Tallies.{tally_of, with_line}
use Rattle.list.specs.Feeding.{line_of}
use Rattle.list.specs.Replies.{RepliedAs}
use Rattle.list.proofs.Feeds.{replied-written, replied-short, last-held, held-begun, held-full, held_at, standing_held}
use Rattle.list.proofs.feeding.feed_held.Goals as goal

-- The partial line ends there, or the chunk does; and what is held of it then.
record Ends (st : State) (chunk held : List ℕ) (i count : ℕ) : Type 0 where
  here : EndsAt (line_of st) chunk i
  line-is : take count held ≡ capped (line_of st ++ take i chunk)
  long : count ≤ length held

ends : (st : State) (chunk held : List ℕ) (begun i count : ℕ) → length st.held ≡ most_held → (1 ≤ begun) × (begun ≤ most_held) × (line_of st ≡ take begun st.held)
    → ((line : List ℕ) → last_byte line ≡ get_or st.held (begun - 1) 0 → EndsAt line chunk i) → Appended st.held begun (take i chunk) held count → length held ≡ length st.held → Ends st chunk held i count
ends st chunk held begun i count long (some, few, is) e a kept = record {
  here = e (line_of st) (ap last_byte is ∙ last-held st.held begun some (omega (arith, few)));
  line-is = appended-held a ∙ ap (λ (l : List ℕ). capped (l ++ take i chunk)) (sym is);
  long = omega (arith, appended-few a);
}

-- The reply to it.
reply : (g : Stage) (held out left : List ℕ) (count : ℕ) (x : Reply) → count ≤ length held → RepliedAs g (take (count - 1) held) out left x → RepliedAs g (all_but_last (take count held)) out left x
reply g held out left count x h r = subst (λ (l : List ℕ). RepliedAs g l out left x) (sym (front_take count held h)) r

-- the chunk does not end it
pub returns-then-end-chunk : goal.returns-then-end-chunk
returns-then-end-chunk c =
    let st = c.args.state in
    let held = c.append-count.new.held in
    let i = c.line_end-end.result in
    let count = c.append-count.result in
    let e = ends st c.args.chunk.now held c.args.begun i count (search rules) c.requires c.line_end-end.ensures c.append-count.ensures c.append-count.auto.held in
    rw c.no_lines.ensures (held-begun st c.args.chunk.now c.args.out.now i held count e.here e.line-is c.if-end-chunk.true)

-- its answer has no room
pub returns-in_default : goal.returns-in_default
returns-in_default c =
    let st = c.args.state in
    let chunk = c.args.chunk.now in
    let out = c.args.out.now in
    let held = c.append-count.new.held in
    let i = c.line_end-end.result in
    let count = c.append-count.result in
    let left = c.reply_to-reply.new.out in
    let r = c.reply_to-reply.result in
    let e = ends st chunk held c.args.begun i count (search rules) c.requires c.line_end-end.ensures c.append-count.ensures c.append-count.auto.held in
    let more : i < length chunk = omega (arith, e.here.within, c.if-end-chunk.false) in
    let short = replied-short st.stage (all_but_last (take count held)) out left r (reply st.stage held out left count r e.long c.reply_to-reply.ensures) c.in_default.is in
    rw (c.no_lines-in_default.ensures, c.number.ensures) (held-full st chunk out i held count e.here e.line-is more left short)

-- it is answered
pub overflow_add-place : goal.overflow_add-place
overflow_add-place c =
    let st = c.args.state in
    let e = ends st c.args.chunk.now c.append-count.new.held c.args.begun c.line_end-end.result c.append-count.result (search rules) c.requires c.line_end-end.ensures c.append-count.ensures c.append-count.auto.held in
    omega (arith, e.here.within, c.if-end-chunk.false)

pub feed_on-requires : goal.feed_on-requires
feed_on-requires c =
    let st = c.args.state in
    let chunk = c.args.chunk.now in
    let out = c.args.out.now in
    let held = c.append-count.new.held in
    let i = c.line_end-end.result in
    let count = c.append-count.result in
    let left = c.reply_to-reply.new.out in
    let r = c.reply_to-reply.result in
    let x = c.in-Some.x in
    let e = ends st chunk held c.args.begun i count (search rules) c.requires c.line_end-end.ensures c.append-count.ensures c.append-count.auto.held in
    let more : i < length chunk = omega (arith, e.here.within, c.if-end-chunk.false) in
    let written = replied-written st.stage (all_but_last (take count held)) out left r (reply st.stage held out left count r e.long c.reply_to-reply.ensures) x c.in-Some.is in
    let tally-is : c.with_line.result ≡ with_line (tally_of []) x.code = c.with_line.ensures ∙ rw c.no_lines-2.ensures in
    rw tally-is (standing_held (omega arith) (omega (arith, more)) written c.reply_to-reply.auto.out)

pub returns : goal.returns
returns c =
    let st = c.args.state in
    let chunk = c.args.chunk.now in
    let out = c.args.out.now in
    let held = c.append-count.new.held in
    let i = c.line_end-end.result in
    let count = c.append-count.result in
    let left = c.reply_to-reply.new.out in
    let r = c.reply_to-reply.result in
    let x = c.in-Some.x in
    let e = ends st chunk held c.args.begun i count (search rules) c.requires c.line_end-end.ensures c.append-count.ensures c.append-count.auto.held in
    let more : i < length chunk = omega (arith, e.here.within, c.if-end-chunk.false) in
    let written = replied-written st.stage (all_but_last (take count held)) out left r (reply st.stage held out left count r e.long c.reply_to-reply.ensures) x c.in-Some.is in
    let tally-is : c.with_line.result ≡ with_line (tally_of []) x.code = c.with_line.ensures ∙ rw c.no_lines-2.ensures in
    c.feed_on.ensures st out (rw tally-is (held_at st chunk out i held count e.here e.line-is more left x r.stage written))
