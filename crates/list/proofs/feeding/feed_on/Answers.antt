-- After each turn one line more is answered, until the chunk is used or an answer has no room.
use borrow.Rule.Slice.PartMut.{put_mid}
use mathlib.Core.Path.{◌≡◌, refl, sym, ap, ◌∙◌, subst}
use mathlib.Core.List.{List, []}
use native.Mathlib.Omega.{arith}
use Prim.Native.Nat.{ℕ, ◌+◌, ◌-◌, ◌≤◌, ◌<◌}
use lib.ListN.{length, take, drop, length-append, length-drop}
use lib.Seq.{take_all, length-take-le}
use Rattle.quantity.specs.Refusals.{number_of}
use Rattle.quantity.specs.declared.refusal.Refusal.TheVariants.{BufferShort}
use Rattle.lines.specs.Ends.{EndsAt}
use Rattle.lines.specs.Lines.{last_byte}
use Rattle.lines.proofs.Lines.{ends_after_some}
use Rattle.list.specs.declared.state.Stage.{Stage}
use Rattle.list.specs.declared.replies.Reply.{Reply}
use Rattle.list.specs.Replies.{RepliedAs, HeldAs}
use Rattle.list.proofs.Feeds.{Going, next_place, standing_more, fed-begun, fed-full, fed_all, at_more, replied-written, replied-short, part_is, put_last}
use Rattle.list.proofs.feeding.feed_on.Goals as goal

-- The next line ends there, or the chunk does.
record Ends (chunk : List ℕ) (from i : ℕ) : Type 0 where
  here : EndsAt [] (drop from chunk) i
  within : from + i ≤ length chunk
  some : (from + i ≡ length chunk → ⊥) → 1 ≤ i

ends : (chunk : List ℕ) (from i : ℕ) → from ≤ length chunk → ((line : List ℕ) → last_byte line ≡ 0 → EndsAt line (take (length chunk - from) (drop from chunk)) i) → Ends chunk from i
ends chunk from i h e =
    let here : EndsAt [] (drop from chunk) i = subst (λ (s : List ℕ). EndsAt [] s i) (part_is chunk from) (e [] refl) in
    let within : from + i ≤ length chunk = omega (arith, here.within, length-drop from chunk) in
    record {
      here = here;
      within = within;
      some = λ more. ends_after_some (drop from chunk) i here (rw (length-drop from chunk) (omega arith));
    }

-- What is held of the chunk where it does not end the line, and where it does.
held_whole : (chunk : List ℕ) (from i : ℕ) → from + i ≡ length chunk → take (length chunk - from) (drop from chunk) ≡ take i (drop from chunk)
held_whole chunk from i e = part_is chunk from ∙ sym (take_all i (drop from chunk) (rw (length-drop from chunk) (omega arith)))

held_part : (chunk : List ℕ) (from i : ℕ) → take (from + i - from) (drop from chunk) ≡ take i (drop from chunk)
held_part chunk from i =
    let count : from + i - from ≡ i = omega arith in
    ap (λ (n : ℕ). take n (drop from chunk)) count

-- The reply to that line, in what is left of the buffer.
reply : (g : Stage) (chunk out left : List ℕ) (from at i : ℕ) (x : Reply) → RepliedAs g (take (from + i - 1 - from) (drop from chunk)) (take (length out - at) (drop at out)) left x
    → RepliedAs g (take (i - 1) (drop from chunk)) (drop at out) left x
reply g chunk out left from at i x h =
    let count : from + i - 1 - from ≡ i - 1 = omega arith in
    subst (λ (n : ℕ). RepliedAs g (take n (drop from chunk)) (drop at out) left x) count
    (subst (λ (s : List ℕ). RepliedAs g (take (from + i - 1 - from) (drop from chunk)) s left x) (part_is out at) h)

-- The buffer with it is as long as before.
buffer_long : (out left : List ℕ) (at : ℕ) → at ≤ length out → length left ≡ length (take (length out - at) (drop at out)) → length (put_mid at (length out - at) out left) ≡ length out
buffer_long out left at h e =
    ap length (put_last at out left h) ∙ length-append (take at out) left
    ∙ omega (arith, length-take-le at out h, ap length (part_is out at), length-drop at out)

pub overflow_sub-end : goal.overflow_sub-end
overflow_sub-end c =
    let p = c.loop-place.place in
    let e = ends c.args.chunk.now p.used c.line_end.result c.loop-place.invariant.standing.used c.line_end.ensures in
    omega (arith, e.some c.if-end-chunk.false)

pub slice_bounds-reply_to-count : goal.slice_bounds-reply_to-count
slice_bounds-reply_to-count c =
    let p = c.loop-place.place in
    let e = ends c.args.chunk.now p.used c.line_end.result c.loop-place.invariant.standing.used c.line_end.ensures in
    omega (arith, e.some c.if-end-chunk.false)

pub slice_bounds-reply_to-start : goal.slice_bounds-reply_to-start
slice_bounds-reply_to-start c =
    let p = c.loop-place.place in
    let e = ends c.args.chunk.now p.used c.line_end.result c.loop-place.invariant.standing.used c.line_end.ensures in
    omega (arith, e.some c.if-end-chunk.false)

pub overflow_add-end : goal.overflow_add-end
overflow_add-end c =
    let p = c.loop-place.place in
    let e = ends c.args.chunk.now p.used c.line_end.result c.loop-place.invariant.standing.used c.line_end.ensures in
    omega (arith, e.within)

pub slice_bounds-reply_to-end : goal.slice_bounds-reply_to-end
slice_bounds-reply_to-end c =
    let p = c.loop-place.place in
    let e = ends c.args.chunk.now p.used c.line_end.result c.loop-place.invariant.standing.used c.line_end.ensures in
    omega (arith, e.within, c.if-end-chunk.false)

pub slice_bounds-hold-end-in_default : goal.slice_bounds-hold-end-in_default
slice_bounds-hold-end-in_default c =
    let p = c.loop-place.place in
    let e = ends c.args.chunk.now p.used c.line_end.result c.loop-place.invariant.standing.used c.line_end.ensures in
    omega (arith, e.within, c.if-end-chunk.false)

pub overflow_add-place : goal.overflow_add-place
overflow_add-place c =
    let p = c.loop-place.place in
    let e = ends c.args.chunk.now p.used c.line_end.result c.loop-place.invariant.standing.used c.line_end.ensures in
    omega (arith, e.within, c.if-end-chunk.false)

-- a line that the chunk does not end
pub returns-then-end-chunk : goal.returns-then-end-chunk
returns-then-end-chunk c st before at =
    let p = c.loop-place.place in
    let chunk = c.args.chunk.now in
    let i = c.line_end.result in
    let e = ends chunk p.used i c.loop-place.invariant.standing.used c.line_end.ensures in
    fed-begun (c.loop-place.invariant.at st before at) e.here c.hold.result
    (subst (λ (s : List ℕ). HeldAs p s 0 c.hold.result) (held_whole chunk p.used i c.if-end-chunk.true) c.hold.ensures) c.if-end-chunk.true

-- a line whose answer has no room
pub returns-in_default : goal.returns-in_default
returns-in_default c st before at =
    let p = c.loop-place.place in
    let chunk = c.args.chunk.now in
    let out = c.loop-place.out in
    let left = c.reply_to-reply.new.out in
    let i = c.line_end.result in
    let r = c.reply_to-reply.result in
    let e = ends chunk p.used i c.loop-place.invariant.standing.used c.line_end.ensures in
    let more : p.used + i < length chunk = omega (arith, e.within, c.if-end-chunk.false) in
    fed-full (c.loop-place.invariant.at st before at) e.here more (put_mid p.wrote (length out - p.wrote) out left) left c.hold-in_default.result
    (subst (λ (s : List ℕ). HeldAs p s (number_of BufferShort) c.hold-in_default.result) (held_part chunk p.used i) (rw (sym c.number.ensures) c.hold-in_default.ensures))
    (replied-short p.stage (take (i - 1) (drop p.used chunk)) (drop p.wrote out) left r (reply p.stage chunk out left p.used p.wrote i r c.reply_to-reply.ensures) c.in_default.is)
    (put_last p.wrote out left c.loop-place.invariant.standing.wrote)

-- a line that is answered
pub loop-place-preserved : goal.loop-place-preserved
loop-place-preserved c =
    let p = c.loop-place.place in
    let chunk = c.args.chunk.now in
    let out = c.loop-place.out in
    let left = c.reply_to-reply.new.out in
    let i = c.line_end.result in
    let r = c.reply_to-reply.result in
    let x = c.in-Some.x in
    let so = c.loop-place.invariant in
    let buffer = put_mid p.wrote (length out - p.wrote) out left in
    let long : length buffer ≡ length out = buffer_long out left p.wrote so.standing.wrote c.reply_to-reply.auto.out in
    let e = ends chunk p.used i so.standing.used c.line_end.ensures in
    let more : p.used + i < length chunk = omega (arith, e.within, c.if-end-chunk.false) in
    let written = replied-written p.stage (take (i - 1) (drop p.used chunk)) (drop p.wrote out) left r (reply p.stage chunk out left p.used p.wrote i r c.reply_to-reply.ensures) x c.in-Some.is in
    let on : Going chunk c.args.out.now buffer c.args.first (next_place p (p.used + i + 1) x r.stage) = record {
      standing = standing_more so.standing (omega arith) (omega (arith, more)) written long;
      long = long ∙ so.long;
      at = λ st before a. at_more (so.at st before a) e.here more buffer left x r.stage written (put_last p.wrote out left so.standing.wrote);
    } in
    rw c.with_line.ensures on

-- all of the chunk is used
pub returns : goal.returns
returns c st before at = fed_all (c.loop-place.invariant.at st before at) c.loop-place-test.false c.hold-2.result c.hold-2.ensures
