use Rattle.std.proofs.Common.{arith, ◌≡◌, ℕ, ◌+◌, ◌-◌, ◌≤◌, List, ◌++◌, take, length, sym, ap, ◌∙◌}
use Rattle.std.proofs.lemmas.List.{length-take-le, take_min}
use Rattle.std.proofs.lemmas.Slice.{take-put_mid}
use Rattle.std.proofs.Math.Seq.{take-append-add}
use Rattle.turns.proofs.kept.Kept.keep.Goals as goal

-- what fits of the bytes comes after those that are kept
pub returns : goal.returns
returns c =
    let count : ℕ = c.self.inside.count in
    let next : List ℕ = c.args.next.now in
    let kept : List ℕ = take count c.self.inside.bytes in
    let room : count ≤ length c.self.inside.bytes = omega (arith, c.self.invariant, c.self.told) in
    let long : length kept ≡ count = length-take-le count c.self.inside.bytes room in
    let copied : c.copy_from_slice.new.self ≡ take (128 - count) next = c.copy_from_slice.ensures.after ∙ ap (λ (m : ℕ). take m next) c.min-n.ensures ∙ take_min (128 - count) next in
    let size : count + c.min-n.result ≡ count + length c.copy_from_slice.new.self = omega (arith, c.copy_from_slice.ensures.len) in
    let all : 128 ≡ length kept + (128 - count) = omega (arith, long, c.self.invariant) in
    take-put_mid count _ c.self.inside.bytes c.copy_from_slice.new.self (count + c.min-n.result) size room
    ∙ ap (λ (s : List ℕ). kept ++ s) copied
    ∙ sym (ap (λ (m : ℕ). take m (kept ++ next)) all ∙ take-append-add kept next (128 - count))
    ∙ ap (λ (s : List ℕ). take 128 (s ++ next)) c.self.view_is
