use Rattle.std.proofs.Common.{arith, rules, ◌<◌, ◌≤◌, length}
use Rattle.list.proofs.Whole.{goes_on, enough-room}
use Rattle.turns.proofs.turns.Run.feed.Goals as goal

-- each turn uses a byte of the chunk
pub loop-rest-smaller : goal.loop-rest-smaller
loop-rest-smaller g c =
    let some : 0 < length c.loop-rest.rest.now = search rules in
    let room : 65536 ≤ length c.loop-rest.out = omega (arith, c.loop-rest.invariant) in
    let used : 0 < c.feed-fed.result.used =
    goes_on c.loop-rest.self.state c.loop-rest.rest.now c.loop-rest.out c.feed-fed.new.out c.feed-fed.result c.feed-fed.ensures
    (omega (arith, room, enough-room c.loop-rest.self.state.stage)) some in
    omega (arith, some, used, c.split_at.ensures.back_len)
