use Prim.Native.Nat.{◌-◌}
use lib.ListN.{length}
use Rattle.list.proofs.Feeds.{Going}
use Rattle.list.proofs.feeding.feed_on.Given as goal

-- `list::feeding::feed_on` meets its contract: after each turn one line more is answered, until the chunk is used or an answer has no room.
abbrev pub invariant-loop-place : goal.invariant-loop-place
invariant-loop-place l = Going l.chunk l.initial.out l.out l.initial.place l.place

abbrev pub decreases-loop-place : goal.decreases-loop-place
decreases-loop-place l = length l.chunk - l.place.used
