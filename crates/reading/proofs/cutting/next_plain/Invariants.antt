-- `next_plain` meets its contract: the invariant of both loops is the walk over the queue. With each turn of the inner one an entry of
-- the queue is used up, and with each of the outer one more bytes are seen.
-- Assumes nothing.
use Prim.Native.Nat.{◌-◌}
use lib.ListN.{length}
use Rattle.reading.proofs.cut.Walk.{Walk}
use Rattle.reading.proofs.cutting.next_plain.Given as goal

abbrev pub invariant-loop-head-2 : goal.invariant-loop-head-2
invariant-loop-head-2 l =
    Walk l.separators l.specials l.s l.at l.queue l.starts l.head l.tail l.seen l.count l.ended l.start l.behind

abbrev pub decreases-loop-head-2 : goal.decreases-loop-head-2
decreases-loop-head-2 l =
    l.tail - l.head

abbrev pub invariant-loop-head : goal.invariant-loop-head
invariant-loop-head l =
    Walk l.separators l.specials l.s l.at l.queue l.starts l.head l.tail l.seen l.count l.ended l.start l.behind

abbrev pub decreases-loop-head : goal.decreases-loop-head
decreases-loop-head l =
    length l.s - l.seen
