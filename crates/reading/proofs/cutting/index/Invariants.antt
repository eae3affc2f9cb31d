-- `index` meets its contract: the bytes from `from` up to i have been passed, in the inner loop up to i + j.
-- Assumes nothing.
use Prim.Native.Nat.{◌+◌, ◌-◌, ◌≤◌}
use Rattle.reading.proofs.cut.Index.{Counted}
use Rattle.reading.proofs.cutting.index.Given as goal

abbrev pub invariant-loop-j : goal.invariant-loop-j
invariant-loop-j l = Counted l.specials l.s l.from (l.i + l.j) l.number l.queue

abbrev pub invariant-loop-i : goal.invariant-loop-i
invariant-loop-i l = (l.i ≤ l.to) × Counted l.specials l.s l.from l.i l.number l.queue

abbrev pub decreases-loop-i : goal.decreases-loop-i
decreases-loop-i l = l.to - l.i

abbrev pub invariant-loop-place : goal.invariant-loop-place
invariant-loop-place l = Counted l.specials l.s l.from l.place l.number l.queue
