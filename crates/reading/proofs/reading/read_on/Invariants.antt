-- `read_on` meets its contract: before each segment the reader stands behind those that it passed, and it gets nearer to the end.
-- Assumes nothing.
use Prim.Native.Nat.{◌-◌}
use lib.ListN.{length}
use Rattle.reading.specs.internal.Loop.{Going}
use Rattle.reading.proofs.reading.read_on.Given as goal

abbrev pub invariant-loop-cut : goal.invariant-loop-cut
invariant-loop-cut l =
    Going l.how l.s l.specials (record { segments = l.initial.segments; levels = l.initial.levels }) l.segments l.levels l.lasts l.queue l.starts l.behind l.left l.state

abbrev pub decreases-loop-cut : goal.decreases-loop-cut
decreases-loop-cut l =
    length l.s - l.behind
