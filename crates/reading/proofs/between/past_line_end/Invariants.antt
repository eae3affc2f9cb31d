-- `past_line_end` meets its contract: byte by byte the queue serves, up to the start of the next segment.
-- Assumes nothing.
use Rattle.reading.proofs.cut.PastLineEnds.{Passing}
use Rattle.reading.proofs.between.past_line_end.Given as goal

abbrev pub invariant-loop-i : goal.invariant-loop-i
invariant-loop-i l = Passing l.s l.at l.end l.initial.behind l.behind l.i
