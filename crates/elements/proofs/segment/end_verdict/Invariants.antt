-- `end_verdict` meets its contract: the elements that end before b end well.
-- Assumes nothing.
use Rattle.elements.proofs.Endings.{Ended}
use Rattle.elements.proofs.segment.end_verdict.Given as goal

abbrev pub invariant-loop-b : goal.invariant-loop-b
invariant-loop-b l = Ended l.element l.component l.segment l.b-index l.k l.bare l.hollow
