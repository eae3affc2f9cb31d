-- `byte_verdict` meets its contract: the bytes before b are right, and k element separators stand among them.
-- Assumes nothing.
use Rattle.elements.proofs.Bytewise.{Scanned}
use Rattle.elements.proofs.segment.byte_verdict.Given as goal

abbrev pub invariant-loop-b : goal.invariant-loop-b
invariant-loop-b l = Scanned l.element l.component l.segment l.b-index l.k
