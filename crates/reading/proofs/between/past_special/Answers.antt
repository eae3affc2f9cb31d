-- `past_special` meets its contract.
-- Assumes nothing.
use Rattle.reading.proofs.cut.PastLineEnds.{past_entry}
use Rattle.reading.proofs.between.past_special.Goals as goal

pub returns-then-head-tail : goal.returns-then-head-tail
returns-then-head-tail c = past_entry _ _ _ _ c.if-head-tail.true
