-- `item_notes` meets its contract: the pairs before element 2 * pair hold.
-- Assumes nothing.
use Rattle.elements.specs.internal.Layouts.{there_in}
use Rattle.ruling.proofs.Pairings.{Pairs}
use Rattle.ruling.proofs.ruled.item_notes.Given as goal

abbrev pub invariant-loop-pair : goal.invariant-loop-pair
invariant-loop-pair l = Pairs (there_in l.parts.bytes.now l.parts.starts.now l.parts.layout) l.pair
