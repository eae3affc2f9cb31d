-- `lookup` meets its contract: the span lies within the segment.
-- Assumes nothing.
use Rattle.text.proofs.Parts.{lies_part}
use Rattle.text.proofs.lookup.lookup.Goals as goal

pub part_at-requires : goal.part_at-requires
part_at-requires c = rw c.part_span-span.ensures (lies_part _ _ _ _).inside
