-- `attached` meets its contract: BIN02 starts within the segment, or at its end.
-- Assumes nothing.
use native.Mathlib.Omega.{arith}
use Rattle.text.proofs.BinSpans.{attached_most}
use Rattle.rewriting.proofs.table.Reading.attached.Goals as goal

pub overflow_add-result : goal.overflow_add-result
overflow_add-result c = omega (arith, attached_most, c.attached_from-attached.ensures)
