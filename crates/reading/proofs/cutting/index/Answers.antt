-- `index` meets its contract: each byte passed is counted, as `Index` says.
-- Assumes nothing.
use native.Mathlib.Omega.{arith}
use Rattle.reading.proofs.cut.Index.{counted_more, counted_at, at_most_one_lem}
use Rattle.reading.proofs.cutting.index.Goals as goal

pub overflow_add-number : goal.overflow_add-number
overflow_add-number c = omega (arith, at_most_one_lem _ c.special_bit-number.ensures)

pub loop-j-preserved : goal.loop-j-preserved
loop-j-preserved c =
    counted_at
    (counted_more c.loop-j.invariant _ (omega arith) (omega arith)
    c.special_bit-number.ensures)
    _ (omega arith)

pub overflow_add-number-in-loop-place : goal.overflow_add-number-in-loop-place
overflow_add-number-in-loop-place c = omega (arith, at_most_one_lem _ c.special_bit-number-in-loop-place.ensures)

pub loop-place-preserved : goal.loop-place-preserved
loop-place-preserved c =
    counted_more c.loop-place.invariant _ (omega arith) (omega arith)
    c.special_bit-number-in-loop-place.ensures
