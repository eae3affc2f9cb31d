-- The goals of `write_again`: byte by byte, with the new separators.
-- Assumes nothing.
use Rattle.rewriting.proofs.OutputSoFar.{so_far_length}
use Rattle.rewriting.proofs.ByteByByte.{written_none, written_inside, written_more, written_all}
use Rattle.rewriting.proofs.writing.write_again.Goals as goal

pub loop-i-init : goal.loop-i-init
loop-i-init c = written_none _ _ _ _ _ c.requires.from_le_to c.requires.to_in_bounds c.requires.to_in_bounds_2

pub bounds-output-i : goal.bounds-output-i
bounds-output-i c = written_inside _ _ _ _ _ c.loop-i.invariant c.loop-i-test.true

pub loop-i-preserved : goal.loop-i-preserved
loop-i-preserved c =
    rw c.byte_again.ensures (written_more _ _ _ _ _ c.loop-i.invariant c.loop-i-test.true)

pub shape_of-output : goal.shape_of-output
shape_of-output c = so_far_length c.loop-i.invariant.so_far

pub returns : goal.returns
returns c = written_all _ _ _ _ _ c.loop-i.invariant c.loop-i-test.false
