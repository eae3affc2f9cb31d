-- `write_again` meets its contract: the bytes before i are written.
-- Assumes nothing.
use Rattle.rewriting.specs.internal.Output.{byte_again}
use Rattle.rewriting.proofs.ByteByByte.{WrittenTo}
use Rattle.rewriting.proofs.writing.write_again.Given as goal

abbrev pub invariant-loop-i : goal.invariant-loop-i
invariant-loop-i l = WrittenTo (byte_again l.change.old l.change.new) l.initial.output l.s l.from l.to l.output l.i
