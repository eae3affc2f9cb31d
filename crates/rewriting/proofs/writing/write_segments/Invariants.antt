-- `write_segments` meets its contract: what stands before `from` is written, and no BIN stands from there up to record k.
-- Assumes nothing.
use Rattle.rewriting.proofs.WrittenRuns.{WrittenBefore}
use Rattle.rewriting.proofs.writing.write_segments.Given as goal

abbrev pub invariant-loop-k : goal.invariant-loop-k
invariant-loop-k l =
    let r = l.reading in
    WrittenBefore r.bytes.now r.segments.now r.accepted.segments r.change.old r.change.new l.initial.output l.output l.from l.k
