-- `harmless_runs` meets its contract: where the runs before `from` are harmless, no segment before record k collides.
-- Assumes nothing.
use Rattle.rewriting.proofs.HarmlessRuns.{TestedBefore}
use Rattle.rewriting.proofs.collisions.harmless_runs.Given as goal

abbrev pub invariant-loop-k : goal.invariant-loop-k
invariant-loop-k l =
    let r = l.reading in
    TestedBefore r.bytes.now r.segments.now r.accepted.segments r.change.old r.change.new l.so_far l.from l.k
