-- `first_collision` meets its contract: no segment before record k collides.
-- Assumes nothing.
use Rattle.rewriting.proofs.RecordByRecord.{ApartBefore}
use Rattle.rewriting.proofs.collisions.first_collision.Given as goal

abbrev pub invariant-loop-k : goal.invariant-loop-k
invariant-loop-k l =
    let r = l.reading in
    ApartBefore r.bytes.now r.segments.now r.accepted.segments r.change.old r.change.new l.k
