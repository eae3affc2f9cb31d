-- `segment_collision` meets its contract: a whole BIN does not collide; of any other segment the bytes before this one do not.
-- Assumes nothing.
use Rattle.rewriting.proofs.CollidingBytes.{ApartTo}
use Rattle.rewriting.proofs.collisions.segment_collision.Given as goal

abbrev pub invariant-loop-byte : goal.invariant-loop-byte
invariant-loop-byte l = ApartTo l.change.old l.change.new l.segment l.element l.byte-index
