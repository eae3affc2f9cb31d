-- The goals of `segment_collision`: a whole BIN, and any other segment byte by byte.
-- Assumes nothing.
use Rattle.text.proofs.BinSpans.{bin_of, plain_of}
use Rattle.rewriting.proofs.CollidingBytes.{bin_apart, apart_none, apart_all, apart_behind, apart_more, apart_not}
use Rattle.rewriting.proofs.collisions.segment_collision.Goals as goal
use Rattle.rewriting.proofs.collisions.segment_collision.Goals.{then-byte-change, else-byte-change+else-byte-change-2}

pub returns-then-attached_from-segment : goal.returns-then-attached_from-segment
returns-then-attached_from-segment c = bin_apart _ _ _ (bin_of _ _ (rw c.attached_from.ensures at c.if-attached_from-segment.true)) c.requires.fitted

pub loop-byte-init : goal.loop-byte-init
loop-byte-init c = apart_none _ _ _ (plain_of _ _ (rw c.attached_from.ensures at c.if-attached_from-segment.false)) c.requires.as_cut

pub returns-then-byte-change-2 : goal.returns-then-byte-change-2
returns-then-byte-change-2 c =
    rw c.at_element.ensures
    (apart_not _ _ _ c.loop-byte.invariant c.loop-byte-test.true c.if-byte-change.false (rw c.separates.ensures at c.if-byte-change-2.true))

pub loop-byte-preserved : goal.loop-byte-preserved
loop-byte-preserved c =
    let inv = c.loop-byte.invariant in
    let inside = c.loop-byte-test.true in
    elim c.if-byte-change.branch [
      | then-byte-change w ↦ rw w.element-is (apart_behind _ _ _ inv inside w.if-byte-change.true)
      | else-byte-change+else-byte-change-2 w ↦
          rw w.element-is (apart_more _ _ _ inv inside w.if-byte-change.false (rw w.separates.ensures at w.if-byte-change-2.false))
    ]

pub returns : goal.returns
returns c = apart_all _ _ _ c.loop-byte.invariant c.loop-byte-test.false
