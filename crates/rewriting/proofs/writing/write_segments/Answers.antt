-- The goals of `write_segments`: run by run, each BIN02 as it is.
-- Assumes nothing.
use native.Mathlib.Omega.{arith}
use Rattle.rewriting.proofs.OutputSoFar.{so_far_length}
use Rattle.rewriting.proofs.SegmentBytes.{used_within}
use Rattle.rewriting.proofs.Runs.{run_to}
use Rattle.rewriting.proofs.WrittenRuns.{written_start, written_passed, bin_room, written_bin, written_end}
use Rattle.rewriting.proofs.writing.write_segments.Goals as goal
use Rattle.rewriting.proofs.writing.write_segments.Goals.{then-attached, else-attached}

pub loop-k-init : goal.loop-k-init
loop-k-init c =
    let known = c.requires.rewritable in
    written_start _ _ _ _ _ _ known.names_from known.cut_off (omega (arith, known.used_value, c.requires.room))

pub write_again-requires-clause-from_le_to : goal.write_again-requires-clause-from_le_to
write_again-requires-clause-from_le_to c = (run_to _ _ _ _ c.loop-k.invariant.runs c.loop-k-test.true _ c.attached-attached.ensures).0

pub write_again-requires-clause-to_in_bounds_2 : goal.write_again-requires-clause-to_in_bounds_2
write_again-requires-clause-to_in_bounds_2 c =
    let before = c.loop-k.invariant in
    let room = bin_room _ _ _ _ _ before c.loop-k-test.true _ c.attached-attached.ensures in
    omega (arith, c.if-attached.true, room, so_far_length before.so_far)

pub copy-requires-clause-to_in_bounds_2 : goal.copy-requires-clause-to_in_bounds_2
copy-requires-clause-to_in_bounds_2 c =
    let before = c.loop-k.invariant in
    let room = bin_room _ _ _ _ _ before c.loop-k-test.true _ c.attached-attached.ensures in
    omega (arith, room, so_far_length before.so_far)

pub loop-k-preserved : goal.loop-k-preserved
loop-k-preserved c =
    let before = c.loop-k.invariant in
    let l = c.loop-k-test.true in
    let is = c.attached-attached.ensures in
    elim c.if-attached.branch [
      | then-attached w ↦
          rw (w.output-is, w.from-is) (written_bin _ _ _ _ _ before l _ is _ _ w.write_again.ensures w.copy.ensures)
      | else-attached w ↦ rw (w.output-is, w.from-is) (written_passed _ _ _ _ _ before l _ is w.if-attached.false)
    ]

pub write_again-requires-2-clause-to_in_bounds : goal.write_again-requires-2-clause-to_in_bounds
write_again-requires-2-clause-to_in_bounds c =
    let known = c.requires.rewritable in rw known.used_value (used_within _ _ _ known.cut_off)

pub returns : goal.returns
returns c =
    written_end _ _ _ _ _ c.loop-k.invariant _ _ c.loop-k-test.false c.requires.rewritable.used_value c.write_again-2.ensures
