-- The goals of `harmless_runs`: run by run, up to each BIN02 and behind it.
-- Assumes nothing.
use native.Mathlib.Omega.{arith}
use Rattle.rewriting.proofs.SegmentBytes.{used_within}
use Rattle.rewriting.proofs.HarmlessRuns.{tested_start, tested_passed, tested_bin, tested_end}
use Rattle.rewriting.proofs.collisions.harmless_runs.Goals as goal
use Rattle.rewriting.proofs.collisions.harmless_runs.Goals.{then-attached, else-attached}

pub loop-k-init : goal.loop-k-init
loop-k-init c = tested_start _ _ _ _ _ c.requires.names_from c.requires.cut_off c.requires.fitted

pub loop-k-preserved : goal.loop-k-preserved
loop-k-preserved c =
    let before = c.loop-k.invariant in
    let l = c.loop-k-test.true in
    elim c.if-attached.branch [
      | then-attached w ↦
          rw (w.so_far-is, w.from-is)
          (tested_bin _ _ _ _ _ before l _ c.attached-attached.ensures w.if-attached.true _ w.harmless-so_far.ensures)
      | else-attached w ↦ rw (w.so_far-is, w.from-is) (tested_passed _ _ _ _ _ before l)
    ]

pub slice_bounds-harmless-end-2 : goal.slice_bounds-harmless-end-2
slice_bounds-harmless-end-2 c =
    let within = used_within _ _ _ c.requires.cut_off in
    omega (arith, within)

pub returns : goal.returns
returns c = tested_end _ _ _ _ _ c.loop-k.invariant _ c.loop-k-test.false c.requires.used_value _ c.harmless.ensures
