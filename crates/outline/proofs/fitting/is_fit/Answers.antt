-- `is_fit` meets its contract, test by test.
-- Assumes nothing.
use native.Mathlib.Omega.{arith}
use Rattle.outline.proofs.FitTests.{not_outside, top_decides, outside_unfit, child_decides}
use Rattle.outline.proofs.fitting.is_fit.Goals as goal

pub returns-then-parent-eq0 : goal.returns-then-parent-eq0
returns-then-parent-eq0 c =
    let a = c.args in
    top_decides a.levels.now a.k c.parent_in-parent.ensures c.depth_in-depth.ensures c.if-parent-eq0.true

pub returns-then-k-parent : goal.returns-then-k-parent
returns-then-k-parent c =
    let a = c.args in
    outside_unfit a.levels.now a.k c.parent_in-parent.ensures c.depth_in-depth.ensures c.if-parent-eq0.false c.if-k-parent.true

pub depth_in-requires : goal.depth_in-requires
depth_in-requires c =
    let near = not_outside c.args.k c.parent_in-parent.result c.depth_in-depth.result c.if-k-parent.false in
    (omega arith, omega (arith, c.requires.1))

pub overflow_sub-result : goal.overflow_sub-result
overflow_sub-result c =
    let near = not_outside c.args.k c.parent_in-parent.result c.depth_in-depth.result c.if-k-parent.false in
    omega arith

pub returns : goal.returns
returns c =
    let a = c.args in
    child_decides a.levels.now a.k c.parent_in-parent.ensures c.depth_in-depth.ensures c.if-parent-eq0.false c.if-k-parent.false
    c.depth_in.ensures
