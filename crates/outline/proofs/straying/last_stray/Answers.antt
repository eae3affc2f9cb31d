-- `last_stray` meets its contract, level by level.
-- Assumes nothing.
use Prim.Native.Nat.{◌+◌, ◌-◌}
use mathlib.Core.Path.{◌≡◌}
use mathlib.Core.Logic.{inl, inr}
use native.Mathlib.Omega.{arith}
use Rattle.outline.proofs.StraySteps.{Searched, searched_none, searched_more}
use Rattle.outline.proofs.straying.last_stray.Goals as goal
use Rattle.outline.proofs.straying.last_stray.Goals.{After-with-latest, then-parent_in-above, else-parent_in-above}

pub loop-k-init : goal.loop-k-init
loop-k-init c = searched_none c.args.levels.now c.args.count

-- with this level
with_this : (c : After-with-latest) → Searched c.args.levels.now c.args.count c.with-latest.result c.if-parent_in-above.stray c.loop-k.k
with_this c =
    searched_more c.requires.fit_table c.loop-k.k (omega arith) (omega arith) c.loop-k.invariant c.parent_in.ensures
    c.depth_in-depth.ensures c.above.ensures c.with-latest.ensures
    (elim c.if-parent_in-above.branch [
      | then-parent_in-above w ↦ inl (w.if-parent_in-above.true, w.stray-is)
      | else-parent_in-above w ↦ inr (w.if-parent_in-above.false, w.stray-is)
    ])

pub loop-k-preserved : goal.loop-k-preserved
loop-k-preserved c =
    let e : c.loop-k.k + 1 - 1 ≡ c.loop-k.k = omega arith in rw e (with_this (goal.at.loop-k-preserved c).After-with-latest)

pub returns-after-parent_in-above : goal.returns-after-parent_in-above
returns-after-parent_in-above c =
    let e : c.loop-k.k ≡ c.args.count = omega arith in
    rw (← e) (with_this (goal.at.returns-after-parent_in-above c).After-with-latest).last

pub returns : goal.returns
returns c =
    let e : c.loop-k.k - 1 ≡ c.args.count = omega (arith, c.loop-k.invariant.upto) in rw (← e) c.loop-k.invariant.last
