-- `walk_under` meets its contract: each call goes one deeper, and depth 4 is the last.
-- Assumes nothing.
use Prim.Native.Nat.{ℕ, ◌+◌, ◌-◌, ◌≤◌}
use mathlib.Core.Path.{◌≡◌, sym, ◌∙◌}
use native.Mathlib.Omega.{arith}
use lib.ListN.{length, length-set}
use Rattle.outline.specs.internal.Listing.{depth_of}
use Rattle.outline.proofs.FitLevels.{level_depth, child_depth}
use Rattle.outline.proofs.WalkSteps.{Visited, beneath, visited_none, visited_other, visited_child, child_room, listed_all, listed_ended, listed_deepest}
use Rattle.outline.proofs.walking.+walk_under.Goals as goal
use Rattle.outline.proofs.walking.+walk_under.Goals.{Then-parent_in-of, Joined-parent_in-of, then-parent_in-of, else-parent_in-of}

-- a child and what is beneath it have room in the output
child_fits : (t : ℕ) (c : Then-parent_in-of t)
    → c.loop-before.next + (1 + length (beneath c.args.levels.now c.args.forest.count c.args.depth (c.loop-before.before + 1))) ≤ length c.loop-before.output
child_fits t c =
    child_room c.loop-before.invariant (omega arith) (omega (arith, c.loop-before-test.true)) (sym c.parent_in.ensures ∙ c.if-parent_in-of.true)
    c.if-depth-lt4.true c.requires.of_in_bounds

-- with this level
with_this : (t : ℕ) (c : Joined-parent_in-of t)
    → Visited c.args.levels.now c.args.forest.count c.args.of c.args.depth c.args.output.now c.args.at c.if-parent_in-of.output c.if-parent_in-of.next
    (c.loop-before.before + 1)
with_this t c =
    let before = c.loop-before.invariant in
    elim c.if-parent_in-of.branch [
      | then-parent_in-of w ↦
          rw (w.output-is, w.next-is)
          (visited_child before (omega arith) (omega (arith, c.loop-before-test.true)) (sym c.parent_in.ensures ∙ w.if-parent_in-of.true) w.walk_under-next.ensures)
      | else-parent_in-of w ↦
          rw (w.output-is, w.next-is)
          (visited_other before (omega arith) (omega (arith, c.loop-before-test.true)) (λ e. w.if-parent_in-of.false (c.parent_in.ensures ∙ e)))
    ]

pub loop-before-init : goal.loop-before-init
loop-before-init t c = visited_none c.requires.fit_table c.requires.of_le_count.0

pub offset_bounds-output-next : goal.offset_bounds-output-next
offset_bounds-output-next t c = let fits = child_fits t c in omega arith

pub bounds-output-next : goal.bounds-output-next
bounds-output-next t c = let fits = child_fits t c in omega arith

pub overflow_add-next : goal.overflow_add-next
overflow_add-next t c = let fits = child_fits t (goal.at.overflow_add-next t c).Then-parent_in-of in omega arith

pub walk_under-next-requires : goal.walk_under-next-requires
walk_under-next-requires t c =
    let pre = c.requires in
    let levels = c.args.levels.now in
    let level = c.loop-before.before + 1 in
    let fits = child_fits t (goal.at.walk_under-next-requires t c).Then-parent_in-of in
    let hangs = sym c.parent_in.ensures ∙ c.if-parent_in-of.true in
    let deeper = child_depth levels level (pre.fit_table level (omega arith) (omega arith)) c.args.of hangs in
    let depth : c.args.depth + 1 ≡ depth_of levels level =
    omega (arith, pre.of_le_count.1, level_depth levels level (omega arith)) in (
      omega (arith, c.decreases),
      (pre.count_in_bounds, (pre.fit_table, (pre.stray_value, ((omega arith, depth), rw length-set (omega arith))))),
    )

pub loop-before-preserved : goal.loop-before-preserved
loop-before-preserved t c = with_this t (goal.at.loop-before-preserved t c).Joined-parent_in-of

pub returns-after-loop-before : goal.returns-after-loop-before
returns-after-loop-before t c = listed_all c.loop-before.invariant c.if-depth-lt4.true (omega arith)

pub returns-then-forest-level : goal.returns-then-forest-level
returns-then-forest-level t c =
    listed_ended c.loop-before.invariant (omega arith) (omega (arith, c.loop-before-test.true)) c.if-depth-lt4.true c.requires.fit_table
    c.requires.stray_value c.requires.of_le_count.1 c.depth_in.ensures c.if-forest-level.true

pub returns-else-depth-lt4 : goal.returns-else-depth-lt4
returns-else-depth-lt4 t c =
    let a = c.args in
    listed_deepest a.levels.now a.forest.count a.of a.depth a.output.now a.at c.if-depth-lt4.false
