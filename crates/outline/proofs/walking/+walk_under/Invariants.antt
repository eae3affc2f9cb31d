-- `walk_under` meets its contract: each call goes one deeper, and depth 4 is the last. The levels before the one that comes are listed.
-- Assumes nothing.
use Prim.Native.Nat.{◌-◌}
use Rattle.outline.proofs.WalkSteps.{Visited}
use Rattle.outline.proofs.walking.+walk_under.Given as goal

abbrev pub decreases-walk_under : goal.decreases-walk_under
decreases-walk_under l = 4 - l.depth

abbrev pub invariant-loop-before : goal.invariant-loop-before
invariant-loop-before l = Visited l.levels l.forest.count l.of l.depth l.fn.output l.at l.output l.next l.before
