-- `walk` meets its contract: past the tests the whole list is written.
-- Assumes nothing.
use mathlib.Core.Logic.{inr}
use native.Mathlib.Omega.{arith}
use Rattle.outline.proofs.WalkAnswers.{list_fits, list_written}
use Rattle.outline.proofs.walking.walk.Goals as goal

pub walk_under-requires-clause-of_in_bounds : goal.walk_under-requires-clause-of_in_bounds
walk_under-requires-clause-of_in_bounds c =
    let tested = c.in_ok-listable.ensures in
    omega (arith, list_fits c.args.levels.now c.args.count tested.1 c.args.output.now tested.2)

pub returns : goal.returns
returns c =
    let a = c.args in
    let tested = c.in_ok-listable.ensures in
    inr (inr (inr (list_written a.levels.now a.count tested.1 a.output.now tested.2 tested.0 c.walk_under.ensures.1)))
