-- `last_stray` meets its contract, level by level: those before level k are searched.
-- Assumes nothing.
use Prim.Native.Nat.{◌-◌}
use Rattle.outline.proofs.StraySteps.{Searched}
use Rattle.outline.proofs.straying.last_stray.Given as goal

abbrev pub invariant-loop-k : goal.invariant-loop-k
invariant-loop-k l = Searched l.levels l.count l.latest l.stray (l.k - 1)
