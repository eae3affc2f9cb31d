-- `clear` meets its contract: the first k records are cleared.
-- Assumes nothing.
use mathlib.Core.Path.{◌≡◌}
use Rattle.finding.specs.internal.Notes.{plain}
use Rattle.finding.proofs.notes.clear.Given as goal

abbrev pub invariant-loop-k : goal.invariant-loop-k
invariant-loop-k l = l.levels ≡ plain l.k l.initial.levels
