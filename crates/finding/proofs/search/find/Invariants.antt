-- `find` meets its contract: what is sought is sought from `left` on, and the first i bytes of the level's HL01 agree.
-- Assumes nothing.
use Prim.Native.Nat.{ℕ, ◌<◌}
use mathlib.Core.Path.{◌≡◌}
use lib.ListN.{get_or}
use Rattle.finding.specs.internal.Answers.{sought, sought_from}
use Rattle.finding.proofs.search.find.Given as goal

abbrev pub invariant-loop-i : goal.invariant-loop-i
invariant-loop-i l = (j : ℕ) → j < l.i → get_or l.name j 0 ≡ get_or l.id j 0

abbrev pub invariant-levels : goal.invariant-levels
invariant-levels l =
    sought l.known.bytes.now l.known.separator l.known.segments.now l.known.levels.now l.known.lasts.now l.place l.id
    ≡ sought_from l.known.bytes.now l.known.separator l.known.segments.now l.known.levels.now l.id l.left l.left

abbrev pub decreases-levels : goal.decreases-levels
decreases-levels l = l.left
