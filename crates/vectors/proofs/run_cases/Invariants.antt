use Rattle.std.proofs.Common.{length}
use Rattle.vectors.proofs.run_cases.Given as goal

-- Each case takes at least its header.
abbrev pub decreases-loop-header : goal.decreases-loop-header
decreases-loop-header g l = length l.rest
