use Rattle.std.proofs.Common.{◌≤◌, length}
use Rattle.console.proofs.input.read_full.Given as goal

-- What is read lies within the buffer.
abbrev pub invariant-filling : goal.invariant-filling
invariant-filling g l = l.done ≤ length l.buffer
