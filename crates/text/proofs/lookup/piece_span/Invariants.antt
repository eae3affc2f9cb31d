-- `piece_span` meets its contract: so many pieces were passed, and the next one starts at `start`.
-- Assumes nothing.
use Prim.Native.Nat.{◌-◌, ◌≤◌}
use Rattle.text.proofs.Spans.{Begun}
use Rattle.text.proofs.lookup.piece_span.Given as goal

abbrev pub invariant-pieces : goal.invariant-pieces
invariant-pieces l = record {
  begun : Begun l.separator l.s (l.counter - l.first) l.start;
  within : l.counter - l.first ≤ l.n - l.first;
}
