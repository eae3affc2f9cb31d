-- `copy` meets its contract: the bytes before i are written.
-- Assumes nothing.
use Prim.Native.Nat.{ℕ}
use Rattle.rewriting.proofs.ByteByByte.{WrittenTo}
use Rattle.rewriting.proofs.writing.copy.Given as goal

abbrev pub invariant-loop-i : goal.invariant-loop-i
invariant-loop-i l = WrittenTo (λ (b : ℕ). b) l.initial.output l.s l.from l.to l.output l.i
