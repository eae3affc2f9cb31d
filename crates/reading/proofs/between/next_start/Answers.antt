-- `next_start` meets its contract: at the end of the bytes and before a letter behind `B` it stays.
-- Assumes nothing.
use native.Mathlib.Omega.{arith}
use Rattle.reading.proofs.cut.PastLineEnds.{stays_at_end, stays_behind_b}
use Rattle.reading.proofs.between.next_start.Goals as goal

pub returns-then-s-at : goal.returns-then-s-at
returns-then-s-at c =
    let a = c.args in
    stays_at_end a.how a.s.now a.at a.left (omega arith)

pub returns-then-s-at-gt66 : goal.returns-then-s-at-gt66
returns-then-s-at-gt66 c =
    let a = c.args in
    stays_behind_b a.how a.s.now a.at a.left (omega arith) (omega arith)
