-- `past_line_end` meets its contract: the bytes of the line end are passed one by one, as `PastLineEnds` says.
-- Assumes nothing.
use Prim.Native.Nat.{◌+◌}
use mathlib.Core.Path.{ap}
use Rattle.reading.proofs.cut.PastLineEnds.{passing_more, passing_all}
use Rattle.reading.proofs.between.past_line_end.Goals as goal

pub loop-i-preserved : goal.loop-i-preserved
loop-i-preserved c =
    passing_more c.loop-i.invariant _ c.loop-i-test.true c.past_special-behind.ensures

pub returns : goal.returns
returns c =
    let a = c.args in
    passing_all a.how a.s.now a.at _ _ _ _ _ (ap (λ n. a.at + n) c.skipped_at.ensures) c.loop-i.invariant
    c.loop-i-test.false c.begins.ensures
