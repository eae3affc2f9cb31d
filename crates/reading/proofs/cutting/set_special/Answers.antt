-- `set_special` meets its contract: two fills and three specials make the table.
-- Assumes nothing.
use native.Mathlib.Omega.{arith}
use Rattle.reading.proofs.cut.SpecialBytes.{table_right}
use Rattle.reading.proofs.cutting.set_special.Goals as goal

pub returns : goal.returns
returns c =
    table_right _ c.fill.ensures c.fill-2.ensures (omega arith) (omega arith) (omega arith)
