-- `numbering::next::at_most_two` meets its contract by the row list's.
-- Assumes nothing.
use mathlib.Core.Path.{ap}
use lib.Dec.{eqb}
use Rattle.rows.specs.RowList.{max_of}
use Rattle.rows.specs.declared.list.Row.{Row}
use Rattle.numbering.proofs.next.at_most_two.Goals as goal

pub returns : goal.returns
unfolding max_of
returns c = ap (λ (x : Row). eqb x.1 2) c.row_at.ensures
