-- `rows::tags::number_of_two` meets its contract: no key is left for the last arm.
-- Assumes nothing.
use Rattle.std.proofs.Common.{rules}
use Rattle.std.proofs.Math.Dec.{lt→ltb}
use Rattle.rows.proofs.Packing.{of_two, none_34}
use Rattle.rows.proofs.tags.number_of_two.Goals as goal

pub returns-in_default : goal.returns-in_default
returns-in_default c = none_34 of_two c.args.packed (lt→ltb _ 131072 c.requires) (search rules)
