-- `rows::tags::number_of_three` meets its contract: no key is left for the last arm.
-- Assumes nothing.
use Rattle.std.proofs.Common.{rules}
use Rattle.std.proofs.Math.Dec.{le→leb}
use Rattle.rows.proofs.Packing.{of_three, none_34}
use Rattle.rows.proofs.tags.number_of_three.Goals as goal

pub returns-in_default : goal.returns-in_default
returns-in_default c = none_34 of_three c.args.packed (le→leb 131072 _ c.requires) (search rules)
