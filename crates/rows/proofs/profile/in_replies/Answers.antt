-- `in_replies` meets its contract by one computed check.
-- Assumes nothing.
use native.Mathlib.Omega.{arith}
use borrow.Author.Rules.{rules}
use Rattle.rows.proofs.RowSets.{in_no_stretch}
use Rattle.rows.proofs.profile.in_replies.Goals as goal

pub returns-in_default : goal.returns-in_default
returns-in_default c = in_no_stretch c.args.row (omega (arith, c.ranges)) (search rules)
