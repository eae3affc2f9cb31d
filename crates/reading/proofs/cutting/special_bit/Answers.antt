-- `special_bit` meets its contract: the byte is an index within the table, so the default does not matter.
-- Assumes nothing.
use mathlib.Core.Path.{ap}
use native.Mathlib.Omega.{arith}
use Rattle.text.proofs.Lists.{any_default}
use Rattle.reading.specs.internal.Queue.{bit}
use Rattle.reading.proofs.cutting.special_bit.Goals as goal

pub returns : goal.returns
unfolding bit
returns c = ap bit (any_default c.args.specials.now c.args.byte _ _ (omega (arith, c.requires, c.ranges.byte)))
