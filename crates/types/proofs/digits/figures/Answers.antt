-- `figures` meets its contract: the part of the value is digits.
-- Assumes nothing.
use Prim.Native.Nat.{◌+◌, ◌-◌}
use mathlib.Core.Path.{◌≡◌}
use native.Mathlib.Omega.{arith}
use Rattle.types.proofs.Figures.{written_part}
use Rattle.types.proofs.digits.figures.Goals as goal

pub value_from-requires : goal.value_from-requires
value_from-requires c =
    let args = c.args in
    let all : args.from + args.count - args.from ≡ args.count = omega arith in
    rw all (written_part c.requires)
