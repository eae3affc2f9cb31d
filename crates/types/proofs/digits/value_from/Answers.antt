use native.Mathlib.Omega.{arith}
use Rattle.types.proofs.Figures.{figured_none, figured_more, room}
use Rattle.types.proofs.digits.value_from.Goals as goal

pub loop-digit-init : goal.loop-digit-init
loop-digit-init c = figured_none c.requires

pub overflow_mul-n : goal.overflow_mul-n
overflow_mul-n c = omega (arith, (room c.requires c.loop-digit.invariant c.loop-digit-test.true).small)

pub overflow_add-n : goal.overflow_add-n
overflow_add-n c =
    let r = room c.requires c.loop-digit.invariant c.loop-digit-test.true in
    omega (arith, c.from.ensures, r.small, r.high)

pub loop-digit-preserved : goal.loop-digit-preserved
loop-digit-preserved c = rw c.from.ensures (figured_more c.requires c.loop-digit.invariant c.loop-digit-test.true)
