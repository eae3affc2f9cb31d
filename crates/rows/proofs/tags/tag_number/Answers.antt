-- `rows::tags::tag_number` meets its contract: two or three bytes are packed, and bytes of any other length are no tag.
-- Assumes nothing.
use native.Mathlib.Omega.{arith}
use Rattle.rows.proofs.Packing.{two_number, three_number, other_length}
use Rattle.rows.proofs.tags.tag_number.Goals as goal

pub returns-in-len2 : goal.returns-in-len2
returns-in-len2 c =
    let byte = c.type_inv.tag in
    two_number c.args.tag.now c.packed.result c.number_of_two.result
    (omega arith) (omega (arith, byte 0)) (omega (arith, byte 1)) c.packed.ensures c.number_of_two.ensures

pub returns-in-len3 : goal.returns-in-len3
returns-in-len3 c =
    let byte = c.type_inv.tag in
    three_number c.args.tag.now c.packed-in-len3.result c.number_of_three.result
    (omega arith) (omega (arith, byte 0)) (omega (arith, byte 1)) (omega (arith, byte 2)) c.packed-in-len3.ensures c.number_of_three.ensures

pub returns-in_default : goal.returns-in_default
returns-in_default c = other_length c.args.tag.now (λ e. omega arith) (λ e. omega arith)

pub returns-in_default-2 : goal.returns-in_default-2
returns-in_default-2 c = other_length c.args.tag.now (λ e. omega arith) (λ e. omega arith)
