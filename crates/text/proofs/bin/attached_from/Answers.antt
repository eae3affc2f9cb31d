-- `attached_from` meets its contract: a count lies within the segment. The attribute's lemmas answer for what it counts.
-- Assumes nothing.
use Prim.Native.Nat.{◌<◌}
use mathlib.Core.Path.{sym, ◌∙◌}
use native.Mathlib.Omega.{arith}
use lib.ListN.{length}
use Rattle.text.proofs.BinSpans.{count_inside}
use Rattle.text.proofs.bin.attached_from.Goals as goal
use Rattle.text.proofs.bin.attached_from.Goals.{In-Ok}

inside : (c : In-Ok) → c.in-Ok.field-0.end < length c.args.segment.now
inside c = count_inside c.args.element c.args.segment.now c.in-Ok.field-0.number c.in-Ok.field-0.end (sym c.begins.ensures ∙ c.if-not-begins.false) (sym c.in-Ok.ensures)

pub overflow_sub-segment : goal.overflow_sub-segment
overflow_sub-segment c = omega (arith, inside (goal.at.overflow_sub-segment c).In-Ok)

pub overflow_sub-segment-in-Ok-1 : goal.overflow_sub-segment-in-Ok-1
overflow_sub-segment-in-Ok-1 c = omega (arith, inside (goal.at.overflow_sub-segment-in-Ok-1 c).In-Ok)

pub overflow_add-result : goal.overflow_add-result
overflow_add-result c = omega (arith, inside (goal.at.overflow_add-result c).In-Ok)
