-- `rule_of` meets its contract: LIN's rule, no rule, or the table's.
-- Assumes nothing.
use Rattle.rows.specs.Tags.{tag_number}
use Rattle.elements.proofs.RuleTable.{outside_renders, place_small, table_renders}
use native.Mathlib.Omega.{arith}
use Rattle.elements.proofs.rules.rule_of.Goals as goal

pub returns-then-tag-eq-LIN : goal.returns-then-tag-eq-LIN
unfolding tag_number
returns-then-tag-eq-LIN c = rw c.if-tag-eq-LIN.true c.item_rule.ensures

pub returns-then-k-extent : goal.returns-then-k-extent
returns-then-k-extent c = outside_renders c.args.tag c.args.k _ _ c.extent_of-extent.ensures c.if-k-extent.true c.from.ensures

pub overflow_add-extent : goal.overflow_add-extent
overflow_add-extent c = omega (arith, place_small c.args.tag c.args.k _ c.extent_of-extent.ensures c.if-k-extent.false)

pub returns : goal.returns
unfolding tag_number
returns c = table_renders c.args.tag c.args.k _ c.extent_of-extent.ensures c.if-k-extent.false c.if-tag-eq-LIN.false _ _ c.entry_at.ensures
    c.from-2.ensures
