-- `item_rule` meets its contract, number by number, as computed over LIN's elements.
-- Assumes nothing.
use Rattle.elements.proofs.RuleTable.{item_none, item_first, item_even, item_odd}
use Rattle.elements.proofs.rules.item_rule.Goals as goal

pub returns-then-k : goal.returns-then-k
returns-then-k c = item_none c.args.k _ c.if-k.true c.from.ensures

pub returns-then-k-eq1 : goal.returns-then-k-eq1
returns-then-k-eq1 c = item_first c.args.k _ c.if-k.false c.if-k-eq1.true c.simple.ensures

pub returns-then-k-eq0 : goal.returns-then-k-eq0
returns-then-k-eq0 c = item_even c.args.k _ c.if-k.false c.if-k-eq1.false c.if-k-eq0.true c.simple-then-k-eq0.ensures

pub returns : goal.returns
returns c = item_odd c.args.k _ c.if-k.false c.if-k-eq1.false c.if-k-eq0.false c.simple-2.ensures
