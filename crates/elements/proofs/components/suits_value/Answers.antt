-- `suits_value` meets its contract: several components, or one since no separator stands in it.
-- Assumes nothing.
use mathlib.Core.Path.{sym, ◌∙◌}
use Rattle.elements.specs.Data.{value}
use Rattle.elements.proofs.ComponentPass.{simple_free, simple_cut}
use Rattle.elements.proofs.components.suits_value.Goals as goal

pub returns-then-holds : goal.returns-then-holds
returns-then-holds c = rw c.if-single.false
    (simple_cut (value c.args.rule.kind c.args.rule.least
    c.args.rule.most) c.args.separator
    c.args.p.now
    (sym c.holds.ensures ∙ c.if-holds.true))

pub returns : goal.returns
returns c = rw c.if-single.false
    (c.fits-2.ensures
    ∙ simple_free (value c.args.rule.kind c.args.rule.least
    c.args.rule.most) c.args.separator
    c.args.p.now
    (sym c.holds.ensures ∙ c.if-holds.false))
