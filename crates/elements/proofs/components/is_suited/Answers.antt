-- `is_suited` meets its contract, where an element of one value is there.
-- Assumes nothing.
use mathlib.Core.Path.{sym, ◌∙◌}
use borrow.Author.Tests.{eqb-false}
use Rattle.elements.proofs.ComponentPass.{suits_simple}
use Rattle.elements.proofs.components.is_suited.Goals as goal

pub returns : goal.returns
returns c =
    c.suits_value.ensures
    ∙ suits_simple c.args.rule c.args.separator c.args.single c.args.p.now (eqb-false _ 0 (sym c.if-is_empty.ensures)) c.if-rule.false
