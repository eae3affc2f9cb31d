-- `is_complete` meets its contract: one component, one value, or a composite that begins with a component.
-- Assumes nothing.
use mathlib.Core.Path.{sym}
use borrow.Author.Tests.{eqb-false, not-true, not-false}
use Rattle.elements.proofs.ComponentPass.{complete_simple, complete_single, complete_pieces}
use Rattle.elements.proofs.components.is_complete.Goals as goal
use Rattle.elements.proofs.components.is_complete.Goals.{then-single-via-then-single, then-single-via-else-single+then-not-rule}

pub returns-then-single : goal.returns-then-single
returns-then-single c =
    let some = eqb-false _ 0 (sym c.if-is_empty.ensures) in
    elim c.then-single.branch [
      | then-single-via-then-single w ↦ rw w.if-single.true (complete_single c.args.rule c.args.separator c.args.p.now some)
      | then-single-via-else-single+then-not-rule w ↦ complete_simple c.args.rule c.args.separator c.args.single c.args.p.now some (not-true _ w.if-not-rule.true)
    ]

pub returns : goal.returns
returns c =
    rw c.if-single.false
    (complete_pieces c.args.rule c.args.separator c.args.p.now (eqb-false _ 0 (sym c.if-is_empty.ensures)) (not-false _ c.if-not-rule.false))
