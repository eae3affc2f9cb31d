-- `unit_suits` meets its contract: absent, or by the quick test.
-- Assumes nothing.
use mathlib.Core.Path.{sym}
use borrow.Author.Tests.{eqb-false}
use Rattle.ruling.proofs.UsualSegments.{one_unit}
use Rattle.ruling.proofs.usual.unit_suits.Goals as goal

pub returns-else-is_empty : goal.returns-else-is_empty
returns-else-is_empty c e = one_unit _ _ (eqb-false _ 0 (sym c.if-is_empty.ensures)) c.short_id.ensures e
