-- `few_units` meets its contract: one component more than separators.
-- Assumes nothing.
use Prim.Native.Nat.{ℕ}
use mathlib.Core.Path.{ap, ◌∙◌}
use lib.Dec.{leb}
use Rattle.elements.proofs.ComponentPass.{few_pieces}
use Rattle.ruling.proofs.units.few_units.Goals as goal

pub returns : goal.returns
returns c = ap (λ (n : ℕ). leb n 14) c.separator_count.ensures ∙ rw c.if-single.false
    (few_pieces c.args.separator c.args.p.now)
