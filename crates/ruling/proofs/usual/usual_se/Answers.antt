-- `usual_se` meets its contract, element by element.
-- Assumes nothing.
use Prim.Native.Nat.{ℕ}
use Rattle.rows.specs.Tags.{tag_number, tag}
use Rattle.elements.specs.internal.Verdicts.{rules_of}
use Rattle.ruling.specs.internal.Usual.{SuitsAt}
use Rattle.ruling.proofs.UsualSegments.{one_more}
use Rattle.ruling.proofs.usual.usual_se.Goals as goal
use Rattle.ruling.proofs.usual.usual_se.Goals.{Start}

abbrev Suited : Start → ℕ → Type 0
Suited c = SuitsAt c.args.parts.bytes.now c.args.parts.starts.now c.args.parts.layout (tag "SE")

pub returns : goal.returns
unfolding rules_of tag_number
returns c = one_more (Suited (goal.at.returns c).Start) 1 c.suits.result c.suits-2.result
    (λ f. (tt, rw c.element-total.ensures at (c.suits.ensures f)))
    (λ f. rw c.element-control.ensures at (c.suits-2.ensures f))
