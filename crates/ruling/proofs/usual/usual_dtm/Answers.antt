-- `usual_dtm` meets its contract, element by element.
-- Assumes nothing.
use Prim.Native.Nat.{ℕ}
use mathlib.Core.Bool.{◌&&◌}
use Rattle.rows.specs.Tags.{tag_number, tag}
use Rattle.elements.specs.internal.Verdicts.{rules_of}
use Rattle.ruling.specs.internal.Usual.{SuitsAt}
use Rattle.ruling.proofs.UsualSegments.{one_more}
use Rattle.ruling.proofs.usual.usual_dtm.Goals as goal
use Rattle.ruling.proofs.usual.usual_dtm.Goals.{Start}

abbrev Suited : Start → ℕ → Type 0
Suited c = SuitsAt c.args.parts.bytes.now c.args.parts.starts.now c.args.parts.layout (tag "DTM")

pub returns : goal.returns
unfolding rules_of tag_number
returns c = one_more (Suited (goal.at.returns c).Start) 2 (c.suits.result && c.suits-2.result) c.suits-3.result
    (one_more (Suited (goal.at.returns c).Start) 1 c.suits.result c.suits-2.result
    (λ f. (tt, rw c.element-code.ensures at (c.suits.ensures f)))
    (λ f. rw c.element-date.ensures at (c.suits-2.ensures f)))
    (λ f. rw c.element-time.ensures at (c.suits-3.ensures f))
