-- `is_few` meets its contract: one value, or NCA05.
-- Assumes nothing.
use Prim.Native.Nat.{ℕ}
use mathlib.Core.Path.{sym, ap, ◌∙◌}
use lib.Dec.{leb}
use lib.ListN.{length}
use Rattle.text.specs.View.{Piece}
use Rattle.rows.specs.Tags.{tag_number}
use Rattle.elements.specs.internal.Layouts.{components_in}
use Rattle.elements.proofs.EveryTag.{few_but_NCA}
use Rattle.ruling.proofs.TooMany.{few_fifth}
use Rattle.elements.proofs.ByLayout.{element_at}
use Rattle.ruling.proofs.ruled.is_few.Goals as goal
use Rattle.ruling.proofs.ruled.is_few.Goals.{Start}

abbrev at : Start → ℕ → Piece
at c = components_in c.args.parts.bytes.now c.args.parts.starts.now c.args.parts.layout c.args.component

pub returns-then-tag-ne-NCA : goal.returns-then-tag-ne-NCA
unfolding tag_number
returns-then-tag-ne-NCA c = sym (few_but_NCA c.args.tag (at (goal.at.returns-then-tag-ne-NCA c).Start 5) c.if-tag-ne-NCA.true)

pub returns : goal.returns
unfolding tag_number
returns c = c.few_units.ensures ∙ ap (λ (p : Piece). leb (length p) 15) (element_at _ _ _ _ 5 _ c.element.ensures)
    ∙ few_fifth c.args.tag (at (goal.at.returns c).Start 5) c.if-tag-ne-NCA.false
