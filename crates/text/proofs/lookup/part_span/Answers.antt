-- `part_span` meets its contract: the whole element, the one component of a whole BIN's, or a piece of any other.
-- Assumes nothing.
use Prim.Native.Nat.{◌-◌}
use mathlib.Core.Path.{ap, ◌∙◌}
use native.Mathlib.Omega.{arith}
use Rattle.text.specs.Lookup.{span_within, part_of}
use Rattle.text.specs.internal.Spans.{piece_span}
use Rattle.text.specs.declared.lookup.Span.{Span}
use Rattle.text.proofs.BinSpans.{plain_of, lies_element}
use Rattle.text.proofs.Parts.{span_pieced}
use Rattle.text.proofs.lookup.part_span.Goals as goal

pub only_span-requires : goal.only_span-requires
only_span-requires c = rw c.element_span-whole.ensures (lies_element _ _ _).inside

pub component_span-requires : goal.component_span-requires
component_span-requires c = rw c.element_span-whole.ensures (lies_element _ _ _).inside

pub returns : goal.returns
returns c =
    let a = c.args in
    c.component_span.ensures
    ∙ ap (λ (p : Span). span_within p (piece_span a.separators.component (part_of a.segment.now p) (a.part - 1))) c.element_span-whole.ensures
    ∙ span_pieced _ _ _ _ (omega arith) (plain_of _ _ (omega (arith, c.attached_from-attached.ensures)))
