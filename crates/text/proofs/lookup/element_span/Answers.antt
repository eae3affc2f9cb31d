-- `element_span` meets its contract: a whole BIN has its own elements, any other segment its pieces.
-- Assumes nothing.
use Prim.Native.Nat.{◌<◌}
use mathlib.Core.Path.{ap, ◌∙◌}
use native.Mathlib.Omega.{arith}
use lib.ListN.{length}
use Rattle.text.specs.Lookup.{attached_from}
use Rattle.text.specs.internal.Spans.{piece_span}
use Rattle.text.proofs.BinSpans.{attached_within, span_bin, span_pieces}
use Rattle.text.proofs.lookup.element_span.Goals as goal
use Rattle.text.proofs.lookup.element_span.Goals.{Else-segment-attached}

-- BIN02 starts before the end
shorter : (c : Else-segment-attached) → attached_from c.args.separator c.args.segment.now < length c.args.segment.now
shorter c = omega (arith, c.requires)

pub returns-then-segment-attached : goal.returns-then-segment-attached
returns-then-segment-attached c =
    let a = c.args in
    c.piece_span.ensures ∙ ap (piece_span a.separator a.segment.now) (omega arith)
    ∙ span_pieces _ _ _ (omega (arith, c.requires))

pub bin_span-requires : goal.bin_span-requires
bin_span-requires c =
    let a = attached_within _ _ (shorter (goal.at.bin_span-requires c).Else-segment-attached) in
    rw c.requires (record { le_attached = a.low; attached_in_bounds = a.high })

pub returns : goal.returns
returns c = c.bin_span.ensures ∙ rw c.requires (span_bin _ _ _ (shorter (goal.at.returns c).Else-segment-attached))
