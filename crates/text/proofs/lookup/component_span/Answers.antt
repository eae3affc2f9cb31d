-- `component_span` meets its contract: a piece of the element ends with the element at the latest.
-- Assumes nothing.
use mathlib.Core.Path.{ap}
use Prim.Native.Nat.{◌-◌}
use native.Mathlib.Omega.{arith}
use native.Mathlib.Nat.{add-sub_cancel_left}
use lib.ListN.{drop, length-take}
use Rattle.text.specs.Lookup.{part_of}
use Rattle.text.specs.declared.lookup.Span.{Span}
use Rattle.text.proofs.Spans.{lies}
use Rattle.text.proofs.lookup.component_span.Goals as goal

pub overflow_add-start : goal.overflow_add-start
overflow_add-start c =
    let a = c.args in
    let found = rw (add-sub_cancel_left a.whole.start a.whole.len) at c.piece_span-within.ensures in
    omega (
      arith,
      ap (λ (p : Span). p.start) found,
      (lies a.separator (part_of a.segment.now a.whole) (a.part - 1)).inside,
      length-take a.whole.len (drop a.whole.start a.segment.now),
      c.requires,
    )
