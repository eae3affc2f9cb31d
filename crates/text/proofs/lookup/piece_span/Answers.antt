use native.Mathlib.Omega.{arith}
use Rattle.text.proofs.Spans.{begun_none, begun_at, begun_more, met_inside, span_ends, span_past}
use Rattle.text.proofs.lookup.piece_span.Goals as goal

pub pieces-init : goal.pieces-init
pieces-init c = record { begun = begun_at _ (omega arith) (begun_none _ _); within = omega arith }

pub returns-in_default : goal.returns-in_default
returns-in_default c = span_past c.pieces.invariant.begun c.in_default.ensures _ (omega arith)

pub overflow_add-start : goal.overflow_add-start
overflow_add-start c = omega (arith, met_inside c.pieces.invariant.begun c.in-Some.ensures)

pub pieces-preserved : goal.pieces-preserved
pieces-preserved c = record {
  begun = begun_at _ (omega arith) (begun_more c.pieces.invariant.begun c.in-Some.ensures);
  within = omega arith;
}

pub returns : goal.returns
returns c = rw c.unwrap_or-end.ensures (span_ends (begun_at _ (omega arith) c.pieces.invariant.begun) _ c.find-2.ensures)
