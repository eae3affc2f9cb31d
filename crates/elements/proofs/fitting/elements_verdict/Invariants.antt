-- `elements_verdict` meets its contract: the elements below k are complete, and `unfit` is the first that does not suit.
-- Assumes nothing.
use Rattle.elements.specs.internal.Layouts.{components_in}
use Rattle.elements.specs.internal.Verdicts.{rules_of, complete_at_of, suits_at_of}
use Rattle.elements.proofs.ElementPass.{Judged}
use Rattle.elements.proofs.fitting.elements_verdict.Given as goal

abbrev pub invariant-loop-k : goal.invariant-loop-k
invariant-loop-k l =
    Judged (complete_at_of (rules_of l.tag) (components_in l.parts.bytes.now l.parts.starts.now l.parts.layout l.component))
    (suits_at_of (rules_of l.tag) (components_in l.parts.bytes.now l.parts.starts.now l.parts.layout l.component)) l.k l.unfit
