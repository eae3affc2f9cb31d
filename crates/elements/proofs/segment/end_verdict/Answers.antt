-- `end_verdict` meets its contract, from what its loop keeps.
-- Assumes nothing.
use mathlib.Core.Path.{◌≡◌, sym, ◌∙◌}
use mathlib.Core.Bool.{true, ◌||◌}
use lib.Dec.{eqb}
use Rattle.elements.proofs.Endings.{ended_badly, ended_all, ends_pass}
use native.Mathlib.Omega.{arith}
use Rattle.elements.proofs.segment.end_verdict.Goals as goal

pub returns-then-k-hollow : goal.returns-then-k-hollow
returns-then-k-hollow c =
    rw c.at_element.ensures
    (ended_badly c.loop-b.invariant (omega arith) c.if-b-element.true c.if-k-hollow.true
    ∙ sym (ends_pass c.args.separators c.args.segment.now))

pub returns-then-k-bare : goal.returns-then-k-bare
returns-then-k-bare c =
    let at_end = c.loop-b in
    let badly : (eqb at_end.k 0 || at_end.bare) || at_end.hollow ≡ true = c.if-k-bare.true in
    rw c.at_element-then-k-bare.ensures
    (rw badly at (ended_all c.loop-b.invariant (omega arith)) ∙ sym (ends_pass c.args.separators c.args.segment.now))

pub returns : goal.returns
returns c =
    rw c.if-k-bare.false at (ended_all c.loop-b.invariant (omega arith)) ∙ sym (ends_pass c.args.separators c.args.segment.now)
