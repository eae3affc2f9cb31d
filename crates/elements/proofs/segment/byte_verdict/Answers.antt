-- `byte_verdict` meets its contract, from what its loop keeps.
-- Assumes nothing.
use mathlib.Core.Path.{sym, ◌∙◌}
use Rattle.elements.proofs.Bytewise.{scanned_bad, scanned_all, bytes_bad}
use native.Mathlib.Omega.{arith}
use Rattle.elements.proofs.segment.byte_verdict.Goals as goal

pub returns-then-not-b-component : goal.returns-then-not-b-component
returns-then-not-b-component c =
    rw c.at_element.ensures
    (scanned_bad c.loop-b.invariant (omega arith) c.if-b-element.false c.if-not-b-component.true
    ∙ sym (bytes_bad c.args.separators c.args.segment.now))

pub returns : goal.returns
returns c = scanned_all c.loop-b.invariant (omega arith) ∙ sym (bytes_bad c.args.separators c.args.segment.now)
