-- `bad_bytes` meets its contract.
-- Assumes nothing.
use mathlib.Core.Path.{sym, ap, ◌∙◌}
use Rattle.elements.specs.Checks.{Verdict}
use Rattle.reading.specs.internal.Settling.{refused_by}
use Rattle.reading.proofs.reading.bad_bytes.Goals as goal

pub returns-in-Err : goal.returns-in-Err
returns-in-Err c =
    let a = c.args in
    c.refused.ensures ∙ ap (λ (d : Verdict). refused_by d a.count a.at) (sym c.in-Err.is ∙ c.byte_verdict.ensures)

pub returns-in-Ok : goal.returns-in-Ok
returns-in-Ok c =
    let a = c.args in
    rw c.at_element.ensures at c.refused-in-Ok.ensures ∙ ap (λ (d : Verdict). refused_by d a.count a.at) (sym c.in-Ok.is ∙ c.byte_verdict.ensures)
