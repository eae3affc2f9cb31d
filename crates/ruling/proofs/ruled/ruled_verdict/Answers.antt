-- `ruled_verdict` meets its contract: no rules, one of 9, 8 and 10, or the notes.
-- Assumes nothing.
use mathlib.Core.Path.{◌≡◌, sym, ◌∙◌}
use mathlib.Core.Bool.{true≢false}
use lib.ListN.{length}
use borrow.Author.Tests.{eq-eqb, eqb-true}
use Rattle.std.proofs.lemmas.Result.{err_from_is_err_and}
use Rattle.elements.specs.Checks.{Holds}
use Rattle.elements.specs.internal.Layouts.{there_in, components_in}
use Rattle.elements.specs.internal.Verdicts.{rules_of}
use Rattle.elements.proofs.EveryTag.{last_small}
use Rattle.ruling.specs.internal.Early.{early_by}
use Rattle.ruling.proofs.EarlyRules.{early_few, silent_others}
use Rattle.ruling.proofs.RuleOrder.{decide_plain, decide_early, decide_notes}
use native.Mathlib.Omega.{arith}
use Rattle.ruling.proofs.ruled.ruled_verdict.Goals as goal
use Rattle.ruling.proofs.ruled.ruled_verdict.Goals.{Else-is_plain, In_ok-early_verdict}

ruled : (c : Else-is_plain) → length (rules_of c.args.tag).elements ≡ 0 → ⊥
ruled c z = true≢false (sym (c.is_plain.ensures ∙ eq-eqb _ 0 z) ∙ c.if-is_plain.false)

-- nothing is found before the notes
silent : (c : In_ok-early_verdict) → Holds ≡ early_by c.args.profile c.args.tag
    (there_in c.args.parts.bytes.now c.args.parts.starts.now c.args.parts.layout)
    (components_in c.args.parts.bytes.now c.args.parts.starts.now c.args.parts.layout c.args.component) c.args.parts.layout.count
silent c = c.in_ok-early_verdict.ensures

pub returns-then-is_plain : goal.returns-then-is_plain
returns-then-is_plain c = decide_plain _ _ _ _ c.args.profile _ (eqb-true _ 0 (sym c.is_plain.ensures ∙ c.if-is_plain.true))

pub returns-in_err-early_verdict : goal.returns-in_err-early_verdict
returns-in_err-early_verdict c =
    let p = err_from_is_err_and c.from_residual.result c.from_residual.ensures.1 in
    let f = c.in_err-early_verdict.field-0.0 in
    rw (p.1, p.2)
    (decide_early _ _ _ _ c.args.profile _ (ruled (goal.at.returns-in_err-early_verdict c).Else-is_plain) f.reason f.element
    c.in_err-early_verdict.ensures)

pub notes_verdict-requires : goal.notes_verdict-requires
notes_verdict-requires c =
    let a = c.args in
    omega (arith, early_few _ _ _ _ _ (silent_others _ _ _ _ _ a.profile _ (silent (goal.at.notes_verdict-requires c).In_ok-early_verdict)), last_small a.tag)

pub returns : goal.returns
returns c =
    c.notes_verdict.ensures ∙ decide_notes _ _ _ _ c.args.profile _ (ruled (goal.at.returns c).Else-is_plain) (silent (goal.at.returns c).In_ok-early_verdict)
