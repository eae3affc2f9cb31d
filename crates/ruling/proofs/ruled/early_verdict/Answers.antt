-- `early_verdict` meets its contract: a usual segment, or 9 of an element that must be absent, or 9, then 8 and 10.
-- Assumes nothing.
use Prim.Native.Nat.{ℕ}
use mathlib.Core.Path.{◌≡◌, ◌∙◌}
use mathlib.Core.Bool.{Bool}
use Rattle.std.proofs.lemmas.Result.{err_from_is_err_and}
use Rattle.text.proofs.Tests.{and_first, and_second}
use Rattle.elements.specs.Data.{element_profile}
use Rattle.elements.specs.Checks.{Holds}
use Rattle.elements.specs.Rules.{is_unused}
use Rattle.elements.specs.internal.Layouts.{there_in}
use Rattle.ruling.specs.internal.Early.{unused_verdict}
use Rattle.ruling.proofs.EarlyRules.{early_many, early_rest, unwanted_decides, others_decide}
use Rattle.ruling.proofs.UnusedElements.{used_silent}
use Rattle.ruling.proofs.UsualSegments.{usual_silent}
use Rattle.ruling.proofs.ruled.early_verdict.Goals as goal
use Rattle.ruling.proofs.ruled.early_verdict.Goals.{In_ok-unused_verdict, Start}

-- which elements are present
abbrev there : Start → ℕ → Bool
there c = there_in c.args.parts.bytes.now c.args.parts.starts.now c.args.parts.layout

-- no element that must be absent is there
silent : (c : In_ok-unused_verdict) → Holds ≡ unused_verdict (is_unused (element_profile c.args.profile) c.args.tag)
    (there_in c.args.parts.bytes.now c.args.parts.starts.now c.args.parts.layout) c.args.parts.layout.count
silent c = c.in_ok-unused_verdict.ensures

pub returns-then-parts-usual : goal.returns-then-parts-usual
returns-then-parts-usual c =
    let a = c.args in
    let seen = c.usual in
    let told = seen.ensures (and_second a.parts.layout.single seen.result c.if-parts-usual.true) in
    usual_silent _ _ _ _ told.0 (and_first a.parts.layout.single seen.result c.if-parts-usual.true) a.component
    ∙ others_decide _ _ _ _ _ a.profile (there (goal.at.returns-then-parts-usual c).Start) (used_silent a.profile a.tag (there (goal.at.returns-then-parts-usual c).Start) a.parts.layout.count told.1)

pub returns-in_err-unused_verdict : goal.returns-in_err-unused_verdict
returns-in_err-unused_verdict c =
    let p = err_from_is_err_and c.from_residual.result c.from_residual.ensures.1 in
    let f = c.in_err-unused_verdict.field-0.0 in
    rw (p.1, p.2)
    (unwanted_decides _ _ _ _ _ c.args.profile (there (goal.at.returns-in_err-unused_verdict c).Start) f.reason f.element
    c.in_err-unused_verdict.ensures)

pub returns-in_err-too_many : goal.returns-in_err-too_many
returns-in_err-too_many c =
    let p = err_from_is_err_and c.from_residual-in_err-too_many.result c.from_residual-in_err-too_many.ensures.1 in
    let f = c.in_err-too_many.field-0.0 in
    rw (p.1, p.2)
    (early_many _ _ _ _ _ f.reason f.element c.in_err-too_many.ensures
    ∙ others_decide _ _ _ _ _ c.args.profile (there (goal.at.returns-in_err-too_many c).Start) (silent (goal.at.returns-in_err-too_many c).In_ok-unused_verdict))

pub returns : goal.returns
returns c =
    c.fitting_verdict.ensures ∙ early_rest _ _ _ _ _ c.in_ok-too_many.ensures
    ∙ others_decide _ _ _ _ _ c.args.profile (there (goal.at.returns c).Start) (silent (goal.at.returns c).In_ok-unused_verdict)
