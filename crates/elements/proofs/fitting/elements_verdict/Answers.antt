-- `elements_verdict` meets its contract, from what its loop keeps.
-- Assumes nothing.
use mathlib.Core.Path.{◌≡◌, sym, ap, ◌∙◌}
use mathlib.Core.Bool.{Bool, not}
use Rattle.elements.specs.Rules.{suits_by}
use Rattle.elements.specs.internal.Layouts.{components_by, components_in}
use Rattle.elements.specs.internal.Verdicts.{element_by, rules_of, complete_at_of, suits_at_of}
use Rattle.elements.proofs.ElementPass.{judged_on, judged_on_suited, judged_on_behind, judged_missing, judged_unfit, judged_all, complete_at, suits_at}
use Rattle.elements.proofs.ByLayout.{element_early, element_at}
use native.Mathlib.Omega.{arith}
use Rattle.elements.proofs.fitting.elements_verdict.Goals as goal
use Rattle.elements.proofs.fitting.elements_verdict.Goals.{After-is_complete, then-is_none+then-not-is_suited, else-is_none, else-is_none-via-then-is_none+else-not-is_suited, else-is_none-via-else-is_none}

-- what the two tests of element k find
complete_here : (c : After-is_complete) → c.is_complete.result ≡ complete_at_of (rules_of c.args.tag)
    (components_in c.args.parts.bytes.now c.args.parts.starts.now c.args.parts.layout c.args.component) c.loop-k.k
complete_here c =
    c.is_complete.ensures
    ∙ complete_at _ _ _ c.rule_of-rule.result _ c.rule_of-rule.ensures.same
    (element_at _ _ _ _ _ _ (c.element-p.ensures ∙ element_early _ _ _ _ (omega arith)))

suited_here : (c : After-is_complete) {r : Bool}
    → r ≡ suits_by (element_by c.rule_of-rule.result) (components_by c.args.parts.layout.single c.args.component c.element-p.result.now)
    → r ≡ suits_at_of (rules_of c.args.tag)
    (components_in c.args.parts.bytes.now c.args.parts.starts.now c.args.parts.layout c.args.component) c.loop-k.k
suited_here c e =
    e
    ∙ suits_at _ _ _ c.rule_of-rule.result _ c.rule_of-rule.ensures.same
    (element_at _ _ _ _ _ _ (c.element-p.ensures ∙ element_early _ _ _ _ (omega arith)))

pub returns-then-not-is_complete : goal.returns-then-not-is_complete
returns-then-not-is_complete c =
    rw c.at_element.ensures
    (judged_missing _ _ _ c.loop-k.invariant (omega arith)
    (sym (complete_here (goal.at.returns-then-not-is_complete c).After-is_complete) ∙ c.if-not-is_complete.true))

pub loop-k-preserved : goal.loop-k-preserved
loop-k-preserved c =
    let inv = c.loop-k.invariant in
    let here = (goal.at.loop-k-preserved c).After-is_complete in
    let complete = sym (complete_here here) ∙ c.if-not-is_complete.false in
    elim c.if-is_none.branch [
      | then-is_none+then-not-is_suited w ↦ rw w.unfit-is
          (judged_on c.loop-k.unfit (c.is_none.ensures ∙ ap not w.if-is_none.true) inv complete
          (sym (suited_here here w.is_suited.ensures) ∙ w.if-not-is_suited.true))
      | else-is_none w ↦ rw w.unfit-is
          (elim w.else-is_none.branch [
            | else-is_none-via-then-is_none+else-not-is_suited w' ↦ judged_on_suited c.loop-k.unfit (c.is_none.ensures ∙ ap not w'.if-is_none.true)
                inv complete (sym (suited_here here w'.is_suited.ensures) ∙ w'.if-not-is_suited.false)
            | else-is_none-via-else-is_none w' ↦ judged_on_behind c.loop-k.unfit (c.is_none.ensures ∙ ap not w'.if-is_none.false) inv complete
          ])
    ]

pub returns-in-None : goal.returns-in-None
returns-in-None c = judged_all _ _ _ (rw c.in-None.is at c.loop-k.invariant) (omega arith)

pub returns-in-Some : goal.returns-in-Some
returns-in-Some c = rw c.at_element-in-Some.ensures (judged_unfit _ _ c.args.upto (rw c.in-Some.is at c.loop-k.invariant) (omega arith) (omega arith))
