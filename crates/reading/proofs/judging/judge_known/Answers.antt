-- `judge_known` meets its contract: the row, the profile, and, where the segment is not plain, the elements and the late rules, as `JudgeSteps` says.
-- Assumes nothing.
use Rattle.reading.proofs.reader.JudgeSteps.{judges_row, judges_outside, judges_plain, judges_element, judges_rest}
use mathlib.Core.Path.{sym, ◌∙◌}
use borrow.Author.Tests.{eqb-true}
use Rattle.std.proofs.lemmas.Result.{err_from_is_err_and}
use Rattle.gate.specs.Profile.{profile_of}
use Rattle.gate.specs.Rules.{Admitted}
use Rattle.reading.proofs.judging.judge_known.Goals as goal
use Rattle.reading.proofs.judging.judge_known.Goals.{Else-not-admits}

-- the profile admits the row, where its test says so
inside : (c : Else-not-admits) → Admitted (profile_of c.args.how) c.in-Some.row
inside c = rw (sym c.admits.ensures ∙ c.if-not-admits.false) tt

pub returns-in_default : goal.returns-in_default
returns-in_default c = λ before gs rows g more fit nt st.
    let known = c.requires.known_tag in
    rw c.at_element.ensures (judges_row fit nt st _ known.tagged known.listed known.ended c.requires.next_table c.in_default.ensures)

pub returns-then-not-admits : goal.returns-then-not-admits
returns-then-not-admits c = λ before gs rows g more fit nt st.
    let known = c.requires.known_tag in
    rw c.at_element-then-not-admits.ensures
    (judges_outside fit nt st _ known.tagged known.listed known.ended c.requires.next_table _ c.in-Some.ensures
    (λ a. rw (sym c.admits.ensures ∙ c.if-not-admits.true) at a))

pub returns-then-is_plain : goal.returns-then-is_plain
returns-then-is_plain c = λ before gs rows g more fit nt st.
    let known = c.requires.known_tag in
    judges_plain fit nt st _ known.tagged known.listed known.ended c.requires.next_table _ c.in-Some.ensures
    (inside (goal.at.returns-then-is_plain c).Else-not-admits) (eqb-true _ 0 (sym c.is_plain.ensures ∙ c.if-is_plain.true))

pub returns-in_err-ruled_verdict : goal.returns-in_err-ruled_verdict
returns-in_err-ruled_verdict c = λ before gs rows g more fit nt st.
    let known = c.requires.known_tag in
    let p = err_from_is_err_and c.from_residual.result c.from_residual.ensures.1 in
    rw (p.1, p.2)
    (judges_element fit nt st _ known.tagged known.listed known.ended c.requires.next_table _ c.in-Some.ensures
    (inside (goal.at.returns-in_err-ruled_verdict c).Else-not-admits) _ c.ruled_verdict.ensures _ c.in_err-ruled_verdict.was)

pub returns : goal.returns
returns c = λ before gs rows g more fit nt st.
    let known = c.requires.known_tag in
    judges_rest fit nt st _ known.tagged known.listed known.ended c.requires.next_table _ c.in-Some.ensures
    (inside (goal.at.returns c).Else-not-admits) _ c.ruled_verdict.ensures c.in_ok-ruled_verdict.was _ c.judge_late.ensures
