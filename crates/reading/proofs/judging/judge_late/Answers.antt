-- `judge_late` meets its contract.
-- Assumes nothing.
use mathlib.Core.Path.{◌≡◌, refl, sym, ap, ◌∙◌}
use borrow.Author.Tests.{eq-eqb, ne_eqb}
use Rattle.rows.specs.Tags.{tag, tag_number}
use Rattle.std.proofs.lemmas.Result.{err_from_is_err_and}
use Rattle.elements.specs.internal.Layouts.{element_in}
use Rattle.finding.specs.internal.Lists.{place_of}
use Rattle.finding.specs.internal.Notes.{asks_of}
use Rattle.reading.specs.internal.Judgements.{by_level_of, by_closing}
use Rattle.reading.proofs.judging.judge_late.Goals as goal

-- the numbers of the two tags in the code
hl_number : 12 ≡ tag "HL"
unfolding tag_number
hl_number = refl

se-number : 33 ≡ tag "SE"
unfolding tag_number
se-number = refl

pub returns-in_err-entitled : goal.returns-in_err-entitled
returns-in_err-entitled c = λ m ls h f.
    let a = c.args in
    let place = c.place_of-place.ensures ∙ ap place_of c.element.ensures in
    let hl = c.if-tag-eq-HL.true ∙ hl_number in
    let p = err_from_is_err_and c.from_residual.result c.from_residual.ensures.1 in
    rw (p.1, p.2, eq-eqb a.tag (tag "HL") hl)
    (ap (by_level_of a.row (asks_of (element_in a.parts.bytes.now a.parts.starts.now a.parts.layout 4)) (place_of (element_in a.parts.bytes.now a.parts.starts.now a.parts.layout 1)))
    (c.in_err-entitled.ensures m ls h (f hl) place))

pub returns-then-tag-eq-HL : goal.returns-then-tag-eq-HL
returns-then-tag-eq-HL c = λ m ls h f.
    let a = c.args in
    let asks = c.asks_of-asks.ensures ∙ ap asks_of c.element-then-tag-eq-HL.ensures in
    let place = c.place_of-place.ensures ∙ ap place_of c.element.ensures in
    let hl = c.if-tag-eq-HL.true ∙ hl_number in
    rw (eq-eqb a.tag (tag "HL") hl)
    (λ i. by_level_of a.row (asks i) (place i) (c.in_ok-entitled.ensures m ls h (f hl) place i))

pub returns-in_err-judge_se : goal.returns-in_err-judge_se
returns-in_err-judge_se c = λ m ls h f.
    let a = c.args in
    let p = err_from_is_err_and c.from_residual-in_err-judge_se.result c.from_residual-in_err-judge_se.ensures.1 in
    rw (p.1, p.2, ne_eqb a.tag (tag "HL") (λ e. c.if-tag-eq-HL.false (e ∙ sym hl_number)), eq-eqb a.tag (tag "SE") (c.if-tag-eq-SE.true ∙ se-number))
    (ap (by_closing a.row) c.in_err-judge_se.ensures)

pub returns-then-tag-eq-SE : goal.returns-then-tag-eq-SE
returns-then-tag-eq-SE c = λ m ls h f.
    let a = c.args in
    rw (ne_eqb a.tag (tag "HL") (λ e. c.if-tag-eq-HL.false (e ∙ sym hl_number)), eq-eqb a.tag (tag "SE") (c.if-tag-eq-SE.true ∙ se-number))
    (ap (by_closing a.row) c.in_ok-judge_se.ensures)

pub returns : goal.returns
returns c = λ m ls h f.
    let a = c.args in
    rw (ne_eqb a.tag (tag "HL") (λ e. c.if-tag-eq-HL.false (e ∙ sym hl_number)), ne_eqb a.tag (tag "SE") (λ e. c.if-tag-eq-SE.false (e ∙ sym se-number))) refl
