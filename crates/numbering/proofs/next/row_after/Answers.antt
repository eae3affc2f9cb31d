-- `numbering::next::row_after` meets its contract: each way out gives the defined answer, which has the promised meaning.
-- Assumes nothing.
use mathlib.Core.Path.{sym, ◌∙◌}
use mathlib.Core.Logic.{⊎_elim}
use native.Mathlib.Omega.{arith}
use Prim.Native.Nat.{◌≤◌, ◌<◌}
use Rattle.numbering.proofs.Lookup.{start_st, start_other, row_outside, tag_outside, no_row, no_row_there, third_refused, goes_on}
use Rattle.numbering.proofs.next.row_after.Goals as goal
use Rattle.numbering.proofs.next.row_after.Goals.{Else-tag-ge-NO_TAG}

-- past the first tests the row is 1 to 79 and the tag number below 34
low : (c : Else-tag-ge-NO_TAG) → 1 ≤ c.args.row
low c = omega arith

high : (c : Else-tag-ge-NO_TAG) → c.args.row ≤ 79
high c = omega arith

tag_in : (c : Else-tag-ge-NO_TAG) → c.args.tag < 34
tag_in c = c.if-tag-ge-NO_TAG.false

pub returns-then-tag-eq-ST : goal.returns-then-tag-eq-ST
returns-then-tag-eq-ST c = start_st c.if-row-eq0.true c.if-tag-eq-ST.true

pub returns-else-tag-eq-ST : goal.returns-else-tag-eq-ST
returns-else-tag-eq-ST c = start_other c.if-row-eq0.true c.if-tag-eq-ST.false

pub returns-then-row-gt-LAST : goal.returns-then-row-gt-LAST
returns-then-row-gt-LAST c =
    ⊎_elim (λ h. row_outside c.if-row-eq0.false h) (λ w. tag_outside w.1) c.then-row-gt-LAST.either

pub returns-then-next-eq0 : goal.returns-then-next-eq0
returns-then-next-eq0 c =
    let s = (goal.at.returns-then-next-eq0 c).Else-tag-ge-NO_TAG in
    ⊎_elim (no_row (low s) (high s) (tag_in s)) (λ w. no_row_there (low s) (high s) (tag_in s) w.1) c.then-next-eq0.either

pub returns-then-at_most_two : goal.returns-then-at_most_two
returns-then-at_most_two c =
    let s = (goal.at.returns-then-at_most_two c).Else-tag-ge-NO_TAG in
    third_refused (low s) (high s) (tag_in s) c.if-next-eq0.false c.if-next-ge-NONE.false c.if-again.true (omega arith)
    (sym c.at_most_two.ensures ∙ c.if-at_most_two.true)

pub returns : goal.returns
returns c =
    let s = (goal.at.returns c).Else-tag-ge-NO_TAG in
    goes_on (low s) (high s) (tag_in s) c.if-next-eq0.false c.if-next-ge-NONE.false (λ a n m. grind arith)
