-- `judge` meets its contract: the tag, the ends, then the other rules, as `JudgeSteps` says.
-- Assumes nothing.
use native.Mathlib.Omega.{arith}
use Rattle.reading.proofs.reader.JudgeSteps.{judges_end}
use Rattle.reading.specs.internal.Judgements.{KnownTag}
use Rattle.reading.proofs.judging.judge.Goals as goal

pub returns-then-not-parts : goal.returns-then-not-parts
returns-then-not-parts c = λ before gs rows g more fit nt st.
    judges_end fit nt st _ c.tag_of-tag.ensures (omega arith) (rw c.if-not-parts.true tt) _ c.bad_end.ensures

pub judge_known-requires : goal.judge_known-requires
judge_known-requires c =
    let known : KnownTag _ _ c.args.parts.layout _ = record { tagged = c.tag_of-tag.ensures; listed = omega arith; ended = rw c.if-not-parts.false tt } in
    record { next_table = c.requires.next_table; known_tag = known }
