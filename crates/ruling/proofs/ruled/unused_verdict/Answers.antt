-- `unused_verdict` meets its contract: nothing of a report, nor of a reply's segments but HL, and there the second element or else the fourth.
-- Assumes nothing.
use Prim.Native.Nat.{ℕ}
use mathlib.Core.Path.{sym, ◌∙◌}
use mathlib.Core.Bool.{Bool}
use Rattle.rows.specs.Tags.{tag_number}
use Rattle.rows.specs.declared.profile.ProfileName.TheVariants.{Report, Reply}
use Rattle.elements.specs.internal.Layouts.{there_in}
use Rattle.ruling.proofs.RuleOrder.{there_past}
use Rattle.ruling.proofs.UnusedElements.{report_used, others_used, used_silent, second_there, fourth_there, neither_there}
use Rattle.ruling.proofs.ruled.unused_verdict.Goals as goal
use Rattle.ruling.proofs.ruled.unused_verdict.Goals.{Start}

abbrev there : Start → ℕ → Bool
there c = there_in c.args.parts.bytes.now c.args.parts.starts.now c.args.parts.layout

pub returns-then-tag-ne-HL : goal.returns-then-tag-ne-HL
unfolding tag_number
returns-then-tag-ne-HL c =
    rw c.in-Reply.is
    (used_silent Reply c.args.tag (there (goal.at.returns-then-tag-ne-HL c).Start) c.args.parts.layout.count (others_used Reply c.args.tag c.if-tag-ne-HL.true))

pub returns-then-is_there : goal.returns-then-is_there
unfolding tag_number
returns-then-is_there c =
    let second =
    second_there (there (goal.at.returns-then-is_there c).Start) c.args.parts.layout.count c.args.tag c.if-tag-ne-HL.false (there_past _ _ _)
    (sym c.is_there.ensures ∙ c.if-is_there.true) in
    rw c.in-Reply.is (cc second)

pub returns-then-is_there-2 : goal.returns-then-is_there-2
unfolding tag_number
returns-then-is_there-2 c =
    let fourth =
    fourth_there (there (goal.at.returns-then-is_there-2 c).Start) c.args.parts.layout.count c.args.tag c.if-tag-ne-HL.false (there_past _ _ _)
    (sym c.is_there.ensures ∙ c.if-is_there.false) (sym c.is_there-in-Reply.ensures ∙ c.if-is_there-2.true) in
    rw c.in-Reply.is (cc fourth)

pub returns-in-Report : goal.returns-in-Report
returns-in-Report c =
    rw c.in-Report.is (used_silent Report c.args.tag (there (goal.at.returns-in-Report c).Start) c.args.parts.layout.count (report_used c.args.tag))

pub returns-else-is_there-2 : goal.returns-else-is_there-2
unfolding tag_number
returns-else-is_there-2 c =
    rw c.in-Reply.is
    (neither_there (there (goal.at.returns-else-is_there-2 c).Start) c.args.parts.layout.count c.args.tag c.if-tag-ne-HL.false (there_past _ _ _)
    (sym c.is_there.ensures ∙ c.if-is_there.false) (sym c.is_there-in-Reply.ensures ∙ c.if-is_there-2.false))
