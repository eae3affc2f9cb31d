-- The answers of the functions that judge an HL.
-- Assumes nothing.
use Rattle.std.specs.Prelude.{ℕ, suc, List, Result, Ok, Err}
use Rattle.text.specs.Bytes.{Bytes, bytes, same}
use Rattle.elements.specs.Checks.{Verdict, first_broken}
use Rattle.elements.specs.declared.verdict.Reason.{Reason}
use Rattle.elements.specs.declared.verdict.Fault.{Fault}
use Rattle.levels.specs.Profile.{LevelProfile, code_of}
use Rattle.levels.specs.Levels.{Claim, Level, level_of}
use Rattle.levels.specs.Rules.{root_checks, child_checks, level_checks}
use Rattle.levels.specs.declared.judging.Entitled.{Entitled}
use Rattle.levels.specs.declared.judging.Parent.{Parent}

-- what a level's record tells of it beside its segment
abbrev pub entitled : Level → Entitled
entitled l = record { parent = l.parent; depth = l.depth; code = l.code }

-- the answer for an HL that breaks a rule: the answer's reason, and the element it names
abbrev pub breaks : Reason → ℕ → Result Entitled Fault
breaks reason element = Err (record { reason = reason; element = element })

-- a verdict as the answer for an HL: what it makes of its level, or the first rule that it breaks
abbrev pub judged_by : Verdict → Entitled → Result Entitled Fault
judged_by (Ok u) e = Ok e
judged_by (Err fault) e = Err fault

-- the answer for an HL after the levels ls
unfoldable pub judged : LevelProfile → List Level → Claim → Result Entitled Fault
judged profile ls c = judged_by (first_broken (level_checks profile ls c)) (entitled (level_of profile 0 c ls))

-- the answer for an HL without a parent, by its code and mark
unfoldable pub judged_root : LevelProfile → Bytes → Bytes → Result Entitled Fault
judged_root profile code mark =
    judged_by (first_broken (root_checks profile (code_of profile code) mark)) (record { parent = 0; depth = 1; code = code_of profile code })

-- and for one under this parent
unfoldable pub judged_child : LevelProfile → Parent → Bytes → Bytes → Result Entitled Fault
judged_child profile parent code mark =
    judged_by (first_broken (child_checks profile parent.code parent.shut (code_of profile code) mark))
    (record { parent = parent.number; depth = parent.below; code = code_of profile code })

-- level n as a parent
abbrev pub as_parent : ℕ → Level → Parent
as_parent n l = record { number = n; code = l.code; shut = same l.mark (bytes "0"); below = suc l.depth }
