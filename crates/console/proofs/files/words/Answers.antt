use Rattle.std.proofs.Common.{rules, arith, codes}
use Rattle.console.proofs.Before.{nowhere_before}
use Rattle.console.proofs.files.words.Goals.{in-Some, in_default}
use Rattle.console.proofs.files.words.Goals as goal

-- the number stood at the first place where one is found
pub returns : goal.returns
returns c =
    elim c.match-find.branch [
      | in-Some w ↦
          rw
          (w.message-is, w.truncate.ensures.bytes, ← c.deref.ensures)
          (nowhere_before (codes " (os error ") _ w.in-Some.end (omega arith) w.in-Some.ensures.cases.1.0)
      | in_default w ↦ search rules
    ]
