-- What conditions 1 and 2 say of rewriting, each as one theorem; and what a lookup finds in what was written.
-- Assumes nothing.
use Prim.Native.Nat.{ℕ}
use lib.ListN.{take}
use Rattle.text.specs.Bytes.{Bytes}
use Rattle.text.specs.declared.separators.Separators.{Separators}
use Rattle.rows.specs.declared.profile.ProfileName.{ProfileName}
use Rattle.gate.specs.Answers.{accepted}
use Rattle.gate.specs.Records.{Tables}
use Rattle.rewriting.specs.Rewrites.{Rewrites}
use Rattle.rewriting.specs.Conditions.{Condition1Rewriting, Condition2Rewriting}
use Rattle.rewriting.specs.Lookups.{LookedUpAlike}
use Rattle.rewriting.proofs.Once.{rewrites_once}
use Rattle.rewriting.proofs.ListedAnswers.{rewriting_answered, rewriting_listed}
use Rattle.rewriting.proofs.SuccessFacts.{succeeded}
use Rattle.rewriting.proofs.ReadingBack.{same_report, looked_up, reads_back, writes_used, same_again}

-- Condition 1
pub condition_1_rewriting : Condition1Rewriting
condition_1_rewriting = record { answered = rewriting_answered; listed = rewriting_listed; once = rewrites_once }

-- Condition 2
pub condition_2_rewriting : Condition2Rewriting
condition_2_rewriting = record {
  same_elements = λ profile old new s before output a l b tables after x.
      same_report profile old new s before output a l b tables after (succeeded profile old new s before output a l b tables after x);
  reads_back = λ profile old new s before output a l b tables after x.
      reads_back profile old new s before output a l b tables after (succeeded profile old new s before output a l b tables after x);
  writes_exactly = λ profile old new s before output a l b tables after x.
      writes_used profile old new s before output a l b tables after (succeeded profile old new s before output a l b tables after x);
  same_bytes = λ profile old s before output a l b tables after x.
      same_again profile old s before output a l b tables after (succeeded profile old old s before output a l b tables after x);
}

-- Document 02, Item 8: a rewriting that succeeds gives bytes in which a lookup finds the same
pub looked_up_alike : (profile : ProfileName) (old new : Separators) (s : Bytes) (before : Tables) (output : Bytes) (segments levels bytes : ℕ) (tables : Tables) (after : Bytes)
    → Rewrites profile old new s before output (accepted segments levels bytes) tables after → LookedUpAlike profile old s new (take bytes after)
looked_up_alike profile old new s before output a l b tables after x =
    looked_up profile old new s before output a l b tables after (succeeded profile old new s before output a l b tables after x)
