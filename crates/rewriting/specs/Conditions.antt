-- What the conditions of acceptance say of rewriting, clause by clause in the tender's order, about its promise. Each is proved as one theorem.
-- Assumes nothing.
use Rattle.std.specs.Prelude.{ℕ, ◌≤◌, ◌≡◌, ◌⊎◌, List, length, take, drop, Ok, Err}
use Rattle.text.specs.Bytes.{Bytes}
use Rattle.text.specs.Cut.{Placed}
use Rattle.text.specs.declared.separators.Separators.{Separators}
use Rattle.rows.specs.declared.profile.ProfileName.{ProfileName}
use Rattle.elements.specs.Reasons.{number_of}
use Rattle.gate.specs.Segments.{seen}
use Rattle.gate.specs.Answers.{Answer, accepted, RowNotInProfile}
use Rattle.gate.specs.Records.{Tables}
use Rattle.gate.specs.Reads.{Reads}
use Rattle.gate.specs.Conditions.{Numbering}
use Rattle.gate.specs.declared.how.How.{How}
use Rattle.rewriting.specs.Rewrites.{strictly, Rewrites}

-- Condition 1
-- the list of rewriting's answers: acceptance, and refusals 1 to 19, of a reply 24 too
abbrev pub RewritingListed : ProfileName → Answer → Type 0
RewritingListed profile (Ok a) = Unit {0}
RewritingListed profile (Err r) = (1 ≤ number_of r.reason) × ((number_of r.reason ≤ 19) ⊎ RowNotInProfile profile (number_of r.reason))

-- every input, either profile, every choice of separators, every table size and every output's length
pub record Condition1Rewriting : Type 0 where
  -- gets an answer
  pub answered : (profile : ProfileName) (old new : Separators) (s : Bytes) (before : Tables) (output : Bytes)
      → (r : Answer) × (tables : Tables) × (after : Bytes) × Rewrites profile old new s before output r tables after
  -- from the list,
  pub listed : (profile : ProfileName) (old new : Separators) (s : Bytes) (before : Tables) (output : Bytes) (r : Answer) (tables : Tables) (after : Bytes)
      → Rewrites profile old new s before output r tables after → RewritingListed profile r
  -- and its numbers, and what it leaves in the lent tables and the lent output, are exactly those
  pub once : (profile : ProfileName) (old new : Separators) (s : Bytes) (before : Tables) (output : Bytes) (r r' : Answer) (tables tables' : Tables) (after after' : Bytes)
      → Rewrites profile old new s before output r tables after → Rewrites profile old new s before output r' tables' after'
      → (r ≡ r') × (tables ≡ tables') × (after ≡ after')

-- Condition 2
-- the bytes t hold, with the new separators, the report that the bytes s hold with the old ones: both have a numbering by the same rows, and
-- segment by segment the same elements and components
pub record SameReport (profile : ProfileName) (old : Separators) (s : Bytes) (new : Separators) (t : Bytes) : Type 0 where
  pub rows : List ℕ
  pub old_segments : List Placed
  pub new_segments : List Placed
  pub old_numbering : Numbering (strictly profile old) s old_segments rows
  pub new_numbering : Numbering (strictly profile new) t new_segments rows
  pub elements : seen (strictly profile new) new_segments ≡ seen (strictly profile old) old_segments

-- every reading of the bytes from these tables has this answer and leaves these tables
abbrev pub ReadsTo : How → Bytes → Tables → Answer → Tables → Type 0
ReadsTo how t before answer tables = (r : Answer) (after : Tables) → Reads how t before r after → (r ≡ answer) × (after ≡ tables)

-- as many bytes are written as the answer says, and those behind them are as they were
pub record WritesExactly (bytes : ℕ) (output after : Bytes) : Type 0 where
  pub room : bytes ≤ length output
  pub written : length (take bytes after) ≡ bytes
  pub kept : drop bytes after ≡ drop bytes output

-- a rewriting that succeeds
pub record Condition2Rewriting : Type 0 where
  -- gives bytes that read back to the same elements,
  pub same_elements : (profile : ProfileName) (old new : Separators) (s : Bytes) (before : Tables) (output : Bytes) (segments levels bytes : ℕ) (tables : Tables) (after : Bytes)
      → Rewrites profile old new s before output (accepted segments levels bytes) tables after → SameReport profile old s new (take bytes after)
  -- with the same answer and the same tables;
  pub reads_back : (profile : ProfileName) (old new : Separators) (s : Bytes) (before : Tables) (output : Bytes) (segments levels bytes : ℕ) (tables : Tables) (after : Bytes)
      → Rewrites profile old new s before output (accepted segments levels bytes) tables after
      → ReadsTo (strictly profile new) (take bytes after) before (accepted segments levels bytes) tables
  -- it writes exactly the used length;
  pub writes_exactly : (profile : ProfileName) (old new : Separators) (s : Bytes) (before : Tables) (output : Bytes) (segments levels bytes : ℕ) (tables : Tables) (after : Bytes)
      → Rewrites profile old new s before output (accepted segments levels bytes) tables after → WritesExactly bytes output after
  -- and with the old separators given again it gives the same bytes
  pub same_bytes : (profile : ProfileName) (old : Separators) (s : Bytes) (before : Tables) (output : Bytes) (segments levels bytes : ℕ) (tables : Tables) (after : Bytes)
      → Rewrites profile old old s before output (accepted segments levels bytes) tables after → take bytes after ≡ take bytes s
