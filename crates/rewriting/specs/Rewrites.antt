-- The promise of rewriting: which answer, and what tables and output hold afterwards, for every input, either profile, both sets of
-- separators, every table and every output. Document 01, the text behind the table of answers.
-- Assumes nothing.
use Rattle.std.specs.Prelude.{ℕ, suc, ◌≡◌, Bool, true, false, not, List, [], ◌∷◌, ◌++◌, map, leb, length, drop, Option, Some, None, Ok, Err}
use Rattle.text.specs.Bytes.{Bytes, every}
use Rattle.text.specs.Separators.{fit_separators, is_separator}
use Rattle.text.specs.Pieces.{closed}
use Rattle.text.specs.View.{Piece, View, view_of, written, element_of, inspected}
use Rattle.text.specs.Cut.{Placed}
use Rattle.text.specs.declared.separators.Separators.{Separators}
use Rattle.text.specs.declared.lines.LineEnds.TheVariants.{Strict}
use Rattle.rows.specs.declared.profile.ProfileName.{ProfileName}
use Rattle.elements.specs.Checks.{Verdict, Holds, Check, each, first_broken}
use Rattle.gate.specs.Answers.{Answer, numbers_of}
use Rattle.gate.specs.Records.{Tables}
use Rattle.gate.specs.Reads.{Reads}
use Rattle.gate.specs.Conditions.{Numbering}
use Rattle.gate.specs.declared.how.How.{How}
use Rattle.rewriting.specs.declared.collisions.Clash.{Clash}
use Rattle.elements.specs.declared.verdict.Reason.TheVariants.{Collision}

-- strict reading by this profile and these separators; rewriting reads so, whatever its caller's way with line ends is
abbrev pub strictly : ProfileName → Separators → How
strictly profile old = record { separators = old; lines = Strict; profile = profile }

-- the segments as views, by these separators
abbrev pub views_by : Separators → List Placed → List View
views_by q gs = map (λ (g : Placed). view_of q g.segment) gs

-- the segments as they are written with the new separators: every view again, and a terminator after each
abbrev pub rewritten : Separators → Separators → List Placed → Bytes
rewritten old new gs = closed new.terminator (map (written new) (views_by old gs))

-- no data byte of the piece equals a new separator
abbrev pub apart_from : Separators → Piece → Bool
apart_from new p = every (every (λ (b : ℕ). not (is_separator new b))) p

-- so it is of every piece; the tag is element 0
abbrev pub apart_checks : Separators → View → List Check
apart_checks new v = each Collision 0 (length v) (λ (k : ℕ). apart_from new (element_of v k))

-- 18: so it is where the view is looked into; BIN02 is copied as it is
unfoldable pub collision_checks : Separators → View → List Check
collision_checks new v = apart_checks new (inspected v)

-- a clash is the place of a piece that fails: its segment's number, the byte where the segment starts, and the element. The first segment with
-- such a piece decides, and in it the first such piece; n is the number of the first of these segments
abbrev pub or_later : Verdict → ℕ → ℕ → Option Clash → Option Clash
or_later Holds n byte later = later
or_later (Err fault) n byte later = Some (record { segment = n; byte = byte; element = fault.element })

abbrev pub collision : Separators → Separators → ℕ → List Placed → Option Clash
collision old new n [] = None
collision old new n (g ∷ gs) =
    or_later (first_broken (collision_checks new (view_of old g.segment))) n g.at (collision old new (suc n) gs)

-- what becomes of an accepted reading: 18, then 19 where the output has no room, both with the output as it was; else the reading's own answer,
-- and the new bytes at the start of the output
unfoldable pub Outcome : Option Clash → (room : Bool) → Answer → Bytes → Bytes → Answer → Bytes → Type 0
Outcome (Some clash) room told new output r after =
    (numbers_of r ≡ 18 ∷ clash.segment ∷ clash.byte ∷ clash.element ∷ []) × (after ≡ output)
Outcome None false told new output r after = (numbers_of r ≡ 19 ∷ 0 ∷ 0 ∷ 0 ∷ []) × (after ≡ output)
Outcome None true told new output r after = (r ≡ told) × (after ≡ new ++ drop (length new) output)

-- and so with these segments
abbrev pub OutcomeOf : Separators → Separators → List Placed → Answer → ℕ → Bytes → Answer → Bytes → Type 0
OutcomeOf old new gs told bytes output r after =
    Outcome (collision old new 1 gs) (leb bytes (length output)) told (rewritten old new gs) output r after

-- an accepted reading has the segments of the one numbering that meets every rule
pub record AfterAcceptance (profile : ProfileName) (old new : Separators) (s : Bytes) (told : Answer) (bytes : ℕ) (output : Bytes) (r : Answer) (after : Bytes) : Type 0 where
  pub gs : List Placed
  pub rows : List ℕ
  pub numbering : Numbering (strictly profile old) s gs rows
  pub outcome : OutcomeOf old new gs told bytes output r after

-- what follows the reading's answer; a refusal is returned as it is
abbrev pub AfterReading : ProfileName → Separators → Separators → Bytes → Answer → Bytes → Answer → Bytes → Type 0
AfterReading profile old new s (Ok accepted) output r after = AfterAcceptance profile old new s (Ok accepted) accepted.bytes output r after
AfterReading profile old new s (Err refusal) output r after = (r ≡ Err refusal) × (after ≡ output)

-- with both sets fit: the reading, which leaves the tables, and what follows it
pub record Rewriting (profile : ProfileName) (old new : Separators) (s : Bytes) (before : Tables) (output : Bytes) (r : Answer) (tables : Tables) (after : Bytes) : Type 0 where
  pub answer : Answer
  pub reads : Reads (strictly profile old) s before answer tables
  pub follows : AfterReading profile old new s answer output r after

-- 1 with this element: nothing is written
pub record Unfit (element : ℕ) (before : Tables) (output : Bytes) (r : Answer) (tables : Tables) (after : Bytes) : Type 0 where
  pub answer : numbers_of r ≡ 1 ∷ 0 ∷ 0 ∷ element ∷ []
  pub tables_kept : tables ≡ before
  pub output_kept : after ≡ output

-- both sets are tested first, the old one with element 0, the new one with element 1
abbrev pub RewritesFit : (old_fit new_fit : Bool) → ProfileName → Separators → Separators → Bytes → Tables → Bytes → Answer → Tables → Bytes → Type 0
RewritesFit false new_fit profile old new s before output r tables after = Unfit 0 before output r tables after
RewritesFit true false profile old new s before output r tables after = Unfit 1 before output r tables after
RewritesFit true true profile old new s before output r tables after = Rewriting profile old new s before output r tables after

-- the promise of rewriting
unfoldable pub Rewrites : ProfileName → Separators → Separators → Bytes → Tables → Bytes → Answer → Tables → Bytes → Type 0
Rewrites profile old new s before output r tables after =
    RewritesFit (fit_separators old) (fit_separators new) profile old new s before output r tables after
