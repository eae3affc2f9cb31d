-- The three conditions of acceptance as statements, clause by clause in the tender's order, about the promise of reading and the rules of a whole
-- transaction. Each is proved as one theorem. What condition 2 says of rewriting stands with rewriting.
-- Assumes nothing.
use Rattle.std.specs.Prelude.{ℕ, suc, ◌+◌, ◌*◌, ◌≤◌, ◌≡◌, ◌↔◌, not, List, [], ◌∷◌, ◌++◌, T, length, take, drop, get_or}
use Rattle.text.specs.Bytes.{Bytes}
use Rattle.text.specs.Separators.{fit_separators}
use Rattle.text.specs.View.{View}
use Rattle.text.specs.Cut.{Cut, Whole, Stop, Placed, Leads}
use Rattle.elements.specs.Reasons.{number_of}
use Rattle.elements.specs.declared.verdict.Reason.{Reason}
use Rattle.levels.specs.Widths.{segment_width}
use Rattle.levels.specs.Levels.{level_at}
use Rattle.gate.specs.Profile.{Profile, profile_of}
use Rattle.gate.specs.Segments.{is_hl, is_se, seen, onto, levels_in}
use Rattle.gate.specs.Answers.{Answer, accepted, refused, IsAccepted, Fault, Listed}
use Rattle.gate.specs.Meets.{hls, hl_at, Under, Meets}
use Rattle.gate.specs.Records.{Tables, Room, recorded}
use Rattle.gate.specs.Reads.{limit, cut_by, skip_by, Reads}
use Rattle.gate.specs.declared.how.How.{How}

-- Condition 1
-- every input, every choice of separators and every table size
pub record Condition1 : Type 0 where
  -- gets an answer
  pub answered : (how : How) (s : Bytes) (before : Tables) → (r : Answer) × (after : Tables) × Reads how s before r after
  -- from the list,
  pub listed : (how : How) (s : Bytes) (before : Tables) (r : Answer) (after : Tables) → Reads how s before r after → Listed how.profile r
  -- and its numbers, and what it leaves in the lent tables, are exactly those
  pub once : (how : How) (s : Bytes) (before : Tables) (r r' : Answer) (after after' : Tables) → Reads how s before r after
      → Reads how s before r' after' → (r ≡ r') × (after ≡ after')

-- Condition 2
-- segments that begin the bytes, and rows that number them so that every rule holds
pub record Numbering (how : How) (s : Bytes) (gs : List Placed) (rows : List ℕ) : Type 0 where
  pub end : ℕ
  pub rest : Bytes
  pub leads : Leads (cut_by how) (skip_by how) 0 s gs end rest
  pub meets : Meets (profile_of how) (seen how gs) rows

-- there is room for the records of these segments
abbrev pub HasRoom : How → Tables → List Placed → Type 0
HasRoom how t gs = Room (profile_of how) t (onto [] (seen how gs))

-- the segments can be numbered so, and there is room
pub record Numbered (how : How) (s : Bytes) (before : Tables) : Type 0 where
  pub gs : List Placed
  pub rows : List ℕ
  pub numbering : Numbering how s gs rows
  pub room : HasRoom how before gs

-- the bytes that segments take: up to the terminator of the last
abbrev pub used_by : List Placed → ℕ
used_by [] = 0
used_by (g ∷ []) = g.at + length g.segment + 1
used_by (g ∷ (h ∷ gs)) = used_by (h ∷ gs)

-- the answer accepts these segments, and the tables show their rows and levels
pub record Shows (how : How) (before : Tables) (gs : List Placed) (rows : List ℕ) (r : Answer) (after : Tables) : Type 0 where
  pub answer : r ≡ accepted (length gs) (length (levels_in (profile_of how) (onto [] (seen how gs)))) (used_by gs)
  pub tables : after ≡ recorded (profile_of how) how before gs rows

-- with fit separators and a length within the limit,
pub record Condition2 : Type 0 where
  -- a transaction is accepted exactly when its segments can be numbered so that every rule holds, and there is room;
  pub exactly_when : (how : How) (s : Bytes) (before : Tables) (r : Answer) (after : Tables) → T (fit_separators how.separators) → length s ≤ limit
      → Reads how s before r after → IsAccepted r ↔ Numbered how s before
  -- the tables then show that numbering,
  pub shown : (how : How) (s : Bytes) (before : Tables) (r : Answer) (after : Tables) → Reads how s before r after → IsAccepted r
      → (gs : List Placed) (rows : List ℕ) → Numbering how s gs rows → Shows how before gs rows r after
  -- of which there is no other
  pub one_numbering : (how : How) (s : Bytes) (gs gs' : List Placed) (rows rows' : List ℕ) → Numbering how s gs rows → Numbering how s gs' rows'
      → (gs ≡ gs') × (rows ≡ rows')

-- Beside it: what the level table says of a transaction that meets every rule. The level with number j + 1 is that of HL number j
pub record LevelShown (profile : Profile) (vs : List View) (j : ℕ) : Type 0 where
  -- no level lies deeper than 4
  pub shallow : (level_at (suc j) (levels_in profile (onto [] vs))).depth ≤ 4
  -- without HL02 the parent's number is 0,
  pub root : (hl_at (hls vs) j).parent ≡ [] → (level_at (suc j) (levels_in profile (onto [] vs))).parent ≡ 0
  -- and with HL02 it is the number of the earlier level that HL02 names, under which it may hang
  pub child : ((hl_at (hls vs) j).parent ≡ [] → ⊥)
      → (i : ℕ) × Under profile.levels (hls vs) i j × ((level_at (suc j) (levels_in profile (onto [] vs))).parent ≡ suc i)

-- And what the segment table says of levels, whatever the answer is, where vs are the segments that have records: the fourth number of the record of
-- segment k + 1
abbrev pub level_number : Tables → ℕ → ℕ
level_number t k = get_or t.segments (k * segment_width + 3) 0

pub record SegmentShown (profile : Profile) (vs : List View) (after : Tables) (k : ℕ) : Type 0 where
  -- is the number of HLs up to that segment, itself counted,
  pub counts : T (not (is_se (get_or vs k []))) → level_number after k ≡ length (hls (take (suc k) vs))
  -- and of the SE 0
  pub closing : T (is_se (get_or vs k [])) → level_number after k ≡ 0
  -- The level that an HL belongs to is the one that it makes: that level's record names this segment
  pub own : T (is_hl (get_or vs k [])) → (level_at (level_number after k) (levels_in profile (onto [] vs))).segment ≡ suc k

-- Condition 3
-- tables that are at least as large
pub record Larger (t u : Tables) : Type 0 where
  pub segments : length t.segments ≤ length u.segments
  pub levels : length t.levels ≤ length u.levels

-- what a cut has looked at: a segment with its terminator, or the bytes with which it stopped
abbrev pub looked_at : How → Cut → Bytes
looked_at how (Whole segment more) = segment ++ how.separators.terminator ∷ []
looked_at how (Stop number element upto more) = upto

-- the bytes up to the end of the segment that starts at byte b
abbrev pub up_to_segment : How → Bytes → ℕ → Bytes
up_to_segment how s b = take b s ++ looked_at how (cut_by how (drop b s))

-- the bytes s begin with `front`
abbrev pub BeginsWith : Bytes → Bytes → Type 0
BeginsWith front s = (more : Bytes) × (s ≡ front ++ more)

-- an answer is final where bytes that begin with `front` get it, whatever follows within the limit, also with larger tables
abbrev pub Final : How → Tables → Bytes → Answer → Type 0
Final how t front r = (more : Bytes) → length (front ++ more) ≤ limit → (u : Tables) → Larger t u
    → (r' : Answer) (after : Tables) → Reads how (front ++ more) u r' after → r' ≡ r

-- the segments before k are the start of some transaction that meets every rule; its length and the room for it do not count
pub record Continues (how : How) (s : Bytes) (k b : ℕ) : Type 0 where
  -- the segments before k
  pub passed : List Placed
  pub number : length passed + 1 ≡ k
  pub leads : Leads (cut_by how) (skip_by how) 0 s passed b (drop b s)
  -- the bytes that go on from there, and the transaction
  pub more : Bytes
  pub added : List Placed
  pub rows : List ℕ
  pub end : ℕ
  pub whole : Leads (cut_by how) (skip_by how) 0 (take b s ++ more) (passed ++ added) end []
  pub meets : Meets (profile_of how) (seen how (passed ++ added)) rows

-- a verdict is final and comes no sooner than it must
pub record Condition3 : Type 0 where
  -- when segment k is refused for a fault, the same refusal stands whatever bytes follow that segment within the length limit and with any larger
  -- tables,
  pub refusal_final : (how : How) (s : Bytes) (before : Tables) (reason : Reason) (k byte element : ℕ) (after : Tables) → Fault (number_of reason)
      → Reads how s before (refused reason k byte element) after → Final how before (up_to_segment how s byte) (refused reason k byte element)
  -- the input being one of those that begin so;
  pub refusal_begins : (how : How) (s : Bytes) (before : Tables) (reason : Reason) (k byte element : ℕ) (after : Tables) → Fault (number_of reason)
      → Reads how s before (refused reason k byte element) after → BeginsWith (up_to_segment how s byte) s
  -- and the segments before k can be continued to a transaction that meets every rule, with length and room set aside;
  pub refusal_not_early : (how : How) (s : Bytes) (before : Tables) (reason : Reason) (k byte element : ℕ) (after : Tables) → Fault (number_of reason)
      → Reads how s before (refused reason k byte element) after → Continues how s k byte
  -- an acceptance likewise stands under more bytes, within the length limit, and more room
  pub acceptance_final : (how : How) (s : Bytes) (before : Tables) (segments levels bytes : ℕ) (after : Tables)
      → Reads how s before (accepted segments levels bytes) after → Final how before (take bytes s) (accepted segments levels bytes)
