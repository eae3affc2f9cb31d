-- The promise of reading: which answer, and what the tables hold afterwards, for every input, every separators and every table.
-- Assumes nothing.
use Rattle.std.specs.Prelude.{ℕ, ◌+◌, ◌≡◌, ◌⊎◌, Bool, true, false, not, List, [], ◌∷◌, ◌++◌, map, T, leb, length, Ok, Err}
use Rattle.text.specs.Bytes.{Bytes}
use Rattle.text.specs.Separators.{fit_separators}
use Rattle.text.specs.View.{View, view_of}
use Rattle.text.specs.Cut.{Cut, Whole, Stop, cut_of, skip_of, Placed, Leads}
use Rattle.rows.specs.Rows.{Viable, list842}
use Rattle.rows.specs.RowList.{tag_of}
use Rattle.rows.specs.RowSets.{Within}
use Rattle.elements.specs.Reasons.{number_of}
use Rattle.elements.specs.declared.verdict.Reason.{Reason}
use Rattle.elements.specs.declared.verdict.Reason.TheVariants.{NoRoom}
use Rattle.gate.specs.Profile.{Profile, profile_of}
use Rattle.gate.specs.Segments.{tag_in_of, is_se, seen, onto, levels_in}
use Rattle.gate.specs.Answers.{Answer, numbers_of}
use Rattle.gate.specs.Rules.{Rule, rules, Sound, FirstBroken, Kept, From}
use Rattle.gate.specs.Records.{Tables, Room, recorded}
use Rattle.gate.specs.declared.how.How.{How}

-- the longest input
abbrev pub limit : ℕ
limit = 1048576

-- the cut of the next segment, and what is skipped before it
abbrev pub cut_by : How → Bytes → Cut
cut_by how s = cut_of how.separators s

abbrev pub skip_by : How → Bytes → ℕ
skip_by how s = skip_of how.lines how.separators s

-- segments that were passed, and their rows: they lead from the start of the bytes to `rest`, which starts at `end`; every rule holds of
-- each after those before it; none is an SE; and there is room for their records
pub record Passed (profile : Profile) (how : How) (t : Tables) (s : Bytes) (gs : List Placed) (rows : List ℕ) (end : ℕ) (rest : Bytes) : Type 0 where
  pub leads : Leads (cut_by how) (skip_by how) 0 s gs end rest
  pub viable : Viable list842 rows
  pub admitted : Within profile.rows rows
  pub tags : map tag_of rows ≡ map tag_in_of (seen how gs)
  pub kept : From (Kept profile) [] (seen how gs)
  pub ongoing : From (λ h v. T (not (is_se v))) [] (seen how gs)
  pub room : Room profile t (onto [] (seen how gs))

-- how a reading goes on from the segments gs that were passed, with their rows, to the rest of the bytes, which starts at `end`
module _ (profile : Profile) (how : How) (t : Tables) (gs : List Placed) (rows : List ℕ) (end : ℕ) (rest : Bytes) where
  -- the segments before the next one, latest first
  abbrev pub earlier : List View
  earlier = onto [] (seen how gs)

  -- the rules of the next segment
  abbrev pub rules_next : Bytes → List Rule
  rules_next segment = rules profile rows earlier (view_of how.separators segment)

  -- 3, and 10 of a BIN: the cut finds no segment
  pub record Stopped (reason : Reason) (element : ℕ) : Type 0 where
    pub upto : Bytes
    pub more : Bytes
    pub stops : cut_by how rest ≡ Stop (number_of reason) element upto more

  -- 4 to 16 and 24: the next segment breaks a rule, and this is the first
  pub record Breaks (reason : Reason) (element : ℕ) : Type 0 where
    pub segment : Bytes
    pub more : Bytes
    pub next : cut_by how rest ≡ Whole segment more
    pub first : FirstBroken (rules_next segment) reason element

  -- the next segment keeps every rule and has this row
  pub record Keeping (segment : Bytes) (row : ℕ) : Type 0 where
    pub more : Bytes
    pub next : cut_by how rest ≡ Whole segment more
    pub sound : Sound profile rows earlier (view_of how.separators segment) row

  -- there is room for the records with the next segment's
  abbrev pub RoomWith : Bytes → Type 0
  RoomWith segment = Room profile t (view_of how.separators segment ∷ earlier)

  -- 17: every rule holds, and a table has no room for a record
  pub record Full (reason : Reason) (element : ℕ) : Type 0 where
    pub segment : Bytes
    pub row : ℕ
    pub keeping : Keeping segment row
    pub no_room : RoomWith segment → ⊥
    pub reason_is : reason ≡ NoRoom
    pub element_is : element ≡ 0

  -- 0: the next segment is an SE, every rule holds, and there is room; its terminator ends the transaction. `kept` are the segments that have
  -- records, and `numbers` their rows. The four numbers of the answer count the segments, the levels and the bytes
  pub record Accepts (four : List ℕ) (kept : List Placed) (numbers : List ℕ) : Type 0 where
    pub segment : Bytes
    pub row : ℕ
    pub keeping : Keeping segment row
    pub last : T (is_se (view_of how.separators segment))
    pub room : RoomWith segment
    pub kept_is : kept ≡ gs ++ (record { at = end; segment = segment } ∷ [])
    pub numbers_is : numbers ≡ rows ++ (row ∷ [])
    pub counts : four ≡ 0 ∷ length kept ∷ length (levels_in profile (onto [] (seen how kept))) ∷ (end + length segment + 1) ∷ []

  -- a refusal: only what was passed has records, and the four numbers are the answer's number, the next segment, where it starts, and the element
  pub record Refuses (four : List ℕ) (kept : List Placed) (numbers : List ℕ) : Type 0 where
    pub reason : Reason
    pub element : ℕ
    pub cause : Stopped reason element ⊎ (Breaks reason element ⊎ Full reason element)
    pub kept_is : kept ≡ gs
    pub numbers_is : numbers ≡ rows
    pub place : four ≡ number_of reason ∷ (length gs + 1) ∷ end ∷ element ∷ []

  abbrev pub Ends : Answer → List Placed → List ℕ → Type 0
  Ends (Ok a) kept numbers = Accepts (numbers_of (Ok a)) kept numbers
  Ends (Err r) kept numbers = Refuses (numbers_of (Err r)) kept numbers

-- a reading of the bytes: what was passed, and how it ends
pub record Run (profile : Profile) (how : How) (t : Tables) (s : Bytes) (r : Answer) (kept : List Placed) (numbers : List ℕ) : Type 0 where
  pub gs : List Placed
  pub rows : List ℕ
  pub end : ℕ
  pub rest : Bytes
  pub passed : Passed profile how t s gs rows end rest
  pub ends : Ends profile how t gs rows end rest r kept numbers

-- the answer and the tables: the records of the segments that were kept, whatever the answer is
pub record Read (profile : Profile) (how : How) (s : Bytes) (before : Tables) (r : Answer) (after : Tables) : Type 0 where
  pub kept : List Placed
  pub numbers : List ℕ
  pub run : Run profile how before s r kept numbers
  pub tables : after ≡ recorded profile how before kept numbers

-- 1 and 2 name no segment and leave the tables as they were
pub record Untouched (number : ℕ) (before : Tables) (r : Answer) (after : Tables) : Type 0 where
  pub answer : numbers_of r ≡ number ∷ 0 ∷ 0 ∷ 0 ∷ []
  pub unchanged : after ≡ before

-- before anything else: 1 where the separators are unfit, 2 where the input is too long
abbrev pub ReadsWithin : (short : Bool) → Profile → How → Bytes → Tables → Answer → Tables → Type 0
ReadsWithin true profile how s before r after = Read profile how s before r after
ReadsWithin false profile how s before r after = Untouched 2 before r after

abbrev pub ReadsFit : (fit : Bool) → Profile → How → Bytes → Tables → Answer → Tables → Type 0
ReadsFit true profile how s before r after = ReadsWithin (leb (length s) limit) profile how s before r after
ReadsFit false profile how s before r after = Untouched 1 before r after

unfoldable pub ReadsBy : Profile → How → Bytes → Tables → Answer → Tables → Type 0
ReadsBy profile how s before r after = ReadsFit (fit_separators how.separators) profile how s before r after

-- the promise of reading
abbrev pub Reads : How → Bytes → Tables → Answer → Tables → Type 0
Reads how s before r after = ReadsBy (profile_of how) how s before r after
