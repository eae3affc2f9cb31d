-- What becomes of the next segment by its judgement, as the reader's own functions promise it to each other.
-- Assumes nothing.
use Rattle.std.specs.Prelude.{ℕ, ◌+◌, ◌/◌, ◌≤◌, ◌<◌, ◌≡◌, List, [], ◌∷◌, ◌++◌, eqb, length, drop, Ok, Err}
use Rattle.std.specs.declared.ops.ControlFlow.{ControlFlow}
use Rattle.std.specs.declared.ops.ControlFlow.TheVariants.{Continue, Break}
use Rattle.text.specs.Bytes.{Bytes}
use Rattle.text.specs.View.{plain_view, view_of}
use Rattle.text.specs.Cut.{Placed, Whole}
use Rattle.text.specs.Separators.{Fitted}
use Rattle.elements.specs.Checks.{Verdict, Holds, first_broken}
use Rattle.elements.specs.Rules.{data_checks}
use Rattle.gate.specs.Profile.{profile_of}
use Rattle.gate.specs.Segments.{seen, onto}
use Rattle.levels.specs.Widths.{segment_width, level_width}
use Rattle.gate.specs.Records.{Tables}
use Rattle.gate.specs.Reads.{limit, cut_by, Read}
use Rattle.reading.specs.declared.cutting.Uncut.{Uncut}
use Rattle.reading.specs.declared.cutting.Uncut.TheVariants.{Open, Bad, Broken}
use Rattle.reading.specs.internal.Cutting.{cut_out}
use Rattle.reading.specs.internal.Standing.{Standing}
use Rattle.reading.specs.internal.Judgements.{Judged, Judges}
use Rattle.reading.specs.internal.Between.{start_at}
use Rattle.gate.specs.Answers.{Answer, accepted, refused}
use Rattle.gate.specs.declared.how.How.{How}
use Rattle.finding.specs.internal.Notes.{cleared}
use Rattle.reading.specs.declared.judging.Judgement.TheVariants.{Other, Level, Last}
use Rattle.elements.specs.declared.layout.Layout.{Layout}
use Rattle.reading.specs.declared.judging.State.{State}
use Rattle.reading.specs.declared.storing.NewLevel.{NewLevel}
use Rattle.elements.specs.declared.verdict.Reason.{Reason}
use Rattle.elements.specs.declared.verdict.Reason.TheVariants.{Unended, BadByte, Unfit}

-- what becomes of the next segment: the reading ends with an answer, or the reader goes on and carries this
abbrev pub Step : Type 0
Step = ControlFlow Answer State

-- what the reader carries after one segment more
abbrev pub state_after : State → ℕ → ℕ → State
state_after state row levels = record { count = state.count + 1; row = row; again = eqb row state.row; levels = levels }

-- a refusal at the segment
abbrev pub refused_at : Reason → Layout → State → ℕ → Step
refused_at reason layout state element = Break (refused reason (state.count + 1) layout.at element)

-- acceptance with the segment as the last
abbrev pub accepted_at : Layout → State → Step
accepted_at layout state = Break (accepted (state.count + 1) state.levels (layout.end + 1))

-- a refusal behind `count` segments by the first test that does not hold; for a bad byte where all hold
abbrev pub refused_by : Verdict → ℕ → ℕ → Answer
refused_by Holds count at = refused BadByte (count + 1) at 0
refused_by (Err fault) count at = refused fault.reason (count + 1) at fault.element

-- the refusal where no segment was cut at `at`, behind `count` segments
abbrev pub uncut_refused : How → Bytes → ℕ → ℕ → Uncut → Answer
uncut_refused how s at count Open = refused Unended (count + 1) at 0
uncut_refused how s at count (Bad end) = refused_by (first_broken (data_checks (plain_view how.separators (cut_out s at end)))) count at
uncut_refused how s at count (Broken element) = refused Unfit (count + 1) at element

-- the terminator that stands behind a bad byte, where that is why, lies within the bytes
abbrev pub UncutWithin : Bytes → ℕ → Uncut → Type 0
UncutWithin s at Open = Unit {0}
UncutWithin s at (Bad end) = (at ≤ end) × (end ≤ length s)
UncutWithin s at (Broken element) = Unit {0}

-- the numbers are small, and no more records are counted than the tables have room for
pub record InRoom (segments levels : List ℕ) (layout : Layout) (state : State) : Type 0 where
  pub forward : layout.at ≤ layout.end
  pub short : layout.end < 1048576
  pub segments_fit : state.count ≤ length segments / segment_width
  pub levels_fit : state.levels ≤ length levels / level_width

-- the reader stands before the segment g, which was cut, and the judgement is right
pub record Settling (how : How) (before : Tables) (s : Bytes) (segments levels lasts : List ℕ) (layout : Layout) (state : State) (gs : List Placed) (rows : List ℕ)
    (g more : Bytes) (judgement : Judged) : Type 0 where
  pub fit : Fitted how.separators
  pub standing : Standing how before s segments levels lasts layout.at state gs rows
  pub short : length s ≤ limit
  pub cut : cut_by how (drop layout.at s) ≡ Whole g more
  pub whole : drop layout.at s ≡ g ++ how.separators.terminator ∷ more
  pub place : layout.end ≡ layout.at + length g
  pub right : Judges (profile_of how) rows (onto [] (seen how gs)) (view_of how.separators g) judgement

-- the reader stands at byte `at`, behind segments that it passed
pub record Stands (how : How) (before : Tables) (s : Bytes) (segments levels lasts : List ℕ) (at : ℕ) (state : State) : Type 0 where
  pub gs : List Placed
  pub rows : List ℕ
  pub standing : Standing how before s segments levels lasts at state gs rows

-- the answer is right, with as many levels as there were before the segment, or the reader stands where the next one starts
abbrev pub Settles : How → Tables → Bytes → Layout → ℕ → (segments levels lasts : List ℕ) → Step → Type 0
Settles how before s layout n segments levels lasts (Break answer) =
    Read (profile_of how) how s before answer (record { segments = segments; levels = cleared n levels })
Settles how before s layout n segments levels lasts (Continue state) = Stands how before s segments levels lasts (start_at how s (layout.end + 1)) state

-- where the segment is so judged, the step is right, and so is what the tables hold afterwards
abbrev pub SettlesBy : Judged → Layout → State → (segments levels lasts segments' levels' lasts' : List ℕ) → Step → Type 0
SettlesBy judgement layout state segments levels lasts segments' levels' lasts' r =
    (how : How) (before : Tables) (s : Bytes) (gs : List Placed) (rows : List ℕ) (g more : Bytes)
    → Settling how before s segments levels lasts layout state gs rows g more judgement → Settles how before s layout state.levels segments' levels' lasts' r

-- of a segment that makes no level, of one that makes a level, and of the last; without a level the level table and the lists stay
abbrev pub SettlesOther : ℕ → Layout → State → (segments segments' : List ℕ) → Step → Type 0
SettlesOther row layout state segments segments' r = (levels lasts : List ℕ) → SettlesBy (Ok (Other row)) layout state segments levels lasts segments' levels lasts r

abbrev pub SettlesLevel : ℕ → NewLevel → Layout → State → (segments levels lasts segments' levels' lasts' : List ℕ) → Step → Type 0
SettlesLevel row level = SettlesBy (Ok (Level row level))

abbrev pub SettlesLast : ℕ → Layout → State → (segments segments' : List ℕ) → Step → Type 0
SettlesLast row layout state segments segments' r = (levels lasts : List ℕ) → SettlesBy (Ok (Last row)) layout state segments levels lasts segments' levels lasts r
