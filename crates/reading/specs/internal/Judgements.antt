-- What the reader's judging functions promise each other: the next segment by its layout, and what a judgement says of it.
-- Assumes nothing.
use Rattle.std.specs.Prelude.{ℕ, suc, ◌≤◌, ◌<◌, ◌≡◌, true, false, not, cond, List, [], ◌∷◌, T, eqb, ltb, length, take, get_or, Result, Ok, Err}
use Rattle.text.specs.Bytes.{Bytes, same}
use Rattle.text.specs.View.{View, view_of, elements_of}
use Rattle.text.specs.Cut.{Placed}
use Rattle.text.specs.Separators.{Fitted}
use Rattle.text.specs.internal.Search.{Free}
use Rattle.rows.specs.Tags.{tag, tag_number}
use Rattle.types.specs.Types.{number_of}
use Rattle.elements.specs.Checks.{Check, check, Verdict, Holds, first_broken}
use Rattle.elements.specs.declared.verdict.Fault.{Fault}
use Rattle.elements.specs.internal.Layouts.{element_in}
use Rattle.levels.specs.Widths.{segment_width}
use Rattle.levels.specs.Profile.{LevelProfile}
use Rattle.levels.specs.Levels.{Claim, claim_of, Level as HlLevel, level_of, record_of}
use Rattle.levels.specs.internal.Answers.{judged}
use Rattle.levels.specs.declared.judging.Entitled.{Entitled}
use Rattle.gate.specs.Profile.{Profile, profile_of}
use Rattle.gate.specs.Segments.{is_hl, is_se, seen, onto, levels_in}
use Rattle.gate.specs.Rules.{rules, FirstBroken, Sound}
use Rattle.gate.specs.Records.{Tables}
use Rattle.reading.specs.internal.Cutting.{CutAs}
use Rattle.reading.specs.internal.Standing.{Standing}
use Rattle.gate.specs.declared.how.How.{How}
use Rattle.finding.specs.internal.Entries.{count_in}
use Rattle.finding.specs.internal.Lists.{place_of}
use Rattle.finding.specs.declared.notes.Asks.{Asks}
use Rattle.finding.specs.internal.Notes.{asks_of}
use Rattle.finding.specs.internal.Answers.{none_owes}
use Rattle.finding.specs.internal.TablesHold.{TablesHold}
use Rattle.reading.specs.declared.judging.Judgement.{Judgement}
use Rattle.reading.specs.declared.judging.Judgement.TheVariants.{Other, Level, Last}
use Rattle.elements.specs.declared.layout.Layout.{Layout}
use Rattle.reading.specs.declared.judging.State.{State}
use Rattle.elements.specs.declared.verdict.Reason.TheVariants.{BadEnd, BadMark, BadClose}

-- what an HL claims, by the layout
abbrev pub claim_in : Bytes → List ℕ → Layout → Claim
claim_in s starts layout = record {
  id = element_in s starts layout 1;
  parent = element_in s starts layout 2;
  code = element_in s starts layout 3;
  mark = element_in s starts layout 4;
}

-- the second element of the segment that starts the bytes, by its length in the segment table
unfoldable pub opening_control : Bytes → ℕ → List ℕ → Bytes
opening_control s separator segments =
    cond (ltb (length segments) segment_width) []
    (cond (ltb (length s) (get_or segments 1 0)) [] (get_or (elements_of separator (take (get_or segments 1 0) s)) 2 []))

-- the tests of an SE, by the layout, the tables and what the reader carries
abbrev pub closing_in : Bytes → ℕ → List ℕ → Layout → (segments levels : List ℕ) → State → List Check
closing_in s separator starts layout segments levels state =
    check BadClose 1 (eqb (number_of (element_in s starts layout 1)) (suc state.count))
    ∷ check BadClose 2 (same (element_in s starts layout 2) (opening_control s separator segments))
    ∷ check BadMark 0 (none_owes levels (count_in levels state.levels))
    ∷ []

-- the segment that the layout names lies within the bytes
pub record Inside (s : Bytes) (layout : Layout) : Type 0 where
  pub forward : layout.at ≤ layout.end
  pub within : layout.end ≤ length s

-- a judgement, or the first rule that is broken
abbrev pub Judged : Type 0
Judged = Result Judgement Fault

-- the fault of a verdict; that of a bad end where it holds
abbrev pub broken_by : Verdict → Fault
broken_by Holds = record { reason = BadEnd; element = 0 }
broken_by (Err fault) = fault

-- the judgement on an HL with that row, whose mark asks that, and whose HL01 belongs to that list
abbrev pub by_level_of : ℕ → Asks → ℕ → Result Entitled Fault → Judged
by_level_of row asks place (Ok e) = Ok (Level row (record { parent = e.parent; depth = e.depth; code = e.code; asks = asks; place = place }))
by_level_of row asks place (Err fault) = Err fault

-- and on an SE
abbrev pub by_closing : ℕ → Verdict → Judged
by_closing row Holds = Ok (Last row)
by_closing row (Err fault) = Err fault

-- no separator stands in the HL01 and HL02 that the layout names
abbrev pub NamesFree : Bytes → ℕ → List ℕ → Layout → Type 0
NamesFree s separator starts layout = Free separator (element_in s starts layout 1) × Free separator (element_in s starts layout 2)

-- what the rules of levels say of an HL behind the levels that the tables hold, where its HL01 belongs to that list
abbrev pub JudgesLevel : LevelProfile → Bytes → ℕ → List ℕ → Layout → ℕ → (segments levels lasts : List ℕ) → Result Entitled Fault → Type 0
JudgesLevel profile s separator starts layout place segments levels lasts r =
    (m : ℕ) (ls : List HlLevel) → TablesHold s separator segments levels lasts m ls → NamesFree s separator starts layout → place ≡ place_of (element_in s starts layout 1)
    → r ≡ judged profile ls (claim_in s starts layout)

-- what the late rules say of a segment of that tag and row behind the levels ls
abbrev pub late_judgement : How → Bytes → List ℕ → Layout → State → (segments levels : List ℕ) → List HlLevel → ℕ → ℕ → Judged
late_judgement how s starts layout state segments levels ls t row =
    cond (eqb t (tag "HL"))
    (by_level_of row (asks_of (element_in s starts layout 4)) (place_of (element_in s starts layout 1)) (judged (profile_of how).levels ls (claim_in s starts layout)))
    (cond (eqb t (tag "SE"))
    (by_closing row (first_broken (closing_in s how.separators.element starts layout segments levels state)))
    (Ok (Other row)))

abbrev pub JudgesLate : How → Bytes → List ℕ → Layout → State → (segments levels lasts : List ℕ) → ℕ → ℕ → Judged → Type 0
JudgesLate how s starts layout state segments levels lasts t row r =
    (m : ℕ) (ls : List HlLevel) → TablesHold s how.separators.element segments levels lasts m ls
    → (t ≡ tag "HL" → NamesFree s how.separators.element starts layout) → r ≡ late_judgement how s starts layout state segments levels ls t row

-- what a judgement says of the segment with the view v, after the segments h and their rows
module _ (profile : Profile) (rows : List ℕ) (h : List View) (v : View) where
  -- the level that it makes, where it is an HL
  abbrev pub new_level : HlLevel
  new_level = level_of profile.levels (suc (length h)) (claim_of v) (levels_in profile h)

  abbrev pub Judges : Judged → Type 0
  Judges (Err fault) = FirstBroken (rules profile rows h v) fault.reason fault.element
  Judges (Ok (Other r)) = Sound profile rows h v r × (is_hl v ≡ false) × T (not (is_se v))
  Judges (Ok (Level r level)) =
      Sound profile rows h v r × (is_hl v ≡ true) × T (not (is_se v))
      × (suc (length h) ∷ level.parent ∷ level.depth ∷ level.code ∷ [] ≡ record_of new_level)
      × (level.asks ≡ asks_of new_level.mark) × (level.place ≡ place_of new_level.id)
  Judges (Ok (Last r)) = Sound profile rows h v r × (is_hl v ≡ false) × T (is_se v)

-- where the layout is right and the reader stands before the segment, the judgement says what the rules say
abbrev pub JudgesNext : How → Bytes → List ℕ → Layout → State → (segments levels lasts : List ℕ) → Judged → Type 0
JudgesNext how s starts layout state segments levels lasts r =
    (before : Tables) (gs : List Placed) (rows : List ℕ) (g more : Bytes) → Fitted how.separators → CutAs how.separators s starts layout g more
    → Standing how before s segments levels lasts layout.at state gs rows
    → Judges (profile_of how) rows (onto [] (seen how gs)) (view_of how.separators g) r

-- the layout names a segment of this known tag, and rule 6 holds of it
pub record KnownTag (s : Bytes) (starts : List ℕ) (layout : Layout) (t : ℕ) : Type 0 where
  pub tagged : t ≡ tag_number (element_in s starts layout 0)
  pub listed : t < 34
  pub ended : T layout.ended
