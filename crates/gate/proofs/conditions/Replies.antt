-- Replies, and reports that are not replies, one table for each profile under a single statement about the definitions: whatever the promise of reading
-- allows is this answer, with these records, by either choice of line ends.
-- Assumes nothing.
use Prim.Native.Nat.{ℕ}
use Prim.Native.String.{String}
use mathlib.Core.Path.{refl}
use mathlib.Core.List.{List, [], ◌∷◌}
use Rattle.text.specs.Bin.{begins_bin, is_bin}
use Rattle.text.specs.View.{view_of, inspected}
use Rattle.text.specs.Cut.{cut_attached, cut_of}
use Rattle.text.specs.declared.lines.LineEnds.{LineEnds}
use Rattle.text.specs.declared.lines.LineEnds.TheVariants.{Skipped, Strict}
use Rattle.rows.specs.Tags.{tag_number}
use Rattle.rows.specs.Rows.{list842}
use Rattle.rows.specs.RowList.{row_at, max_of}
use Rattle.rows.specs.declared.profile.ProfileName.TheVariants.{Report, Reply}
use Rattle.rows.proofs.NextRows.{next_of, after, edges842}
use Rattle.rows.proofs.RowStep.{step_of}
use Rattle.types.specs.Reals.{is_real}
use Rattle.types.specs.Types.{days_in, is_date, is_time, fits}
use Rattle.elements.specs.Rules.{data_checks, byte_checks, end_checks, ruled_checks}
use Rattle.elements.specs.declared.verdict.Reason.TheVariants.{NoRow, TooMany, RepeatedName, BadCode, ForeignRow}
use Rattle.levels.specs.Profile.{code_of, may_stand_alone, may_be_marked, may_hang}
use Rattle.levels.specs.Rules.{filled}
use Rattle.gate.specs.Segments.{tag_in_of, levels_in}
use Rattle.gate.specs.Answers.{Answer, accepted, refused}
use Rattle.gate.specs.Rules.{tag_checks, hl_checks, se_checks}
use Rattle.gate.proofs.reading.Reference.{compute, says}
use Rattle.gate.proofs.conditions.Shown.{Case, AllShown, AllComputed, all_shown}

-- with room for all
abbrev roomy : String → Answer → List ℕ → List ℕ → Case
roomy report answer segments levels =
    record { report = report; segment_room = 100; level_room = 100; answer = answer; segments = segments; levels = levels }

-- the records of ST and BNR, and of an HL behind them
abbrev heading : List ℕ → List ℕ
heading more = 0 ∷ 11 ∷ 1 ∷ 0 ∷ 12 ∷ 5 ∷ 2 ∷ 0 ∷ more

abbrev first : List ℕ → List ℕ
first more = heading (18 ∷ 8 ∷ 18 ∷ 1 ∷ more)

abbrev replies : List Case
replies =
    -- three levels, none under another
    roomy "ST*842*0001~BNR*1~HL*1**RP~HL*2**RB~HL*3**I~LM*1~LQ*1~SE*8*0001~" (accepted 8 3 64)
    (first (27 ∷ 8 ∷ 18 ∷ 2 ∷ 36 ∷ 7 ∷ 18 ∷ 3 ∷ 44 ∷ 4 ∷ 30 ∷ 3 ∷ 49 ∷ 4 ∷ 31 ∷ 3 ∷ 54 ∷ 9 ∷ 79 ∷ 0 ∷ []))
    (3 ∷ 0 ∷ 1 ∷ 1 ∷ 4 ∷ 0 ∷ 1 ∷ 6 ∷ 5 ∷ 0 ∷ 1 ∷ 2 ∷ [])
    -- row 3, and row 77, are not in the profile
    ∷ roomy "ST*842*0001~BNR*1~REF*1~" (refused ForeignRow 3 18 0) (heading []) []
    ∷ roomy "ST*842*0001~BNR*1~HL*1**RP~NCD*1~NCA**1~LM*1~" (refused ForeignRow 6 40 0) (first (27 ∷ 5 ∷ 46 ∷ 1 ∷ 33 ∷ 6 ∷ 64 ∷ 1 ∷ []))
    (3 ∷ 0 ∷ 1 ∷ 1 ∷ [])
    -- 7 comes before 24, and 24 before what is wrong with the elements
    ∷ roomy "ST*842*0001~REF*1~" (refused NoRow 2 12 0) (0 ∷ 11 ∷ 1 ∷ 0 ∷ []) []
    ∷ roomy "ST*842*0001~BNR*1~DTM*1~" (refused ForeignRow 3 18 0) (heading []) []
    -- HL02 and HL04 are absent, whatever they say; the least of 2, 4 and 5 is told
    ∷ roomy "ST*842*0001~BNR*1~HL*1**RP~HL*2*1*I~" (refused TooMany 4 27 2) (first []) (3 ∷ 0 ∷ 1 ∷ 1 ∷ [])
    ∷ roomy "ST*842*0001~BNR*1~HL*1**RP*1~" (refused TooMany 3 18 4) (heading []) []
    ∷ roomy "ST*842*0001~BNR*1~HL*1**RP*0~" (refused TooMany 3 18 4) (heading []) []
    ∷ roomy "ST*842*0001~BNR*1~HL*1**RP**X~" (refused TooMany 3 18 5) (heading []) []
    ∷ roomy "ST*842*0001~BNR*1~HL*1**RP*0*X~" (refused TooMany 3 18 4) (heading []) []
    ∷ roomy "ST*842*0001~BNR*1~HL*1*1*RP*0*X~" (refused TooMany 3 18 2) (heading []) []
    -- codes of reports alone are unknown, and HL01 never repeats
    ∷ roomy "ST*842*0001~BNR*1~HL*1**F~" (refused BadCode 3 18 3) (heading []) []
    ∷ roomy "ST*842*0001~BNR*1~HL*1**PC~" (refused BadCode 3 18 3) (heading []) []
    ∷ roomy "ST*842*0001~BNR*1~HL*1**SN~" (refused BadCode 3 18 3) (heading []) []
    ∷ roomy "ST*842*0001~BNR*1~HL*1**RP~HL*1**I~" (refused RepeatedName 4 27 1) (first []) (3 ∷ 0 ∷ 1 ∷ 1 ∷ [])
    ∷ []

-- by the profile of reports RB is unknown
abbrev reports : List Case
reports = roomy "ST*842*0001~BNR*1~HL*1**RB~" (refused BadCode 3 18 3) (heading []) [] ∷ []

computed_replies : (lines : LineEnds) → AllComputed Reply lines replies
unfolding compute says step_of tag_in_of tag_number next_of after edges842 list842 max_of row_at begins_bin is_bin view_of inspected cut_attached cut_of byte_checks data_checks end_checks tag_checks ruled_checks hl_checks se_checks levels_in fits is_real is_date is_time days_in code_of may_stand_alone may_be_marked may_hang filled
computed_replies Skipped = refl
computed_replies Strict = refl

computed_reports : (lines : LineEnds) → AllComputed Report lines reports
unfolding compute says step_of tag_in_of tag_number next_of after edges842 list842 max_of row_at begins_bin is_bin view_of inspected cut_attached cut_of byte_checks data_checks end_checks tag_checks ruled_checks hl_checks se_checks levels_in fits is_real is_date is_time days_in code_of may_stand_alone may_be_marked may_hang filled
computed_reports Skipped = refl
computed_reports Strict = refl

pub replies_shown : (lines : LineEnds) → AllShown Reply lines replies
replies_shown lines = all_shown Reply lines replies (computed_replies lines)

pub reports_shown : (lines : LineEnds) → AllShown Report lines reports
reports_shown lines = all_shown Report lines reports (computed_reports lines)
