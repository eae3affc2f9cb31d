-- The worked reports W1 to W12 of document 01, one table under a single statement about the definitions: whatever the promise of reading
-- allows, by either choice of line ends, is the answer that the paper gives, with the records that it lists; and the dates and times are real or
-- not, as it says. With a CR LF behind each segment W1 is accepted by the default and refused strictly.
-- Assumes nothing.
use Prim.Native.Nat.{ℕ}
use mathlib.Core.Path.{refl}
use mathlib.Core.Bool.{not}
use mathlib.Core.List.{List, [], ◌∷◌}
use lib.Dec.{T}
use Rattle.text.specs.Bytes.{bytes}
use Rattle.rows.specs.Tags.{tag_number}
use Rattle.rows.specs.Rows.{list842}
use Rattle.rows.specs.RowList.{row_at, max_of}
use Rattle.rows.specs.declared.profile.ProfileName.TheVariants.{Report}
use Rattle.rows.proofs.NextRows.{next_of, after, edges842}
use Rattle.rows.proofs.RowStep.{step_of}
use Rattle.types.specs.Reals.{is_real}
use Rattle.types.specs.Types.{days_in, is_date, is_time, fits}
use Rattle.text.specs.Bin.{begins_bin, is_bin}
use Rattle.text.specs.View.{view_of, inspected}
use Rattle.text.specs.Cut.{cut_attached, cut_of}
use Rattle.text.specs.declared.lines.LineEnds.{LineEnds}
use Rattle.text.specs.declared.lines.LineEnds.TheVariants.{Skipped, Strict}
use Rattle.elements.specs.Rules.{data_checks, byte_checks, end_checks, ruled_checks}
use Rattle.elements.specs.declared.verdict.Reason.TheVariants.{Unended, BadByte, NoRow, BrokenNote, RepeatedName, UnknownParent, BadCode, BadMark, BadClose, NoRoom}
use Rattle.levels.specs.Profile.{code_of, may_stand_alone, may_be_marked, may_hang}
use Rattle.levels.specs.Rules.{filled}
use Rattle.gate.specs.Segments.{tag_in_of, levels_in}
use Rattle.gate.specs.Answers.{accepted, refused}
use Rattle.gate.specs.Rules.{tag_checks, hl_checks, se_checks}
use Rattle.gate.proofs.reading.Reference.{compute, says}
use Rattle.gate.proofs.conditions.Shown.{Case, Shown, AllShown, AllComputed, all_shown}

abbrev of_choice : {A : Type 0} → LineEnds → A → A → A
of_choice Skipped by_default strictly = by_default
of_choice Strict by_default strictly = strictly

-- the records of the segments of W1, from the second on shared by most cases
abbrev pub heading : List ℕ → List ℕ
heading more = 0 ∷ 11 ∷ 1 ∷ 0 ∷ 12 ∷ 19 ∷ 2 ∷ 0 ∷ 32 ∷ 10 ∷ 18 ∷ 1 ∷ more

abbrev pub second : List ℕ → List ℕ
second more = 43 ∷ 10 ∷ 18 ∷ 2 ∷ more

-- W1 to W10
abbrev pub cases : List Case
cases =
    record {
      report = "ST*842*0001~BNR*11*NR7*20240301~HL*1**RP*1~HL*2*1*I*0~NCD*1~NCA**R1~SE*7*0001~";
      segment_room = 1000;
      level_room = 200;
      answer = accepted 7 2 78;
      segments = heading (second (54 ∷ 5 ∷ 46 ∷ 2 ∷ 60 ∷ 7 ∷ 64 ∷ 2 ∷ 68 ∷ 9 ∷ 79 ∷ 0 ∷ []));
      levels = 3 ∷ 0 ∷ 1 ∷ 1 ∷ 4 ∷ 1 ∷ 2 ∷ 2 ∷ [];
    }
    ∷ record {
      report = "ST*842*0001~BNR*11*NR7*20240301~HL*1**RP*1~HL*2*1*F*0~NCD*1~NCA**R1~SE*7*0001~";
      segment_room = 1000;
      level_room = 200;
      answer = refused BadCode 4 43 2;
      segments = heading [];
      levels = 3 ∷ 0 ∷ 1 ∷ 1 ∷ [];
    }
    ∷ record {
      report = "ST*842*0001~BNR*11*NR7*20240301~HL*1**RP*1~HL*2*9*I*0~NCD*1~NCA**R1~SE*7*0001~";
      segment_room = 1000;
      level_room = 200;
      answer = refused UnknownParent 4 43 2;
      segments = heading [];
      levels = 3 ∷ 0 ∷ 1 ∷ 1 ∷ [];
    }
    ∷ record {
      report = "ST*842*0001~BNR*11*NR7*20240301~HL*1**RP*1~HL*1*1*I*0~NCD*1~NCA**R1~SE*7*0001~";
      segment_room = 1000;
      level_room = 200;
      answer = refused RepeatedName 4 43 1;
      segments = heading [];
      levels = 3 ∷ 0 ∷ 1 ∷ 1 ∷ [];
    }
    ∷ record {
      report = "ST*842*0001~BNR*11*NR7*20240301~HL*1**RP*1~HL*2*1*I*0~NCD*1~NCA**R1~SE*6*0001~";
      segment_room = 1000;
      level_room = 200;
      answer = refused BadClose 7 68 1;
      segments = heading (second (54 ∷ 5 ∷ 46 ∷ 2 ∷ 60 ∷ 7 ∷ 64 ∷ 2 ∷ []));
      levels = 3 ∷ 0 ∷ 1 ∷ 1 ∷ 4 ∷ 1 ∷ 2 ∷ 2 ∷ [];
    }
    ∷ record {
      report = "ST*842*0001~BNR*11*NR7*20240301~HL*1**RP*1~SE*4*0001~";
      segment_room = 1000;
      level_room = 200;
      answer = refused BadMark 4 43 0;
      segments = heading [];
      levels = 3 ∷ 0 ∷ 1 ∷ 1 ∷ [];
    }
    ∷ record { report = ""; segment_room = 1000; level_room = 200; answer = refused Unended 1 0 0; segments = []; levels = [] }
    ∷ record {
      report = "ST*842*0001~BNR*11*NR7*20240301~HL*1**RP*1~HL*2*1*I*0~NCA**R1~SE*7*0001~";
      segment_room = 1000;
      level_room = 200;
      answer = refused NoRow 5 54 0;
      segments = heading (second []);
      levels = 3 ∷ 0 ∷ 1 ∷ 1 ∷ 4 ∷ 1 ∷ 2 ∷ 2 ∷ [];
    }
    ∷ record {
      report = "ST*842*0001~BNR*11*NR7*20240301~HL*1**RP*1~HL*2*1*I*0~NCD*1~NCA**R1**5~SE*7*0001~";
      segment_room = 1000;
      level_room = 200;
      answer = refused BrokenNote 6 60 4;
      segments = heading (second (54 ∷ 5 ∷ 46 ∷ 2 ∷ []));
      levels = 3 ∷ 0 ∷ 1 ∷ 1 ∷ 4 ∷ 1 ∷ 2 ∷ 2 ∷ [];
    }
    ∷ record {
      report = "ST*842*0001~BNR*11*NR7*20240301~HL*1**RP*1~HL*2*1*I*0~NCD*1~NCA**R1~SE*7*0001~";
      segment_room = 6;
      level_room = 200;
      answer = refused NoRoom 7 68 0;
      segments = heading (second (54 ∷ 5 ∷ 46 ∷ 2 ∷ 60 ∷ 7 ∷ 64 ∷ 2 ∷ []));
      levels = 3 ∷ 0 ∷ 1 ∷ 1 ∷ 4 ∷ 1 ∷ 2 ∷ 2 ∷ [];
    }
    ∷ []

-- W1 with a CR LF behind each segment. By the default the starts come behind the line ends, and the last one is not used; strictly each belongs to
-- the segment that it stands before, which is answer 5
abbrev pub with_line_ends : LineEnds → Case
with_line_ends lines = record {
  report = "ST*842*0001~\r\nBNR*11*NR7*20240301~\r\nHL*1**RP*1~\r\nHL*2*1*I*0~\r\nNCD*1~\r\nNCA**R1~\r\nSE*7*0001~\r\n";
  segment_room = 1000;
  level_room = 200;
  answer = of_choice lines (accepted 7 2 90) (refused BadByte 2 12 0);
  segments = 0 ∷ 11 ∷ 1 ∷ 0 ∷ of_choice lines (14 ∷ 19 ∷ 2 ∷ 0 ∷ 36 ∷ 10 ∷ 18 ∷ 1 ∷ 49 ∷ 10 ∷ 18 ∷ 2 ∷ 62 ∷ 5 ∷ 46 ∷ 2 ∷ 70 ∷ 7 ∷ 64 ∷ 2 ∷ 80 ∷ 9 ∷ 79 ∷ 0 ∷ []) [];
  levels = of_choice lines (3 ∷ 0 ∷ 1 ∷ 1 ∷ 4 ∷ 1 ∷ 2 ∷ 2 ∷ []) [];
}

computed : (lines : LineEnds) → AllComputed Report lines (with_line_ends lines ∷ cases)
unfolding compute says step_of tag_in_of tag_number next_of after edges842 list842 max_of row_at begins_bin is_bin view_of inspected cut_attached cut_of byte_checks data_checks end_checks tag_checks ruled_checks hl_checks se_checks levels_in fits is_real is_date is_time days_in code_of may_stand_alone may_be_marked may_hang filled
computed Skipped = refl
computed Strict = refl

-- W1 to W12
pub record Worked : Type 0 where
  pub reports : (lines : LineEnds) → AllShown Report lines cases
  pub line_ends : (lines : LineEnds) → Shown Report lines (with_line_ends lines)
  -- W11: a leap day in a leap year and in another
  pub real_date : T (is_date (bytes "20240229"))
  pub unreal_date : T (not (is_date (bytes "20230229")))
  -- W12: a time of four digits and one of five
  pub fit_time : T (is_time (bytes "2359"))
  pub unfit_time : T (not (is_time (bytes "23595")))

shown : (lines : LineEnds) → AllShown Report lines (with_line_ends lines ∷ cases)
shown lines = all_shown Report lines (with_line_ends lines ∷ cases) (computed lines)

pub worked : Worked
unfolding is_date is_time days_in
worked = record {
  reports = λ lines. (shown lines).1;
  line_ends = λ lines. (shown lines).0;
  real_date = tt;
  unreal_date = tt;
  fit_time = tt;
  unfit_time = tt;
}
