-- What the reader knows between two segments.
-- Assumes nothing.
use Rattle.std.specs.Prelude.{ℕ, ◌≡◌, false, List, [], length, drop}
use Rattle.text.specs.Bytes.{Bytes}
use Rattle.text.specs.Cut.{Placed}
use Rattle.rows.specs.Following.{last_of, twice}
use Rattle.gate.specs.Profile.{profile_of}
use Rattle.gate.specs.Segments.{seen, onto, levels_in}
use Rattle.gate.specs.Records.{Tables, segment_records, level_records, over}
use Rattle.gate.specs.Reads.{Passed}
use Rattle.gate.specs.declared.how.How.{How}
use Rattle.finding.specs.internal.Notes.{plain}
use Rattle.finding.specs.internal.TablesHold.{TablesHold}
use Rattle.reading.specs.declared.judging.State.{State}

-- the reader stands at byte `at`: the segments gs were passed with these rows, the tables hold their records, those of levels with notes, and
-- the state counts them and their levels, and has their last row and whether that stands for the second time in a row
pub record Standing (how : How) (before : Tables) (s : Bytes) (segments levels lasts : List ℕ) (at : ℕ) (state : State)
    (gs : List Placed) (rows : List ℕ) : Type 0 where
  pub passed : Passed (profile_of how) how before s gs rows at (drop at s)
  pub segments_are : segments ≡ over before.segments (segment_records how [] gs rows)
  pub levels_are : plain state.levels levels ≡ over before.levels (level_records (profile_of how) how gs)
  pub count_is : length gs ≡ state.count
  pub rows_are : length rows ≡ length gs
  pub row_is : last_of 0 rows ≡ state.row
  pub again_is : twice 0 false rows ≡ state.again
  pub counted : length (levels_in (profile_of how) (onto [] (seen how gs))) ≡ state.levels
  pub holds : TablesHold s how.separators.element segments levels lasts state.count (levels_in (profile_of how) (onto [] (seen how gs)))
