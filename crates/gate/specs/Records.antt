-- What the two lent tables hold.
-- Assumes nothing.
use Rattle.std.specs.Prelude.{ℕ, ◌/◌, ◌≤◌, List, [], ◌∷◌, ◌++◌, length, drop}
use Rattle.text.specs.View.{View, view_of}
use Rattle.text.specs.Cut.{Placed}
use Rattle.levels.specs.Levels.{records_of}
use Rattle.gate.specs.Profile.{Profile}
use Rattle.gate.specs.Segments.{seen, onto, levels_in, belongs_to}
use Rattle.gate.specs.declared.how.How.{How}
use Rattle.levels.specs.Widths.{segment_width, level_width}

-- the two tables
pub record Tables : Type 0 where
  pub segments : List ℕ
  pub levels : List ℕ

-- where a segment starts, how long it is up to its terminator, its row, and the level it belongs to; after the segments before it
abbrev pub segment_record : List View → View → Placed → ℕ → List ℕ
segment_record h v g row = g.at ∷ length g.segment ∷ row ∷ belongs_to h v ∷ []

-- the records of segments and their rows, after the segments h
abbrev pub segment_records : How → List View → List Placed → List ℕ → List ℕ
segment_records how h [] rows = []
segment_records how h (g ∷ gs) [] = []
segment_records how h (g ∷ gs) (r ∷ rows) =
    segment_record h (view_of how.separators g.segment) g r ++ segment_records how (view_of how.separators g.segment ∷ h) gs rows

-- the records of their levels
abbrev pub level_records : Profile → How → List Placed → List ℕ
level_records profile how gs = records_of (levels_in profile (onto [] (seen how gs)))

-- how many whole records a table holds
abbrev pub segment_room_of : Tables → ℕ
segment_room_of t = length t.segments / segment_width

abbrev pub level_room_of : Tables → ℕ
level_room_of t = length t.levels / level_width

-- there is room for the records of these segments, latest first
pub record Room (profile : Profile) (t : Tables) (h : List View) : Type 0 where
  pub segments_fit : length h ≤ segment_room_of t
  pub levels_fit : length (levels_in profile h) ≤ level_room_of t

-- records at the front of a table; what lies behind them is as it was
abbrev pub over : List ℕ → List ℕ → List ℕ
over table records = records ++ drop (length records) table

-- the tables after the records of these segments
abbrev pub recorded : Profile → How → Tables → List Placed → List ℕ → Tables
recorded profile how t gs rows = record {
  segments = over t.segments (segment_records how [] gs rows);
  levels = over t.levels (level_records profile how gs);
}
