-- The segments that the records of a segment table name, in the bytes they were read from. Records count from 0.
-- Assumes nothing.
use Rattle.std.specs.Prelude.{ℕ, zero, suc, ◌+◌, ◌*◌, ◌≤◌, ◌<◌, List, [], ◌∷◌, length, take, drop, get_or}
use Rattle.text.specs.Bytes.{Bytes}
use Rattle.text.specs.Cut.{Placed}
use Rattle.text.specs.Lookup.{attached_from}
use Rattle.levels.specs.Widths.{segment_width}
use Rattle.rewriting.specs.declared.table.Part.{Part}

-- where the segment of record k starts, and how long it is
abbrev pub start_in : List ℕ → ℕ → ℕ
start_in table k = get_or table (k * segment_width) 0

abbrev pub length_in : List ℕ → ℕ → ℕ
length_in table k = get_or table (k * segment_width + 1) 0

-- its bytes, and with them the place
abbrev pub segment_in : Bytes → List ℕ → ℕ → Bytes
segment_in s table k = take (length_in table k) (drop (start_in table k) s)

abbrev pub placed_in : Bytes → List ℕ → ℕ → Placed
placed_in s table k = record { at = start_in table k; segment = segment_in s table k }

-- BIN02 of it, if it is a whole BIN; else nothing, at its end
abbrev pub attached_part : ℕ → Bytes → List ℕ → ℕ → Part
attached_part e s table k = record {
  from = start_in table k + attached_from e (segment_in s table k);
  to = start_in table k + length (segment_in s table k);
}

-- the segments of n records from record k on
abbrev pub segments_from : Bytes → List ℕ → ℕ → ℕ → List Placed
segments_from s table k zero = []
segments_from s table k (suc n) = placed_in s table k ∷ segments_from s table (suc k) n

-- the table has record k, and the segment and a byte behind it lie in the bytes
pub record Names (s : Bytes) (table : List ℕ) (k : ℕ) : Type 0 where
  pub there : k * segment_width + segment_width ≤ length table
  pub inside : start_in table k + length_in table k < length s

-- so it is of n records from record k on
abbrev pub NamesFrom : Bytes → List ℕ → ℕ → ℕ → Type 0
NamesFrom s table k zero = Unit {0}
NamesFrom s table k (suc n) = Names s table k × NamesFrom s table (suc k) n
