-- What a lookup of the next row promises.
-- Assumes nothing.
use Rattle.std.specs.Prelude.{ℕ, ◌+◌, ◌-◌, ◌*◌, ◌≡◌, Bool, false, cond, ◌&&◌, List, eqb, leb, ltb, get_or, Option, Some, None, unwrap_or}
use Rattle.text.specs.Bytes.{between}
use Rattle.rows.specs.Tags.{tag}
use Rattle.rows.specs.Rows.{Viable, list842}
use Rattle.rows.specs.RowList.{max_of}
use Rattle.rows.specs.Following.{OneFits, last_of, twice}
use Rattle.rows.specs.NextTable.{NextTable}

-- the row that an entry means: the entry, from 1 to 127; else none
abbrev pub row_meant : ℕ → Option ℕ
row_meant e = cond (between 1 127 e) (Some e) None

-- the row that a lent table's entry for a row, 1 to 79, and a tag number means
abbrev pub entry_at : List ℕ → ℕ → ℕ → Option ℕ
entry_at table r t = row_meant (get_or table ((r - 1) * 34 + t) 0)

-- an entry for row r is row r once more, of which no third may stand
abbrev pub is_third : (r : ℕ) → Bool → Option ℕ → Bool
is_third r again None = false
is_third r again (Some x) = again && (eqb x r && eqb (max_of r) 2)

-- the answer of a lookup in any lent table: at the start row 1 for ST; else the entry's row, unless it would be a third
unfoldable pub row_after_in : List ℕ → ℕ → Bool → ℕ → Option ℕ
row_after_in table r again t =
    cond (eqb r 0) (cond (eqb t (tag "ST")) (Some 1) None)
    (cond (leb r 79 && ltb t 34)
    (cond (is_third r again (entry_at table r t)) None (entry_at table r t))
    None)

-- what a lookup promises: in the next-row table, the one row with the tag that goes on from any viable rows that end so, none where there is
-- no such row; and its answer for any table and numbers
pub record RowAfter (table : List ℕ) (r : ℕ) (again : Bool) (t : ℕ) (x : Option ℕ) : Type 0 where
  pub meaning : NextTable table → (w : List ℕ) → Viable list842 w → last_of 0 w ≡ r → twice 0 false w ≡ again → OneFits w t (unwrap_or x 0)
  pub answer : x ≡ row_after_in table r again t
