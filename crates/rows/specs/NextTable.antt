-- The next-row table of document 01, "The 79 rows": 79 by 34 entries, each "the one row that may follow, or none".
-- Assumes nothing.
use Rattle.std.specs.Prelude.{ℕ, ◌+◌, ◌-◌, ◌*◌, ◌≤◌, ◌<◌, ◌≡◌, cond, List, eqb, length, get_or}
use Rattle.rows.specs.Following.{OneFollows}

-- how a next row is entered for tag number t: the row itself; for 0, which is none, 128 and the tag's number
abbrev pub entry_for : ℕ → ℕ → ℕ
entry_for t x = cond (eqb x 0) (128 + t) x

-- the entry e for row r and tag number t: the one row that may follow, or none
pub record Entry (r t e : ℕ) : Type 0 where
  pub next : ℕ
  pub one : OneFollows r t next
  pub entered : e ≡ entry_for t next

-- the table: for each row, 1 to 79, a line of 34 entries, one a tag
pub record NextTable (table : List ℕ) : Type 0 where
  pub size : length table ≡ 2686
  pub entries : (r t : ℕ) → 1 ≤ r → r ≤ 79 → t < 34 → Entry r t (get_or table ((r - 1) * 34 + t) 0)
