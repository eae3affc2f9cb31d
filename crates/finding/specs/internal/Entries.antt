-- Records in a lent table, whose records have `width` numbers each.
-- Assumes nothing.
use Rattle.std.specs.Prelude.{ℕ, ◌+◌, ◌-◌, ◌*◌, ◌/◌, min, cond, List, ◌++◌, length, take, drop, get_or}
use Rattle.text.specs.Bytes.{between}
use Rattle.levels.specs.Widths.{segment_width, level_width}

-- number k of record n; 0 where the table has no such record
abbrev pub entry_of : ℕ → List ℕ → ℕ → ℕ → ℕ
entry_of width table n k = cond (between 1 (length table / width) n) (get_or table ((n - 1) * width + k) 0) 0

-- a table with one record more, which is stored behind the first n
abbrev pub stored_at : ℕ → List ℕ → ℕ → List ℕ → List ℕ
stored_at width table n numbers = take (n * width) table ++ (numbers ++ drop (n * width + width) table)

-- where segment n starts
abbrev pub start_of : List ℕ → ℕ → ℕ
start_of segments n = entry_of segment_width segments n 0

-- number k of the record of level n
abbrev pub level_entry : List ℕ → ℕ → ℕ → ℕ
level_entry levels n k = entry_of level_width levels n k

-- how many levels there are: the count, or as many as the level table has room for
abbrev pub count_in : List ℕ → ℕ → ℕ
count_in levels count = min count (length levels / level_width)

-- no level lies deeper
abbrev pub deepest : ℕ
deepest = 4
