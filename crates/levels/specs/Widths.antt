-- How many numbers a record of each lent table has.
-- Assumes nothing.
use Rattle.std.specs.Prelude.{ℕ}

-- four numbers a segment
abbrev pub segment_width : ℕ
segment_width = 4

-- four numbers a level
abbrev pub level_width : ℕ
level_width = 4
