-- The row list as 79 records, one a row, read off the bracketed list.
-- Assumes nothing.
use Rattle.std.specs.Prelude.{ℕ, false, List, [], ◌∷◌, ◌++◌, get_or}
use Rattle.rows.specs.Rows.{Items, end, row, loop, list842}
use Rattle.rows.specs.declared.list.Row.{Row}

-- The 79 rows: tag, maximum, whether mandatory, enclosing loop. A loop is named by the row that opens it, 0 for none;
-- that row has the loop's mark, stands once in each pass, and is enclosed by the loop around its own
abbrev pub rows_within : ℕ → Items → List Row
rows_within around end = []
rows_within around (row n t maximum mandatory rest) =
    (t, maximum, mandatory, around) ∷ rows_within around rest
rows_within around (loop n t mandatory body rest) =
    (t, 1, mandatory, around) ∷ (rows_within n body ++ rows_within around rest)

-- what stands for a row where there is none: no tag has its tag number
abbrev pub no_row : Row
no_row = (34, 0, false, 0)

-- the row of that number, 1 to 79
unfoldable pub row_at : ℕ → Row
row_at number = get_or (no_row ∷ rows_within 0 list842) number no_row

-- the number of a row's tag
unfoldable pub tag_of : ℕ → ℕ
tag_of number = (row_at number).0

-- a row's maximum, 0 where it repeats freely
unfoldable pub max_of : ℕ → ℕ
max_of number = (row_at number).1
