-- The row list read off the bracketed list: its rows are numbered 1 to 79, and there are no others.
-- Assumes nothing.
use mathlib.Core.Path.{◌≡◌, refl, ap, ◌∙◌}
use mathlib.Core.Bool.{false}
use mathlib.Core.List.{List, [], ◌∷◌, ◌++◌}
use Prim.Native.Nat.{ℕ, suc, ◌-◌, ◌<◌, ◌≤◌}
use native.Mathlib.Omega.{arith}
use lib.ListN.{get_or, get_or-eq_default}
use Rattle.text.proofs.Tables.{tab}
use Rattle.text.proofs.Lists.{any_default}
use Rattle.rows.specs.Rows.{Items, end, row, loop, list842}
use Rattle.rows.specs.RowList.{rows_within, no_row, row_at}

-- the numbers of the rows, in the order in which they stand
abbrev row_numbers : Items → List ℕ
row_numbers end = []
row_numbers (row n t maximum mandatory rest) = n ∷ row_numbers rest
row_numbers (loop n t mandatory body rest) = n ∷ (row_numbers body ++ row_numbers rest)

-- they are 1 to 79
pub rows_numbered : row_numbers list842 ≡ tab 79 suc
unfolding tab list842
rows_numbered = refl

-- the list of rows read off the bracketed list, which the constant is compared with, gives each row by its number
pub row_list_agrees : (r : ℕ) → 1 ≤ r → r ≤ 79 → get_or (rows_within 0 list842) (r - 1) (0, 0, false, 0) ≡ row_at r
unfolding row_at list842
row_list_agrees r lo hi =
    let b : suc (r - 1) ≡ r = omega arith in
    any_default (rows_within 0 list842) (r - 1) (0, 0, false, 0) no_row (omega arith)
    ∙ ap (λ (k : ℕ). get_or (no_row ∷ rows_within 0 list842) k no_row) b

-- 0 is no row
pub row_0 : row_at 0 ≡ no_row
unfolding row_at
row_0 = refl

-- nor is any number past 79
pub row_past : (r : ℕ) → 79 < r → row_at r ≡ no_row
unfolding row_at list842
row_past r h = get_or-eq_default (no_row ∷ rows_within 0 list842) no_row h
