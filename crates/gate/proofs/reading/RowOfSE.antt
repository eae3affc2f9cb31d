-- SE is row 79, and no other row is.
-- Assumes nothing.
use Prim.Native.Nat.{ℕ, ◌<◌}
use mathlib.Core.Path.{◌≡◌, refl, sym, ap, ◌∙◌}
use mathlib.Core.Logic.{by_cases}
use native.Mathlib.Omega.{arith}
use native.Mathlib.Decide.{dec_lt}
use lib.Dec.{eqb}
use borrow.Author.Tests.{eqb-true, eq-eqb}
use Rattle.text.proofs.Tables.{tab, tab_at}
use Rattle.rows.specs.Tags.{tag, tag_number}
use Rattle.rows.specs.Rows.{list842}
use Rattle.rows.specs.RowList.{row_at, tag_of}
use Rattle.rows.specs.declared.list.Row.{Row}
use Rattle.rows.proofs.ListedRows.{row_past}

-- of the rows 0 to 79 only row 79 has SE's tag
checked_se : tab 80 (λ r. eqb (tag_of r) (tag "SE")) ≡ tab 80 (λ r. eqb r 79)
unfolding tab tag_of row_at list842 tag_number
checked_se = refl

-- no row past them has
tag_past : (r : ℕ) → 79 < r → tag_of r ≡ tag "SE" → ⊥
unfolding tag_of tag_number
tag_past r h e = omega (arith, ap (λ (x : Row). x.0) (row_past r h), e)

-- SE is row 79
pub row_se : (r : ℕ) → tag_of r ≡ tag "SE" → r ≡ 79
row_se r e =
    by_cases (dec_lt r 80)
    (λ h. eqb-true r 79 (sym (tab_at 80 (λ r. eqb (tag_of r) (tag "SE")) (λ r. eqb r 79) checked_se r h) ∙ eq-eqb (tag_of r) (tag "SE") e))
    (λ n. absurd (tag_past r (omega arith) e))

-- and row 79 is SE's
pub tag_79 : tag_of 79 ≡ tag "SE"
unfolding tag_of row_at list842 tag_number
tag_79 = refl
