-- Worked lists of rows.
-- Assumes nothing.
use mathlib.Core.Path.{refl}
use mathlib.Core.Bool.{false}
use mathlib.Core.List.{List, [], ◌∷◌, ◌++◌}
use Prim.Native.Nat.{ℕ}
use native.Mathlib.Omega.{arith}
use Rattle.rows.specs.Tags.{tag, tag_number}
use Rattle.rows.specs.Rows.{Word, list842}
use Rattle.rows.specs.RowList.{row_at, tag_of, max_of}
use Rattle.rows.proofs.NextRows.{after, edges842, next_of}
use Rattle.rows.specs.Following.{Fits}
use Rattle.rows.proofs.Followers.{state, followers}
use Rattle.rows.proofs.Local.{runs_viable, runs_word}
use Rattle.rows.proofs.Viability.{test_runs}
use Rattle.rows.proofs.FittingRow.{fits_once, fits_next}

-- ST BNR HL HL NCD NCA SE is a whole word
whole : Word list842 (1 ∷ 2 ∷ 18 ∷ 18 ∷ 46 ∷ 64 ∷ 79 ∷ [])
unfolding followers state max_of row_at after edges842 list842 tag_number
whole = runs_word _ (test_runs (1 ∷ 2 ∷ 18 ∷ 18 ∷ 46 ∷ 64 ∷ 79 ∷ []) 0 false tt) refl

-- ST BNR PWK
abbrev pwk : List ℕ
pwk = 1 ∷ 2 ∷ 9 ∷ []

-- a REF behind a PWK of the heading has row 10, not row 3, which was passed
pub ref_after_pwk : Fits pwk (tag "REF") 10
unfolding followers state tag_of max_of row_at after edges842 list842 tag_number
ref_after_pwk = record { viable = runs_viable (pwk ++ (10 ∷ [])) (test_runs (pwk ++ (10 ∷ [])) 0 false tt); tagged = refl }

-- and not row 3
pub ref_not_row_3 : Fits pwk (tag "REF") 3 → ⊥
ref_not_row_3 f = let e = fits_once pwk (tag "REF") 3 10 f ref_after_pwk in omega arith

-- ST BNR N1 N2 N2
abbrev two_n2 : List ℕ
two_n2 = 1 ∷ 2 ∷ 12 ∷ 13 ∷ 13 ∷ []

-- a third N2 fits nowhere, although N2 may follow N2
pub no_third_n2 : (x : ℕ) → Fits two_n2 (tag "N2") x → ⊥
unfolding next_of max_of row_at after edges842 list842 tag_number
no_third_n2 x f = let n = fits_next two_n2 (tag "N2") x f in n.1 tt refl n.0
