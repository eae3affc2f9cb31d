-- The rows that each profile admits, and the words of such rows alone.
-- Assumes nothing.
use Rattle.std.specs.Prelude.{ℕ, Bool, true, List, [], ◌∷◌, ◌++◌, T}
use Rattle.text.specs.Bytes.{every, among}
use Rattle.rows.specs.Rows.{Word, list842}
use Rattle.rows.specs.declared.profile.ProfileName.{ProfileName}
use Rattle.rows.specs.declared.profile.ProfileName.TheVariants.{Report, Reply}

-- a set of rows, told row by row
abbrev pub RowSet : Type 0
RowSet = ℕ → Bool

-- a storage-quality reply may have these
abbrev pub reply_rows : List ℕ
reply_rows =
    1 ∷ 2 ∷ 12 ∷ 17 ∷ 18 ∷ 19 ∷ 23 ∷ 24 ∷ 25 ∷ 26 ∷ 30 ∷ 31 ∷ 46 ∷ 47 ∷ 48 ∷ 49 ∷ 51 ∷ 56 ∷ 64 ∷ 71 ∷ 79 ∷ []

-- the rows that the profile of that name admits: of a report any
abbrev pub rows_of : ProfileName → RowSet
rows_of Report row = true
rows_of Reply row = among reply_rows row

-- all rows of the list are of the set
abbrev pub Within : RowSet → List ℕ → Type 0
Within set w = T (every set w)

-- a word of the bracketed list with rows of the set alone
pub record WordOver (set : RowSet) (w : List ℕ) : Type 0 where
  pub word : Word list842 w
  pub admitted : Within set w

-- some continuation makes the rows such a word
abbrev pub ViableOver : RowSet → List ℕ → Type 0
ViableOver set w = (more : List ℕ) × WordOver set (w ++ more)
