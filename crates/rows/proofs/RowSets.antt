-- The rows of a reply, stretch by stretch, against those of the profile, by one computed check.
-- Assumes nothing.
use Prim.Native.Nat.{ℕ, ◌<◌}
use mathlib.Core.Path.{◌≡◌, refl, sym, ◌∙◌}
use mathlib.Core.Bool.{Bool, false, ◌||◌}
use Rattle.text.specs.Bytes.{among, between}
use Rattle.text.proofs.Tables.{tab, tab_at}
use Rattle.rows.specs.RowSets.{reply_rows}

-- the stretches
abbrev reply_row : ℕ → Bool
reply_row row =
    between 1 2 row || between 12 12 row || between 17 19 row || between 23 26 row || between 30 31 row || between 46 49 row || between 51 51 row
    || between 56 56 row || between 64 64 row || between 71 71 row || between 79 79 row

checked_reply : tab 256 reply_row ≡ tab 256 (among reply_rows)
unfolding tab
checked_reply = refl

pub reply_row_lem : (row : ℕ) → row < 256 → reply_row row ≡ among reply_rows row
reply_row_lem row h = tab_at 256 reply_row (among reply_rows) checked_reply row h

-- a row of no stretch is in no reply
pub in_no_stretch : (row : ℕ) → row < 256 → reply_row row ≡ false → false ≡ among reply_rows row
in_no_stretch row h e = sym e ∙ reply_row_lem row h
