-- What rewriting knows of the segments of an accepted reading.
-- Assumes nothing.
use Rattle.std.specs.Prelude.{ℕ, ◌≡◌, false, List}
use Rattle.text.specs.Bytes.{Bytes}
use Rattle.text.specs.Separators.{Fitted}
use Rattle.text.specs.Bin.{is_bin}
use Rattle.text.specs.View.{plain_view, inspected}
use Rattle.text.specs.Cut.{cut_of, skip_of, Placed, Leads}
use Rattle.text.specs.declared.lines.LineEnds.TheVariants.{Strict}
use Rattle.text.specs.declared.separators.Separators.{Separators}

-- the segments gs lead so from the bytes s, cut strictly
abbrev pub LedStrictly : Separators → ℕ → Bytes → List Placed → ℕ → Bytes → Type 0
LedStrictly q at s gs end rest = Leads (cut_of q) (skip_of Strict q) at s gs end rest

-- they were cut off the bytes one behind the other, by separators that are fit
pub record CutOff (old : Separators) (s : Bytes) (gs : List Placed) : Type 0 where
  pub fit : Fitted old
  pub end : ℕ
  pub rest : Bytes
  pub leads : LedStrictly old 0 s gs end rest

-- so each of them, where it is no whole BIN, is looked into whole
abbrev pub AsCut : Separators → Bytes → Type 0
AsCut old segment = is_bin old.element segment ≡ false → inspected (plain_view old segment) ≡ plain_view old segment
