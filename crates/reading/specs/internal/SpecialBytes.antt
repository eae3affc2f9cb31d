-- The special bytes, whose places are kept in the queue, and a table of which bytes they are.
-- Assumes nothing.
use Rattle.std.specs.Prelude.{ℕ, ◌≡◌, Bool, true, not, cond, ◌||◌, List, eqb, length, get_or}
use Rattle.text.specs.Bytes.{between}
use Rattle.text.specs.Separators.{printable}
use Rattle.text.specs.declared.separators.Separators.{Separators}

-- a special byte: a separator, or no data
unfoldable pub special : Separators → ℕ → Bool
special q b = eqb b q.terminator || (eqb b q.component || (eqb b q.element || not (printable b)))

-- whether the byte is special by the table; past its end it is
abbrev pub is_special_in : List Bool → ℕ → Bool
is_special_in table b = get_or table b true

-- the table tells the special bytes from the others
pub record SpecialTable (q : Separators) (table : List Bool) : Type 0 where
  pub size : length table ≡ 256
  pub tells : (b : ℕ) → is_special_in table b ≡ special q b

-- the bytes from `from` to `last` have got this entry, and the others have the one they had
pub record Fills (old : List Bool) (from last : ℕ) (entry : Bool) (table : List Bool) : Type 0 where
  pub size : length table ≡ 256
  pub tells : (b : ℕ) → is_special_in table b ≡ cond (between from last b) entry (is_special_in old b)
