-- Two answers that a lookup's promise allows are equal.
-- Assumes nothing.
use mathlib.Core.Path.{◌≡◌}
use mathlib.Core.Bool.{Bool}
use mathlib.Core.List.{List}
use Prim.Native.Nat.{ℕ}
use Rattle.std.specs.Prelude.{Option}
use Rattle.text.proofs.Once.{equation_once}
use Rattle.numbering.specs.RowAfter.{RowAfter}

-- `next::row_after`
pub row_after_once : {table : List ℕ} {row : ℕ} {again : Bool} {tag : ℕ} {x y : Option ℕ} → RowAfter table row again tag x
    → RowAfter table row again tag y → x ≡ y
row_after_once p q = equation_once p.answer q.answer
