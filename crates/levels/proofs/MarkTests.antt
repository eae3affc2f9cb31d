-- Marks: none of two bytes or more fits.
-- Assumes nothing.
use Prim.Native.Nat.{ℕ, ◌≤◌}
use mathlib.Core.Path.{◌≡◌}
use mathlib.Core.Bool.{false}
use mathlib.Core.List.{[], ◌∷◌}
use native.Mathlib.Omega.{arith}
use lib.ListN.{length}
use borrow.Author.Tests.{ne_eqb}
use Rattle.text.specs.Bytes.{Bytes}
use Rattle.text.proofs.Bools.{and_false}
use Rattle.levels.specs.Profile.{LevelProfile}
use Rattle.levels.specs.Rules.{mark_fits}

pub long_mark : (profile : LevelProfile) (code : ℕ) (mark : Bytes) → 2 ≤ length mark → false ≡ mark_fits profile code mark
long_mark profile code [] h = absurd (omega arith)
long_mark profile code (a ∷ []) h = absurd (omega arith)
long_mark profile code (a ∷ (b ∷ mark)) h = simp (ne_eqb (length (a ∷ (b ∷ mark))) 0 (λ e. omega arith), and_false)
