-- What holds of a fit level: it has a depth, stands behind its parent, and is one deeper.
-- Assumes nothing.
use Prim.Native.Nat.{ℕ, zero, suc, ◌+◌, ◌<◌, ◌≤◌}
use mathlib.Core.Path.{◌≡◌, refl}
use mathlib.Core.Logic.{⊎_elim}
use mathlib.Core.List.{List}
use native.Mathlib.Omega.{arith}
use Rattle.outline.specs.Outline.{parent_in, depth_in}
use Rattle.outline.specs.Walks.{Fit}
use Rattle.outline.specs.internal.Listing.{depth_of}

-- a level's depth is in its record
pub level_depth : (t : List ℕ) (k : ℕ) → 1 ≤ k → depth_of t k ≡ depth_in t k
level_depth t zero from = absurd (omega arith)
level_depth t (suc k) from = refl

module _ (t : List ℕ) (k : ℕ) (fit : Fit t k) where
  -- the depth is 1 at least
  pub depth_from : 1 ≤ depth_in t k
  depth_from = ⊎_elim (λ top. omega (arith, top.depth)) (λ under. omega (arith, under.depth)) fit.hangs

  -- the parent is earlier
  pub parent_earlier : 1 ≤ k → parent_in t k < k
  parent_earlier from = ⊎_elim (λ top. omega (arith, top.parent)) (λ under. under.parent_below) fit.hangs

  -- and one less deep
  pub child_depth : (of : ℕ) → parent_in t k ≡ of → depth_in t k ≡ depth_of t of + 1
  child_depth of e =
      ⊎_elim
      (λ top. let none : of ≡ 0 = omega (arith, top.parent) in rw none top.depth)
      (λ under. rw (← e, level_depth t (parent_in t k) under.parent_from) under.depth)
      fit.hangs
