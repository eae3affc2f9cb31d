-- The list that the walk writes, by its own steps.
-- Assumes nothing.
use Rattle.std.specs.Prelude.{ℕ, zero, suc, cond, List, [], ◌∷◌, ◌++◌, eqb}
use Rattle.outline.specs.Outline.{parent_in, depth_in}

-- of the levels 1 to k each whose parent is `of`: its number, and then what `beneath` gives of it
unfoldable pub gathered : (ℕ → List ℕ) → List ℕ → ℕ → ℕ → List ℕ
gathered beneath t of zero = []
gathered beneath t of (suc k) = gathered beneath t of k ++ cond (eqb (parent_in t (suc k)) of) (suc k ∷ beneath (suc k)) []

-- the levels under `of`, so many steps down, children in file order, each followed by its own
unfoldable pub listed : (steps : ℕ) → List ℕ → ℕ → ℕ → List ℕ
listed zero t count of = []
listed (suc steps) t count of = gathered (listed steps t count) t of count

-- the depth of level k; 0, which is above all levels, has depth 0
abbrev pub depth_of : List ℕ → ℕ → ℕ
depth_of t zero = 0
depth_of t (suc k) = depth_in t (suc k)
