-- The order in which levels are listed under their parents. Document 02, Item 2: each level without a parent in file order, and under it its
-- children in file order, each followed by its own; every level exactly once. It is said of a level table and a count of levels, and by no walk:
-- levels stand in the order of their paths, as words do in a dictionary.
-- Assumes nothing.
use Rattle.std.specs.Prelude.{ℕ, zero, suc, ◌+◌, ◌-◌, ◌*◌, ◌<◌, ◌≤◌, ◌≡◌, ◌⊎◌, List, [], ◌∷◌, ◌++◌, length, get_or}
use Rattle.levels.specs.Widths.{level_width}

-- levels are numbered from 1 in file order; of level k the second number is its parent's, 0 for none, and the third its depth
abbrev pub parent_in : List ℕ → ℕ → ℕ
parent_in t k = get_or t (level_width * (k - 1) + 1) 0

abbrev pub depth_in : List ℕ → ℕ → ℕ
depth_in t k = get_or t (level_width * (k - 1) + 2) 0

-- the path of a level at that depth: the levels above it from the top down, and itself
abbrev pub path_from : List ℕ → (depth : ℕ) → ℕ → List ℕ
path_from t zero k = []
path_from t (suc depth) k = path_from t depth (parent_in t k) ++ (k ∷ [])

abbrev pub path_to : List ℕ → ℕ → List ℕ
path_to t k = path_from t (depth_in t k) k

-- one path before another: the first two levels that differ decide, by file order; and a path comes before those that lead further
abbrev pub Sooner : List ℕ → List ℕ → Type 0
Sooner [] [] = ⊥
Sooner [] (y ∷ q) = Unit {0}
Sooner (x ∷ p) [] = ⊥
Sooner (x ∷ p) (y ∷ q) = (x < y) ⊎ ((x ≡ y) × Sooner p q)

-- place i of a list, counted from 0, is taken by level k
pub record At (order : List ℕ) (i k : ℕ) : Type 0 where
  pub within : i < length order
  pub is : get_or order i 0 ≡ k

-- every level from 1 to count has a place, and nothing else has one
pub record Whole (count : ℕ) (order : List ℕ) : Type 0 where
  pub every : (k : ℕ) → 1 ≤ k → k ≤ count → (i : ℕ) × At order i k
  pub only : (i k : ℕ) → At order i k → (1 ≤ k) × (k ≤ count)

-- the levels 1 to count of the table, listed: the earlier of two places has the sooner path, and so no level has two
pub record Outline (t : List ℕ) (count : ℕ) (order : List ℕ) : Type 0 where
  pub whole : Whole count order
  pub in_order : (i j a b : ℕ) → At order i a → At order j b → i < j → Sooner (path_to t a) (path_to t b)
