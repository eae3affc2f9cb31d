-- Where a table leaves the order of an outline: most reports never do, and then a level's children end where a level comes that is no deeper.
-- Assumes nothing.
use Rattle.std.specs.Prelude.{ℕ, zero, suc, ◌-◌, cond, List, eqb, leb}
use Rattle.outline.specs.Outline.{parent_in, depth_in}
use Rattle.outline.specs.declared.straying.Latest.{Latest}

-- the latest of the levels 1 to k that has at most that depth; 0 where there is none
unfoldable pub latest : List ℕ → (depth : ℕ) → ℕ → ℕ
latest t depth zero = 0
latest t depth (suc k) = cond (leb (depth_in t (suc k)) depth) (suc k) (latest t depth k)

-- the last of the levels 1 to k whose parent is not the latest level before it that is less deep; 0 where there is none
unfoldable pub last_stray : List ℕ → ℕ → ℕ
last_stray t zero = 0
last_stray t (suc k) = cond (eqb (parent_in t (suc k)) (latest t (depth_in t (suc k) - 1) k)) (last_stray t k) (suc k)

-- the latest levels of depth at most 1, 2 and 3: the one that is less deep than this, which is at most 4
abbrev pub above_of : Latest → (depth : ℕ) → ℕ
above_of l depth = cond (eqb depth 2) l.first (cond (eqb depth 3) l.second (cond (eqb depth 4) l.third 0))

-- with level k of that depth
abbrev pub with_level : Latest → (k depth : ℕ) → Latest
with_level l k depth = record {
  first = cond (leb depth 1) k l.first;
  second = cond (leb depth 2) k l.second;
  third = cond (leb depth 3) k l.third;
}
