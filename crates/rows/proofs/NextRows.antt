-- The rows that may come next, computed from the bracketed row list: where row lists are to be read one after the other, a next row is
-- one that may come first, and what is left after it is again such row lists.
-- Assumes nothing.
use Prim.Native.Nat.{ℕ, zero, suc}
use mathlib.Core.Bool.{true, false, cond}
use mathlib.Core.List.{List, [], ◌∷◌, ◌++◌}
use lib.Dec.{eqb}
use lib.ListN.{get_or}
use Rattle.rows.specs.Rows.{Items, end, row, loop, list842}

-- a row that may come next, and what is left to be read after it: row lists, one after the other, from the rest of the pass outwards
pub record Edge : Type 0 where
  pub number : ℕ
  pub tag : ℕ
  pub left : List Items

-- what is left of a row of that maximum after one occurrence, and what comes after it
abbrev pub again : ℕ → ℕ → ℕ → Items → Items
again n t zero rest = row n t 0 false rest
again n t (suc zero) rest = rest
again n t (suc (suc m)) rest = row n t (suc m) false rest

-- one occurrence of a row
abbrev pub row_edge : ℕ → ℕ → ℕ → Items → List Items → Edge
row_edge n t maximum rest outside = record { number = n; tag = t; left = again n t maximum rest ∷ outside }

-- the opening row of a loop: the body is left, then the loop again
abbrev pub loop_edge : ℕ → ℕ → Items → Items → List Items → Edge
loop_edge n t body rest outside = record { number = n; tag = t; left = body ∷ loop n t false body rest ∷ outside }

-- the rows that may come first where the items are to be read, then what is outside; `more` are those that may come where the items are
-- passed over
abbrev pub firsts : Items → List Items → List Edge → List Edge
firsts end outside more = more
firsts (row n t maximum true rest) outside more = row_edge n t maximum rest outside ∷ []
firsts (row n t maximum false rest) outside more = row_edge n t maximum rest outside ∷ firsts rest outside more
firsts (loop n t true body rest) outside more = loop_edge n t body rest outside ∷ []
firsts (loop n t false body rest) outside more = loop_edge n t body rest outside ∷ firsts rest outside more

-- the rows that may come first where row lists are to be read one after the other
abbrev pub nexts : List Items → List Edge
nexts [] = []
nexts (items ∷ outside) = firsts items outside (nexts outside)

-- each row of the items with what is left after its first occurrence in a pass
abbrev pub edges : Items → List Items → List Edge
edges end outside = []
edges (row n t maximum mandatory rest) outside = row_edge n t maximum rest outside ∷ edges rest outside
edges (loop n t mandatory body rest) outside =
    loop_edge n t body rest outside ∷ (edges body (loop n t false body rest ∷ outside) ++ edges rest outside)

-- nothing, and nothing left
abbrev pub nowhere : Edge
nowhere = record { number = 0; tag = 0; left = [] }

-- the start, as row 0, and the 79 rows
unfoldable pub edges842 : List Edge
edges842 = record { number = 0; tag = 0; left = list842 ∷ [] } ∷ edges list842 []

-- what is left after a row
unfoldable pub after : ℕ → List Items
after r = (get_or edges842 r nowhere).left

-- the first row of that tag, or 0
abbrev pub first_with : ℕ → List Edge → ℕ
first_with t [] = 0
first_with t (e ∷ es) = cond (eqb e.tag t) e.number (first_with t es)

-- the row that comes after row r with tag number t, or 0
unfoldable pub next_of : ℕ → ℕ → ℕ
next_of r t = first_with t (nexts (after r))
