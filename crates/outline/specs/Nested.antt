-- What an outline is good for, each claim in the words of document 02, Item 2, and by the parent numbers alone. The laws are that an outline of a
-- fit table nests, and that two lists that nest are equal.
-- Assumes nothing.
use Rattle.std.specs.Prelude.{ℕ, ◌<◌, ◌≡◌, List}
use Rattle.outline.specs.Outline.{parent_in, At, Whole}

-- level k hangs under level a, directly or under one that does
pub data Under (t : List ℕ) (a : ℕ) : ℕ → Type 0 where
  child : (k : ℕ) → parent_in t k ≡ a → Under t a k
  further : (k : ℕ) → Under t a (parent_in t k) → Under t a k

pub record Nested (t : List ℕ) (count : ℕ) (order : List ℕ) : Type 0 where
  -- every level exactly once, and nothing else: the list is the numbers 1 to count in some order
  pub whole : Whole count order
  pub once : (i j k : ℕ) → At order i k → At order j k → i ≡ j
  -- children of one parent in file order, and so the levels without a parent
  pub siblings : (i j a b : ℕ) → At order i a → At order j b → parent_in t a ≡ parent_in t b → a < b → i < j
  -- a level stands behind its parent
  pub behind : (i j k : ℕ) → At order i (parent_in t k) → At order j k → i < j
  -- and between the two only what hangs under that parent
  pub between : (i m j k x : ℕ) → At order i (parent_in t k) → At order m x → At order j k → i < m → m < j → Under t (parent_in t k) x
