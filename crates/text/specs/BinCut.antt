-- What the cut of bytes that begin with `BIN` and the element separator is, in the words of document 02, Item 1, and with no order in which they
-- are looked at: a whole BIN; or the bytes end inside one; or they are broken at the first byte that leaves no beginning of one.
-- Assumes nothing.
use Rattle.std.specs.Prelude.{ℕ, ◌≡◌, ◌⊎◌, [], ◌∷◌, ◌++◌, T}
use Rattle.text.specs.Bytes.{Bytes}
use Rattle.text.specs.Bin.{is_bin}
use Rattle.text.specs.Cut.{Cut, Whole, Stop}
use Rattle.text.specs.declared.separators.Separators.{Separators}

module _ (q : Separators) where
  -- a whole BIN and its terminator
  pub record WholeBin (s : Bytes) : Type 0 where
    pub segment : Bytes
    pub bin : T (is_bin q.element segment)
    pub ended : s ≡ segment ++ q.terminator ∷ []

  -- a beginning of one: some bytes make it whole
  abbrev pub Beginning : Bytes → Type 0
  Beginning s = (more : Bytes) × WholeBin (s ++ more)

  -- one that wants a byte at least
  abbrev pub Inside : Bytes → Type 0
  Inside s = (b : ℕ) × (more : Bytes) × WholeBin (s ++ b ∷ more)

  -- 3: the bytes end inside one
  pub record EndsInside (s : Bytes) (number element : ℕ) (upto more : Bytes) : Type 0 where
    pub number_is : number ≡ 3
    pub element_is : element ≡ 0
    pub all : upto ≡ s
    pub none : more ≡ []
    pub inside : Inside s

  -- 10: what was looked at ends with the byte that breaks; element 2 where only the terminator was wanting, else 1
  pub record BrokenAt (s : Bytes) (number element : ℕ) (upto more : Bytes) : Type 0 where
    pub front : Bytes
    pub last : ℕ
    pub number_is : number ≡ 10
    pub upto_is : upto ≡ front ++ last ∷ []
    pub whole : s ≡ upto ++ more
    pub inside : Inside front
    pub broken : Beginning upto → ⊥
    pub element_is : ((element ≡ 1) × (T (is_bin q.element front) → ⊥)) ⊎ ((element ≡ 2) × T (is_bin q.element front))

  abbrev pub CutOfBin : Bytes → Cut → Type 0
  CutOfBin s (Whole segment more) = T (is_bin q.element segment) × (s ≡ segment ++ q.terminator ∷ more)
  CutOfBin s (Stop number element upto more) = EndsInside s number element upto more ⊎ BrokenAt s number element upto more
