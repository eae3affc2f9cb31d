-- The promise of a walk: which answer, and what the output holds afterwards, for every level table, count and output. Document 02, Item 2.
-- Assumes nothing.
use Rattle.std.specs.Prelude.{ℕ, ◌+◌, ◌/◌, ◌<◌, ◌≤◌, ◌≡◌, ◌⊎◌, List, length, Result, Ok, Err}
use Rattle.levels.specs.Widths.{level_width}
use Rattle.gate.specs.Records.{over}
use Rattle.outline.specs.Outline.{parent_in, depth_in, Outline}
use Rattle.outline.specs.declared.answer.Reason.{Reason}
use Rattle.outline.specs.declared.answer.Reason.TheVariants.{UnfitTable, ShortOutput}
use Rattle.outline.specs.declared.answer.Unlisted.{Unlisted}

-- the numbers of the answers that refuse
abbrev pub number_of : Reason → ℕ
number_of UnfitTable = 20
number_of ShortOutput = 21

-- an answer: how many levels are listed, or why none is
abbrev pub Walked : Type 0
Walked = Result ℕ Unlisted

-- refused for this reason, and for this level
abbrev pub unlisted : Reason → ℕ → Walked
unlisted reason level = Err (record { reason = reason; level = level })

-- level k has no parent, and depth 1
pub record Top (t : List ℕ) (k : ℕ) : Type 0 where
  pub parent : parent_in t k ≡ 0
  pub depth : depth_in t k ≡ 1

-- level k has a parent from 1 to below its own number, and is one deeper
pub record Hangs (t : List ℕ) (k : ℕ) : Type 0 where
  pub parent_from : 1 ≤ parent_in t k
  pub parent_below : parent_in t k < k
  pub depth : depth_in t k ≡ depth_in t (parent_in t k) + 1

-- level k is fit; its segment and its code are not judged
pub record Fit (t : List ℕ) (k : ℕ) : Type 0 where
  pub shallow : depth_in t k ≤ 4
  pub hangs : Top t k ⊎ Hangs t k

-- the levels 1 to count are fit
abbrev pub FitTable : List ℕ → ℕ → Type 0
FitTable t count = (k : ℕ) → 1 ≤ k → k ≤ count → Fit t k

-- how many whole records the table holds
abbrev pub room_of : List ℕ → ℕ
room_of t = length t / level_width

module _ (t : List ℕ) (count : ℕ) (before : List ℕ) (r : Walked) (after : List ℕ) where
  -- 20 with level 0: the count exceeds the room
  pub record TooMany : Type 0 where
    pub exceeds : room_of t < count
    pub answer : r ≡ unlisted UnfitTable 0
    pub unchanged : after ≡ before

  -- 20 with a level: it is the first that is unfit
  pub record Unfit : Type 0 where
    pub room : count ≤ room_of t
    pub level : ℕ
    pub from : 1 ≤ level
    pub upto : level ≤ count
    pub unfit : Fit t level → ⊥
    pub first : (k : ℕ) → 1 ≤ k → k < level → Fit t k
    pub answer : r ≡ unlisted UnfitTable level
    pub unchanged : after ≡ before

  -- 21 with level 0: the output is shorter than the count
  pub record TooShort : Type 0 where
    pub room : count ≤ room_of t
    pub fit : FitTable t count
    pub shorter : length before < count
    pub answer : r ≡ unlisted ShortOutput 0
    pub unchanged : after ≡ before

  -- 0 with the count: the outline stands at the front of the output, and what lies behind it is as it was
  pub record Lists : Type 0 where
    pub room : count ≤ room_of t
    pub fit : FitTable t count
    pub long : count ≤ length before
    pub answer : r ≡ Ok count
    pub order : List ℕ
    pub outline : Outline t count order
    pub written : after ≡ over before order

-- the promise of a walk
abbrev pub Walks : List ℕ → ℕ → List ℕ → Walked → List ℕ → Type 0
Walks t count before r after = TooMany t count before r after ⊎ (Unfit t count before r after ⊎ (TooShort t count before r after ⊎ Lists t count before r after))
