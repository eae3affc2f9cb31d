-- The rows that may follow a row, computed from what is left after it: its state, where it stands once, and where it stands again, right
-- behind itself. Five computed checks over all rows say that each next row leads to its own state, and that again all may follow but a
-- third.
-- Assumes nothing.
use mathlib.Core.Path.{◌≡◌, refl, ap}
use mathlib.Core.Bool.{Bool, true, false, cond, ◌&&◌}
use mathlib.Core.List.{List, [], ◌∷◌, map}
use Prim.Native.Nat.{ℕ, ◌≤◌, ◌<◌}
use native.Mathlib.Omega.{arith}
use native.Mathlib.Decide.{dec_lt}
use lib.Dec.{T, eqb, eqb→eq, leb, leb→le}
use lib.ListN.{get_or-eq_default}
use Rattle.text.specs.Bytes.{among, between, every}
use Rattle.text.proofs.Bools.{cond_same, or_cases, first_of, second_of}
use Rattle.text.proofs.Tables.{tab, tab_at}
use Rattle.rows.specs.Tags.{tag_number}
use Rattle.rows.specs.Rows.{Items, list842}
use Rattle.rows.specs.RowList.{row_at, max_of}
use Rattle.rows.proofs.NextRows.{Edge, nexts, edges842, after, nowhere}
use Rattle.rows.proofs.Derivative.{idles}

-- the rows of a list of edges
abbrev pub numbers : List Edge → List ℕ
numbers es = map (λ (e : Edge). e.number) es

-- what is left after each
unfoldable pub lefts : List Edge → List (List Items)
lefts es = map (λ (e : Edge). e.left) es

-- what is left after the first
abbrev first_left : List Edge → List Items
first_left [] = []
first_left (e ∷ es) = e.left

-- the rows that may follow row r, or the start
unfoldable pub follow : ℕ → List ℕ
follow r = numbers (nexts (after r))

-- what is left after row r, which stands there once, or again; the two differ where the maximum is 2
unfoldable pub state : ℕ → Bool → List Items
state r false = after r
state r true = cond (eqb (max_of r) 2) (first_left (nexts (after r))) (after r)

-- the state that an edge leads to from row r
unfoldable pub to : ℕ → Edge → List Items
to r e = state e.number (eqb e.number r)

-- each next row leads to the state of that row
checked_to : (c : Bool) → tab 80 (λ r. lefts (nexts (state r c))) ≡ tab 80 (λ r. map (to r) (nexts (state r c)))
unfolding tab lefts to state after max_of row_at edges842 list842 tag_number
checked_to false = refl
checked_to true = refl

-- only after row 79 nothing more need come
checked_idle : (c : Bool) → tab 80 (λ r. idles (state r c)) ≡ tab 80 (λ r. eqb r 79)
unfolding tab state after max_of row_at edges842 list842 tag_number
checked_idle false = refl
checked_idle true = refl

-- every next row is a row 1 to 79
checked_range : (c : Bool) → tab 80 (λ r. every (between 1 79) (numbers (nexts (state r c)))) ≡ tab 80 (λ r. true)
unfolding tab state after max_of row_at edges842 list842 tag_number
checked_range false = refl
checked_range true = refl

-- a list without a number
abbrev pub without : ℕ → List ℕ → List ℕ
without r [] = []
without r (x ∷ l) = cond (eqb x r) (without r l) (x ∷ without r l)

-- the list without row r where the maximum of r is 2
abbrev pub strike : ℕ → List ℕ → List ℕ
strike r l = cond (eqb (max_of r) 2) (without r l) l

-- again, all may follow but a third
checked_again : tab 80 (λ r. numbers (nexts (state r true))) ≡ tab 80 (λ r. strike r (numbers (nexts (state r false))))
unfolding tab state after max_of row_at edges842 list842 tag_number
checked_again = refl

-- past row 79 nothing is left
after_past : (r : ℕ) → 80 ≤ r → after r ≡ []
unfolding after edges842 list842
after_past r h = ap (λ (e : Edge). e.left) (get_or-eq_default edges842 nowhere h)

state_past : (r : ℕ) (c : Bool) → 80 ≤ r → state r c ≡ []
unfolding state
state_past r false h = after_past r h
state_past r true h = rw (after_past r h, cond_same)

module _ (c : Bool) (r : ℕ) where
  -- each next row leads to the state of that row
  pub lefts_to : lefts (nexts (state r c)) ≡ map (to r) (nexts (state r c))
  unfolding lefts
  lefts_to = go (dec_lt r 80)
    where
      go : Dec (r < 80) → lefts (nexts (state r c)) ≡ map (to r) (nexts (state r c))
      go (yes h) = tab_at 80 (λ r. lefts (nexts (state r c))) (λ r. map (to r) (nexts (state r c))) (checked_to c) r h
      go (no h) = rw (state_past r c (omega arith))

  next_range : T (every (between 1 79) (numbers (nexts (state r c))))
  next_range = go (dec_lt r 80)
    where
      go : Dec (r < 80) → T (every (between 1 79) (numbers (nexts (state r c))))
      go (yes h) =
          rw (tab_at 80 (λ r. every (between 1 79) (numbers (nexts (state r c)))) (λ r. true) (checked_range c) r h) tt
      go (no h) = rw (state_past r c (omega arith)) tt

  -- only after row 79 nothing more need come
  pub idle_79 : r < 80 → idles (state r c) ≡ eqb r 79
  idle_79 h = tab_at 80 (λ r. idles (state r c)) (λ r. eqb r 79) (checked_idle c) r h

-- the rows that may follow row r, which stands there once, or again
unfoldable pub followers : ℕ → Bool → List ℕ
followers r c = numbers (nexts (state r c))

-- a number of such a list is 1 to 79
among_range : (x : ℕ) (l : List ℕ) → T (every (between 1 79) l) → T (among l x) → (1 ≤ x) × (x ≤ 79)
among_range x [] h m = absurd m
among_range x (y ∷ l) h m =
    or_cases (eqb x y) (among l x)
    (λ e.
    let p : T (leb 1 x && leb x 79) = rw (eqb→eq x y e) (first_of (between 1 79 y) (every (between 1 79) l) h) in
    (leb→le 1 x (first_of (leb 1 x) (leb x 79) p), leb→le x 79 (second_of (leb 1 x) (leb x 79) p)))
    (λ m'. among_range x l (second_of (between 1 79 y) (every (between 1 79) l) h) m')
    m

-- a row that may follow is a row 1 to 79
pub follower_range : (r : ℕ) (c : Bool) (x : ℕ) → T (among (followers r c) x) → (1 ≤ x) × (x ≤ 79)
unfolding followers
follower_range r c x m = among_range x (numbers (nexts (state r c))) (next_range c r) m

-- the first time all that may follow
pub first_follow : (r : ℕ) → followers r false ≡ follow r
unfolding followers state follow
first_follow r = refl

-- again all but a third
pub again_follow : (r : ℕ) → followers r true ≡ strike r (follow r)
unfolding followers state follow
again_follow r = go (dec_lt r 80)
  where
    go : Dec (r < 80) → numbers (nexts (state r true)) ≡ strike r (numbers (nexts (state r false)))
    go (yes h) =
        tab_at 80 (λ r. numbers (nexts (state r true))) (λ r. strike r (numbers (nexts (state r false)))) checked_again r h
    go (no h) = rw (state_past r true (omega arith), state_past r false (omega arith), cond_same)

-- the first row is row 1
pub start_follow : follow 0 ≡ 1 ∷ []
unfolding follow after edges842 list842
start_follow = refl
