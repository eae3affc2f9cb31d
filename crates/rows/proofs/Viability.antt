-- Viable lists and words are known by their neighbours: the computed followers of a row are the rows that may follow it in some word,
-- since ST, BNR and the opening rows of the loops around a row lead to it.
-- Assumes nothing.
use mathlib.Core.Path.{◌≡◌, refl, ap, sym, ◌∙◌}
use mathlib.Core.Logic.{◌↔◌}
use mathlib.Core.Bool.{Bool, true, false, cond, not, ◌&&◌}
use mathlib.Core.List.{List, [], ◌∷◌, ◌++◌, append_assoc}
use Prim.Native.Nat.{ℕ, zero, suc, ◌≤◌, ◌<◌, ◌-◌}
use native.Mathlib.Omega.{arith}
use lib.Dec.{T, eqb, eqb→eq, lit<}
use Rattle.text.specs.Bytes.{among}
use Rattle.text.proofs.Bools.{or_cases, first_of, second_of, not_passes}
use Rattle.text.proofs.Tables.{tab, tab_at}
use Rattle.rows.specs.Tags.{tag_number}
use Rattle.rows.specs.Rows.{Word, Viable, list842}
use Rattle.rows.specs.RowList.{row_at, max_of}
use Rattle.rows.proofs.NextRows.{after, edges842}
use Rattle.rows.specs.Following.{MayFollow, last_of, twice}
use Rattle.rows.proofs.Followers.{state, follow, followers, follower_range, first_follow}
use Rattle.rows.proofs.Local.{NoThird, Runs, Linked, Local, viable_runs, runs_viable, word_runs}
use Rattle.rows.proofs.Local.{runs_word, runs_local, local_runs, follower_follows, run_last}

-- one row more at the end of a run
pub snoc_follower : (w : List ℕ) (r : ℕ) (c : Bool) (y : ℕ) → Runs r c (w ++ (y ∷ [])) → T (among (followers (last_of r w) (twice r c w)) y)
unfolding Runs
snoc_follower [] r c y s = s.0
snoc_follower (x ∷ w) r c y s = snoc_follower w x (eqb x r) y s.1

-- and a follower makes one row more
pub follower_snoc : (w : List ℕ) (r : ℕ) (c : Bool) (y : ℕ) → Runs r c w → T (among (followers (last_of r w) (twice r c w)) y)
    → Runs r c (w ++ (y ∷ []))
unfolding Runs
follower_snoc [] r c y s m = (m, tt)
follower_snoc (x ∷ w) r c y s m = (s.0, follower_snoc w x (eqb x r) y s.1 m)

-- the row that opens the loop around a row, 0 for none
enclosing_of : ℕ → ℕ
enclosing_of number = (row_at number).3

-- the opening rows of the loops around row r, outermost first, at most so many
openers : ℕ → ℕ → List ℕ
openers zero r = []
openers (suc k) r =
    cond (eqb (enclosing_of r) 0) [] (openers k (enclosing_of r) ++ (enclosing_of r ∷ []))

-- rows that lead to row r: ST, BNR and the opening rows around it; before SE one HL
leading : ℕ → List ℕ
leading r = cond (eqb r 1) [] (1 ∷ cond (eqb r 2) [] (2 ∷ cond (eqb r 79) (18 ∷ []) (openers 4 r)))

-- whether the rows are a run
abbrev pub runs : ℕ → Bool → List ℕ → Bool
runs r c [] = true
runs r c (x ∷ w) = among (followers r c) x && runs x (eqb x r) w

-- rows that pass the test are a run
pub test_runs : (w : List ℕ) (r : ℕ) (c : Bool) → T (runs r c w) → Runs r c w
unfolding Runs
test_runs [] r c h = tt
test_runs (x ∷ w) r c h = (
  first_of (among (followers r c) x) (runs x (eqb x r) w) h,
  test_runs w x (eqb x r) (second_of (among (followers r c) x) (runs x (eqb x r) w) h),
)

-- each row is reached, and stands there once
reached : ℕ → Bool
reached r = runs 0 false (leading r ++ (r ∷ [])) && not (twice 0 false (leading r ++ (r ∷ [])))

checked_reached : tab 79 (λ k. reached (suc k)) ≡ tab 79 (λ k. true)
unfolding tab reached leading openers followers state after max_of enclosing_of row_at edges842 list842 tag_number
checked_reached = refl

row_reached : (r : ℕ) → 1 ≤ r → r ≤ 79 → T (reached r)
row_reached r lo hi =
    let b : suc (r - 1) ≡ r = omega arith in
    let h : reached (suc (r - 1)) ≡ true = tab_at 79 (λ k. reached (suc k)) (λ k. true) checked_reached (r - 1) (omega arith) in
    let g : reached r ≡ true = ap reached (sym b) ∙ h in
    rw g tt

-- the last row of a list that ends so
pub last_snoc : (w : List ℕ) (s r : ℕ) → last_of s (w ++ (r ∷ [])) ≡ r
last_snoc [] s r = refl
last_snoc (x ∷ w) s r = last_snoc w x r

-- a computed follower may follow
pub follow_may : (r x : ℕ) → 1 ≤ r → r ≤ 79 → T (among (follow r) x) → MayFollow r x
unfolding reached
follow_may r x lo hi m =
    let w = leading r ++ (r ∷ []) in
    let h = row_reached r lo hi in
    let s = test_runs w 0 false (first_of (runs 0 false w) (not (twice 0 false w)) h) in
    let f : twice 0 false w ≡ false = not_passes (twice 0 false w) (second_of (runs 0 false w) (not (twice 0 false w)) h) in
    let m' : T (among (followers (last_of 0 w) (twice 0 false w)) x) = rw (last_snoc (leading r) 0 r, f, first_follow) m in
    let v : Viable list842 (w ++ (x ∷ [])) = runs_viable (w ++ (x ∷ [])) (follower_snoc w 0 false x s m') in
    (leading r, rw append_assoc at v)

-- a row that stands in a run has followers of its own
pair_follower : (w : List ℕ) (s : ℕ) (c : Bool) (r x : ℕ) → Runs s c (w ++ (r ∷ x ∷ []))
    → (again : Bool) × T (among (followers r again) x)
unfolding Runs
pair_follower [] s c r x h = (eqb r s, h.1.0)
pair_follower (y ∷ w) s c r x h = pair_follower w y (eqb y s) r x h.1

-- a row that may follow is a computed follower
pub may_follow : (r x : ℕ) → MayFollow r x → T (among (follow r) x)
may_follow r x (w, v) =
    let p = pair_follower w 0 false r x (viable_runs (w ++ (r ∷ x ∷ [])) v) in
    (follower_follows r x p.0 p.1).0

run_range : (w : List ℕ) (r : ℕ) (c : Bool) → Runs r c w → (x : ℕ) → T (among w x) → (1 ≤ x) × (x ≤ 79)
unfolding Runs
run_range [] r c s x m = absurd m
run_range (y ∷ w) r c s x m =
    or_cases (eqb x y) (among w x)
    (λ e. let k = follower_range r c y s.0 in rw (eqb→eq x y e) k)
    (λ m'. run_range w y (eqb y r) s.1 x m')
    m

-- every row of a viable list is a row 1 to 79
pub viable_range : (w : List ℕ) → Viable list842 w → (x : ℕ) → T (among w x) → (1 ≤ x) × (x ≤ 79)
viable_range w v x m = run_range w 0 false (viable_runs w v) x m

-- the last row of a viable list is at most 79, and 0 stands for none
pub last_range : (w : List ℕ) → Viable list842 w → last_of 0 w < 80
last_range w v = run_last w 0 false (lit< tt) (viable_runs w v)

-- each row may follow the one before it
abbrev pub Chain : List ℕ → Type 0
Chain [] = Unit {0}
Chain (x ∷ []) = Unit {0}
Chain (x ∷ y ∷ w) = MayFollow x y × Chain (y ∷ w)

linked_chain : (w : List ℕ) (x : ℕ) → 1 ≤ x → x ≤ 79 → Linked x w → Chain (x ∷ w)
linked_chain [] x lo hi l = tt
linked_chain (y ∷ w) x lo hi l =
    let k = follower_range x false y (rw first_follow l.0) in
    (follow_may x y lo hi l.0, linked_chain w y k.0 k.1 l.1)

chain_linked : (w : List ℕ) (x : ℕ) → Chain (x ∷ w) → Linked x w
chain_linked [] x c = tt
chain_linked (y ∷ w) x c = (may_follow x y c.0, chain_linked w y c.1)

local_chain : (x : ℕ) (w : List ℕ) → Local x w → (x ≡ 1) × Chain (x ∷ w) × NoThird (x ∷ w)
local_chain x w l =
    let e = l.starts in
    (e, linked_chain w x (omega arith) (omega arith) l.linked, l.sparse)

chain_local : (x : ℕ) (w : List ℕ) → x ≡ 1 → Chain (x ∷ w) → NoThird (x ∷ w) → Local x w
chain_local x w e c n = record { starts = e; linked = chain_linked w x c; sparse = n }

-- a list of rows is viable exactly if it starts at row 1, neighbours may follow each other, and there is no third
pub viable_iff : (x : ℕ) (w : List ℕ) → Viable list842 (x ∷ w) ↔ ((x ≡ 1) × Chain (x ∷ w) × NoThird (x ∷ w))
viable_iff x w = (
  λ v. local_chain x w (runs_local x w (viable_runs (x ∷ w) v)),
  λ (e, c, n). runs_viable (x ∷ w) (local_runs x w (chain_local x w e c n)),
)

-- and a whole word exactly if moreover its last row is 79
pub word_iff : (x : ℕ) (w : List ℕ)
    → Word list842 (x ∷ w) ↔ ((x ≡ 1) × Chain (x ∷ w) × NoThird (x ∷ w) × (last_of 0 (x ∷ w) ≡ 79))
word_iff x w = (there, back)
  where
    there : Word list842 (x ∷ w) → (x ≡ 1) × Chain (x ∷ w) × NoThird (x ∷ w) × (last_of 0 (x ∷ w) ≡ 79)
    there p =
        let q = word_runs (x ∷ w) p in
        let l = local_chain x w (runs_local x w q.0) in
        (l.0, l.1, l.2, q.1)

    back : (x ≡ 1) × Chain (x ∷ w) × NoThird (x ∷ w) × (last_of 0 (x ∷ w) ≡ 79) → Word list842 (x ∷ w)
    back (e, c, n, last) = runs_word (x ∷ w) (local_runs x w (chain_local x w e c n)) last

-- nothing read yet can go on to a word
pub viable_nil : Viable list842 []
unfolding Runs
viable_nil = runs_viable [] tt

-- and is none itself
pub nil_no_word : Word list842 [] → ⊥
nil_no_word p = let e = (word_runs [] p).1 in omega arith

-- a viable list that ends at row 79 is a word
pub viable_word : (w : List ℕ) → Viable list842 w → last_of 0 w ≡ 79 → Word list842 w
viable_word w v e = runs_word w (viable_runs w v) e

-- every word ends at row 79
pub word_last : (w : List ℕ) → Word list842 w → last_of 0 w ≡ 79
word_last w p = (word_runs w p).1

follow_79 : follow 79 ≡ []
unfolding follow after edges842 list842
follow_79 = refl

-- after row 79 nothing can follow
pub ends_at_79 : (w : List ℕ) → last_of 0 w ≡ 79 → (y : ℕ) → Viable list842 (w ++ (y ∷ [])) → ⊥
ends_at_79 w e y v =
    let m = snoc_follower w 0 false y (viable_runs (w ++ (y ∷ [])) v) in
    let f = (follower_follows (last_of 0 w) y (twice 0 false w) m).0 in
    rw (e, follow_79) at f
