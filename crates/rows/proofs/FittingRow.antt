-- The row that goes on from a viable list: it is the computed next row with the tag, unless it would be a third. One computed check says that
-- no row and tag have two candidates.
-- Assumes nothing.
use mathlib.Core.Path.{◌≡◌, refl, ap, sym, ◌∙◌}
use mathlib.Core.Logic.{◌≢◌, by_cases}
use mathlib.Core.Bool.{Bool, true, false, not, cond}
use mathlib.Core.List.{List, [], ◌∷◌, ◌++◌, map, append_assoc, head-eq_of_cons-eq, tail-eq_of_cons-eq}
use Prim.Native.Nat.{ℕ, zero, suc, ◌<◌, ◌≤◌, ◌-◌}
use native.Mathlib.Omega.{arith}
use native.Mathlib.Decide.{dec_lt}
use lib.Dec.{T, eqb, eqb→eq, eqb_refl, ltb, ltb→lt}
use Rattle.text.specs.Bytes.{among}
use Rattle.text.proofs.Bools.{or_left, or_right, or_cases, apart}
use Rattle.text.proofs.Tables.{tab, tab_at}
use Rattle.rows.specs.Tags.{tag_number}
use Rattle.rows.specs.Rows.{Viable, list842}
use Rattle.rows.specs.RowList.{row_at, tag_of, max_of}
use Rattle.rows.proofs.NextRows.{Edge, nexts, after, edges842, next_of}
use Rattle.rows.specs.Following.{Fits, last_of, twice}
use Rattle.rows.proofs.Followers.{numbers, follow, follower_range, first_follow}
use Rattle.rows.proofs.Local.{viable_runs, runs_viable, follower_follows, follows_follower}
use Rattle.rows.proofs.Viability.{snoc_follower, follower_snoc, last_range}

-- the rows of a list of edges that have the tag
abbrev with_tag : ℕ → List Edge → List ℕ
with_tag t [] = []
with_tag t (e ∷ es) = cond (eqb e.tag t) (e.number ∷ with_tag t es) (with_tag t es)

-- the rows with the tag that may follow row r
unfoldable pub candidates : ℕ → ℕ → List ℕ
candidates r t = with_tag t (nexts (after r))

-- the candidates that an entry stands for: none for 0, else the one
abbrev pub stands_for : ℕ → List ℕ
stands_for zero = []
stands_for (suc n) = suc n ∷ []

-- at each place of 80 by 34 there is at most one candidate
checked_one : tab 80 (λ r. tab 34 (λ t. candidates r t)) ≡ tab 80 (λ r. tab 34 (λ t. stands_for (next_of r t)))
unfolding tab candidates next_of after edges842 list842 tag_number
checked_one = refl

-- so the candidates are what the computed next row stands for
pub at_most_one_lem : (r t : ℕ) → r < 80 → t < 34 → candidates r t ≡ stands_for (next_of r t)
at_most_one_lem r t hr ht =
    tab_at 34 (λ t. candidates r t) (λ t. stands_for (next_of r t))
    (tab_at 80 (λ r. tab 34 (λ t. candidates r t)) (λ r. tab 34 (λ t. stands_for (next_of r t))) checked_one r hr)
    t ht

-- the tag of each next row is that of the row list
tagged : List Edge → List ℕ
tagged es = map (λ (e : Edge). e.tag) es

listed : List Edge → List ℕ
listed es = map (λ (e : Edge). tag_of e.number) es

checked_tags : tab 80 (λ r. tagged (nexts (after r))) ≡ tab 80 (λ r. listed (nexts (after r)))
unfolding tab tagged listed tag_of row_at after edges842 list842 tag_number
checked_tags = refl

tags_agree : (r : ℕ) → r < 80 → tagged (nexts (after r)) ≡ listed (nexts (after r))
tags_agree r h = tab_at 80 (λ r. tagged (nexts (after r))) (λ r. listed (nexts (after r))) checked_tags r h

-- every row has one of the 34 tags
checked_34 : tab 79 (λ k. ltb (tag_of (suc k)) 34) ≡ tab 79 (λ k. true)
unfolding tab tag_of row_at list842 tag_number
checked_34 = refl

-- a row's tag number is below 34
tag_34 : (x : ℕ) → 1 ≤ x → x ≤ 79 → tag_of x < 34
tag_34 x lo hi =
    let b : suc (x - 1) ≡ x = omega arith in
    let h : ltb (tag_of (suc (x - 1))) 34 ≡ true = tab_at 79 (λ k. ltb (tag_of (suc k)) 34) (λ k. true) checked_34 (x - 1) (omega arith) in
    let g : ltb (tag_of x) 34 ≡ true = ap (λ (k : ℕ). ltb (tag_of k) 34) (sym b) ∙ h in
    ltb→lt (tag_of x) 34 (rw g tt)

-- a row among the edges that has the tag is among those with the tag, and back
pick_in : (b : Bool) (x t : ℕ) (y : Edge) (es : List Edge) → (T (not b) → y.tag ≡ t → ⊥) → y.tag ≡ tag_of y.number → tag_of x ≡ t
    → (T (among (numbers es) x) → T (among (with_tag t es) x)) → T (among (numbers (y ∷ es)) x)
    → T (among (cond b (y.number ∷ with_tag t es) (with_tag t es)) x)
pick_in true x t y es n h p ih m =
    or_cases (eqb x y.number) (among (numbers es) x)
    (λ q. or_left (eqb x y.number) (among (with_tag t es) x) q)
    (λ q. or_right (eqb x y.number) (among (with_tag t es) x) (ih q))
    m
pick_in false x t y es n h p ih m =
    or_cases (eqb x y.number) (among (numbers es) x)
    (λ q. absurd (n tt (h ∙ ap tag_of (sym (eqb→eq x y.number q)) ∙ p)))
    ih
    m

tagged_in : (x t : ℕ) (es : List Edge) → tagged es ≡ listed es → T (among (numbers es) x) → tag_of x ≡ t → T (among (with_tag t es) x)
unfolding tagged listed
tagged_in x t [] e m p = m
tagged_in x t (y ∷ es) e m p =
    pick_in (eqb y.tag t) x t y es (apart y.tag t) (head-eq_of_cons-eq e) p (λ q. tagged_in x t es (tail-eq_of_cons-eq e) q p) m

pick_out : (b : Bool) (x t : ℕ) (y : Edge) (es : List Edge) → (T b → y.tag ≡ t) → y.tag ≡ tag_of y.number
    → (T (among (with_tag t es) x) → T (among (numbers es) x) × (tag_of x ≡ t))
    → T (among (cond b (y.number ∷ with_tag t es) (with_tag t es)) x) → T (among (numbers (y ∷ es)) x) × (tag_of x ≡ t)
pick_out true x t y es f h ih m =
    or_cases (eqb x y.number) (among (with_tag t es) x)
    (λ q. (or_left (eqb x y.number) (among (numbers es) x) q, ap tag_of (eqb→eq x y.number q) ∙ sym h ∙ f tt))
    (λ q. (or_right (eqb x y.number) (among (numbers es) x) (ih q).0, (ih q).1))
    m
pick_out false x t y es f h ih m = (or_right (eqb x y.number) (among (numbers es) x) (ih m).0, (ih m).1)

tagged_out : (x t : ℕ) (es : List Edge) → tagged es ≡ listed es → T (among (with_tag t es) x)
    → T (among (numbers es) x) × (tag_of x ≡ t)
unfolding tagged listed
tagged_out x t [] e m = absurd m
tagged_out x t (y ∷ es) e m =
    pick_out (eqb y.tag t) x t y es (eqb→eq y.tag t) (head-eq_of_cons-eq e) (λ q. tagged_out x t es (tail-eq_of_cons-eq e) q) m

only_entry : (x n : ℕ) → T (among (stands_for n) x) → x ≡ n
only_entry x zero m = absurd m
only_entry x (suc n) m = or_cases (eqb x (suc n)) false (λ q. eqb→eq x (suc n) q) (λ q. absurd q) m

entry_among : (n : ℕ) → n ≢ 0 → T (among (stands_for n) n)
entry_among zero h = absurd (h refl)
entry_among (suc n) h = or_left (eqb (suc n) (suc n)) false (eqb_refl (suc n))

-- a row that may follow row r is the computed next row for its tag
pub follow_next : (r x : ℕ) → r < 80 → T (among (follow r) x) → x ≡ next_of r (tag_of x)
unfolding follow candidates
follow_next r x hr m =
    let k = follower_range r false x (rw first_follow m) in
    only_entry x (next_of r (tag_of x))
    (rw (at_most_one_lem r (tag_of x) hr (tag_34 x k.0 k.1)) at (tagged_in x (tag_of x) (nexts (after r)) (tags_agree r hr) m refl))

-- and the computed next row may follow and has the tag
pub next_follow : (r t : ℕ) → r < 80 → t < 34 → next_of r t ≢ 0 → T (among (follow r) (next_of r t)) × (tag_of (next_of r t) ≡ t)
unfolding follow candidates
next_follow r t hr ht n =
    tagged_out (next_of r t) t (nexts (after r)) (tags_agree r hr) (rw (at_most_one_lem r t hr ht) (entry_among (next_of r t) n))

-- the computed next row is 0 or a row 1 to 79
pub next_range : (r t : ℕ) → r < 80 → t < 34 → next_of r t < 80
next_range r t hr ht =
    by_cases (dec_lt 0 (next_of r t))
    (λ h.
    let f = next_follow r t hr ht (λ e. omega arith) in
    let k = follower_range r false (next_of r t) (rw first_follow f.0) in
    omega arith)
    (λ h. omega arith)

-- what stands before in a viable list is viable
pub viable_before : (w u : List ℕ) → Viable list842 (w ++ u) → Viable list842 w
viable_before w u (more, p) = (u ++ more, rw append_assoc at p)

-- a row that goes on may follow the last row and is no third
fits_follows : (w : List ℕ) (t y : ℕ) → Fits w t y
    → T (among (follow (last_of 0 w)) y) × (T (twice 0 false w) → max_of (last_of 0 w) ≡ 2 → y ≡ last_of 0 w → ⊥)
fits_follows w t y f =
    follower_follows (last_of 0 w) y (twice 0 false w) (snoc_follower w 0 false y (viable_runs (w ++ (y ∷ [])) f.viable))

-- a row that goes on is a row 1 to 79, so its tag number is below 34
pub fits_range : (w : List ℕ) (t y : ℕ) → Fits w t y → (1 ≤ y) × (y ≤ 79)
fits_range w t y f =
    follower_range (last_of 0 w) (twice 0 false w) y (snoc_follower w 0 false y (viable_runs (w ++ (y ∷ [])) f.viable))

-- nothing goes on with a number that is no tag's
pub fits_tag : (w : List ℕ) (t y : ℕ) → Fits w t y → t < 34
fits_tag w t y f =
    let k = fits_range w t y f in
    let h = tag_34 y k.0 k.1 in
    rw f.tagged at h

-- what goes on from w with the tag is the computed next row, and no third
pub fits_next : (w : List ℕ) (t y : ℕ) → Fits w t y
    → (y ≡ next_of (last_of 0 w) t) × (T (twice 0 false w) → max_of (last_of 0 w) ≡ 2 → y ≡ last_of 0 w → ⊥)
fits_next w t y f =
    let a = fits_follows w t y f in
    let h = last_range w (viable_before w (y ∷ []) f.viable) in
    (follow_next (last_of 0 w) y h a.0 ∙ ap (next_of (last_of 0 w)) f.tagged, a.1)

-- the computed next row goes on from a viable w, unless it is 0 or a third
pub next_fits : (w : List ℕ) → Viable list842 w → (t : ℕ) → t < 34 → next_of (last_of 0 w) t ≢ 0
    → (T (twice 0 false w) → max_of (last_of 0 w) ≡ 2 → next_of (last_of 0 w) t ≡ last_of 0 w → ⊥)
    → Fits w t (next_of (last_of 0 w) t)
next_fits w v t ht n third =
    let r = last_of 0 w in
    let f = next_follow r t (last_range w v) ht n in
    record {
      viable =
          runs_viable (w ++ (next_of r t ∷ []))
          (follower_snoc w 0 false (next_of r t) (viable_runs w v) (follows_follower r (next_of r t) (twice 0 false w) f.0 third));
      tagged = f.1;
    }

-- at most one row with the tag goes on from w
pub fits_once : (w : List ℕ) (t x y : ℕ) → Fits w t x → Fits w t y → x ≡ y
fits_once w t x y f g = (fits_next w t x f).0 ∙ sym (fits_next w t y g).0
