-- The language of 842's row list is local, the maximum of 2 counted apart: a list of rows is viable exactly if it starts at row 1, each row
-- is among those that may follow the one before, and no row of maximum 2 stands three times running. Here "may follow" is computed: what
-- is left depends only on the last row and on whether it stands there again, so a word is read as a run from state to state.
-- Assumes nothing.
use mathlib.Core.Path.{◌≡◌, refl, ap, sym, subst, ◌∙◌}
use mathlib.Core.Logic.{inl, inr}
use mathlib.Core.Bool.{Bool, true, false, not, cond}
use mathlib.Core.List.{List, [], ◌∷◌, ◌++◌, map, append-nil, nil≢cons, head-eq_of_cons-eq, tail-eq_of_cons-eq}
use Prim.Native.Nat.{ℕ, ◌<◌}
use native.Mathlib.Omega.{arith}
use lib.Dec.{T, eqb, eqb→eq, eqb_refl, lit<}
use Rattle.text.specs.Bytes.{among}
use Rattle.text.proofs.Bools.{or_left, or_right, or_cases, apart}
use Rattle.rows.specs.Rows.{Word, Viable, list842}
use Rattle.rows.specs.RowList.{max_of}
use Rattle.rows.proofs.NextRows.{Edge, nexts, after, edges842}
use Rattle.rows.specs.Following.{last_of, twice}
use Rattle.rows.proofs.Derivative.{Spells, OneOf, Begins, reads_begins, begins_reads, nil_idles, idles_nil, reads_some}
use Rattle.rows.proofs.Followers.{numbers, lefts, to, state, follow, followers, without}
use Rattle.rows.proofs.Followers.{lefts_to, idle_79, follower_range, first_follow, again_follow, start_follow}

-- no row of maximum 2 stands three times running, which is a third time in one pass
abbrev pub NoThird : List ℕ → Type 0
NoThird w = (a b : List ℕ) (r : ℕ) → max_of r ≡ 2 → w ≡ a ++ (r ∷ r ∷ r ∷ b) → ⊥

-- one step, from a state to a state
begins_state : (r x : ℕ) (w : List ℕ) (es : List Edge) → lefts es ≡ map (to r) es → OneOf (Begins x w) es
    → T (among (numbers es) x) × Spells (state x (eqb x r)) w
unfolding lefts to
begins_state r x w [] e h = absurd h
begins_state r x w (y ∷ es) e (inl (p, q)) =
    let l : y.left ≡ state x (eqb x r) = head-eq_of_cons-eq e ∙ ap (λ (k : ℕ). state k (eqb k r)) p in
    (or_left (eqb x y.number) (among (numbers es) x) (rw p (eqb_refl x)), rw l at q)
begins_state r x w (y ∷ es) e (inr h) =
    let i = begins_state r x w es (tail-eq_of_cons-eq e) h in
    (or_right (eqb x y.number) _ i.0, i.1)

state_begins : (r x : ℕ) (w : List ℕ) (es : List Edge) → lefts es ≡ map (to r) es → T (among (numbers es) x)
    → Spells (state x (eqb x r)) w → OneOf (Begins x w) es
unfolding lefts to
state_begins r x w [] e m q = absurd m
state_begins r x w (y ∷ es) e m q =
    or_cases (eqb x y.number) (among (numbers es) x)
    (λ t.
    let p = sym (eqb→eq x y.number t) in
    let l : y.left ≡ state x (eqb x r) = head-eq_of_cons-eq e ∙ ap (λ (k : ℕ). state k (eqb k r)) p in
    inl (p, rw l q))
    (λ m'. inr (state_begins r x w es (tail-eq_of_cons-eq e) m' q))
    m

-- a run from a state: each row is among the followers of the one before
unfoldable pub Runs : ℕ → Bool → List ℕ → Type 0
Runs r c [] = Unit {0}
Runs r c (x ∷ w) = T (among (followers r c) x) × Runs x (eqb x r) w

reads_runs : (w : List ℕ) (r : ℕ) (c : Bool) (v : List ℕ) → Spells (state r c) (w ++ v)
    → Runs r c w × Spells (state (last_of r w) (twice r c w)) v
unfolding Runs followers
reads_runs [] r c v h = (tt, h)
reads_runs (x ∷ w) r c v h =
    let s = begins_state r x (w ++ v) (nexts (state r c)) (lefts_to c r) (reads_begins (state r c) x (w ++ v) h) in
    let i = reads_runs w x (eqb x r) v s.1 in
    ((s.0, i.0), i.1)

runs_reads : (w : List ℕ) (r : ℕ) (c : Bool) (v : List ℕ) → Runs r c w → Spells (state (last_of r w) (twice r c w)) v
    → Spells (state r c) (w ++ v)
unfolding Runs followers
runs_reads [] r c v s h = h
runs_reads (x ∷ w) r c v s h =
    begins_reads (state r c) x (w ++ v)
    (state_begins r x (w ++ v) (nexts (state r c)) (lefts_to c r) s.0 (runs_reads w x (eqb x r) v s.1 h))

-- the start's state is the whole list
word_reads : (w : List ℕ) → Word list842 w → Spells (state 0 false) w
unfolding state after edges842
word_reads w p = (w, [], p, refl, append-nil w)

reads_word : (w : List ℕ) → Spells (state 0 false) w → Word list842 w
unfolding state after edges842
reads_word w (u, v, p, q, e) =
    let f : u ≡ w = sym (append-nil u) ∙ (rw q at e) in
    rw f at p

-- viable lists are the runs from the start
pub viable_runs : (w : List ℕ) → Viable list842 w → Runs 0 false w
viable_runs w (v, p) = (reads_runs w 0 false v (word_reads (w ++ v) p)).0

-- and back: a run goes on to a word
pub runs_viable : (w : List ℕ) → Runs 0 false w → Viable list842 w
runs_viable w s =
    let v = reads_some (state (last_of 0 w) (twice 0 false w)) in
    (v.0, reads_word (w ++ v.0) (runs_reads w 0 false v.0 s v.1))

-- the rows of a run, and its last, are rows of the list
pub run_last : (w : List ℕ) (r : ℕ) (c : Bool) → r < 80 → Runs r c w → last_of r w < 80
unfolding Runs
run_last [] r c h s = h
run_last (x ∷ w) r c h s =
    let k = follower_range r c x s.0 in
    run_last w x (eqb x r) (omega arith) s.1

-- a run from the start to row 79 is a word, and every word is one
pub word_runs : (w : List ℕ) → Word list842 w → Runs 0 false w × (last_of 0 w ≡ 79)
word_runs w p =
    let q = reads_runs w 0 false [] (rw append-nil (word_reads w p)) in
    let h = run_last w 0 false (lit< tt) q.0 in
    let t = nil_idles (state (last_of 0 w) (twice 0 false w)) q.1 in
    (q.0, eqb→eq (last_of 0 w) 79 (rw (idle_79 (twice 0 false w) (last_of 0 w) h) at t))

-- and back
pub runs_word : (w : List ℕ) → Runs 0 false w → last_of 0 w ≡ 79 → Word list842 w
runs_word w s e =
    let h = run_last w 0 false (lit< tt) s in
    let t = idles_nil (state (last_of 0 w) (twice 0 false w)) (rw (idle_79 (twice 0 false w) (last_of 0 w) h, e) tt) in
    reads_word w (rw append-nil at (runs_reads w 0 false [] s t))

-- a list without r has what the list has, but r
keep_without : (b : Bool) (r x y : ℕ) (l : List ℕ) → (T (not b) → y ≡ r → ⊥)
    → (T (among (without r l) x) → T (among l x) × (x ≡ r → ⊥))
    → T (among (cond b (without r l) (y ∷ without r l)) x) → T (among (y ∷ l) x) × (x ≡ r → ⊥)
keep_without true r x y l n ih m = (or_right (eqb x y) (among l x) (ih m).0, (ih m).1)
keep_without false r x y l n ih m =
    or_cases (eqb x y) (among (without r l) x)
    (λ t. (or_left (eqb x y) (among l x) t, λ e. n tt (sym (eqb→eq x y t) ∙ e)))
    (λ m'. (or_right (eqb x y) (among l x) (ih m').0, (ih m').1))
    m

without_has : (r x : ℕ) (l : List ℕ) → T (among (without r l) x) → T (among l x) × (x ≡ r → ⊥)
without_has r x [] m = absurd m
without_has r x (y ∷ l) m = keep_without (eqb y r) r x y l (apart y r) (λ m'. without_has r x l m') m

keep_with : (b : Bool) (r x y : ℕ) (l : List ℕ) → (T b → y ≡ r) → (x ≡ r → ⊥) → (T (among l x) → T (among (without r l) x))
    → T (among (y ∷ l) x) → T (among (cond b (without r l) (y ∷ without r l)) x)
keep_with true r x y l f n ih m = or_cases (eqb x y) (among l x) (λ t. absurd (n (eqb→eq x y t ∙ f tt))) ih m
keep_with false r x y l f n ih m =
    or_cases (eqb x y) (among l x)
    (λ t. or_left (eqb x y) (among (without r l) x) t)
    (λ m'. or_right (eqb x y) (among (without r l) x) (ih m'))
    m

has_without : (r x : ℕ) (l : List ℕ) → T (among l x) → (x ≡ r → ⊥) → T (among (without r l) x)
has_without r x [] m n = absurd m
has_without r x (y ∷ l) m n = keep_with (eqb y r) r x y l (eqb→eq y r) n (λ m'. has_without r x l m' n) m

struck_has : (b : Bool) (r x : ℕ) (l : List ℕ) → (T (not b) → max_of r ≡ 2 → ⊥) → T (among (cond b (without r l) l) x)
    → T (among l x) × (max_of r ≡ 2 → x ≡ r → ⊥)
struck_has true r x l n m = let p = without_has r x l m in (p.0, λ _. p.1)
struck_has false r x l n m = (m, λ e. absurd (n tt e))

has_struck : (b : Bool) (r x : ℕ) (l : List ℕ) → (T b → max_of r ≡ 2) → T (among l x) → (max_of r ≡ 2 → x ≡ r → ⊥)
    → T (among (cond b (without r l) l) x)
has_struck true r x l f m n = has_without r x l m (n (f tt))
has_struck false r x l f m n = m

-- a follower may follow and is no third
pub follower_follows : (r x : ℕ) (c : Bool) → T (among (followers r c) x)
    → T (among (follow r) x) × (T c → max_of r ≡ 2 → x ≡ r → ⊥)
follower_follows r x false m = (rw first_follow at m, λ t. absurd t)
follower_follows r x true m =
    let p = struck_has (eqb (max_of r) 2) r x (follow r) (apart (max_of r) 2) (rw again_follow at m) in
    (p.0, λ _. p.1)

-- and back
pub follows_follower : (r x : ℕ) (c : Bool) → T (among (follow r) x) → (T c → max_of r ≡ 2 → x ≡ r → ⊥)
    → T (among (followers r c) x)
follows_follower r x false m n = rw first_follow m
follows_follower r x true m n = rw again_follow (has_struck (eqb (max_of r) 2) r x (follow r) (eqb→eq (max_of r) 2) m (n tt))

-- each row of w may follow the one before it, and the first of them r
abbrev pub Linked : ℕ → List ℕ → Type 0
Linked r [] = Unit {0}
Linked r (x ∷ w) = T (among (follow r) x) × Linked x w

-- what a run asks besides: no third of a row of maximum 2
unfoldable Counted : ℕ → Bool → List ℕ → Type 0
Counted r c [] = Unit {0}
Counted r c (x ∷ w) = (T c → max_of r ≡ 2 → x ≡ r → ⊥) × Counted x (eqb x r) w

runs_linked : (w : List ℕ) (r : ℕ) (c : Bool) → Runs r c w → Linked r w × Counted r c w
unfolding Runs Counted
runs_linked [] r c s = (tt, tt)
runs_linked (x ∷ w) r c s =
    let a = follower_follows r x c s.0 in
    let i = runs_linked w x (eqb x r) s.1 in
    ((a.0, i.0), (a.1, i.1))

linked_runs : (w : List ℕ) (r : ℕ) (c : Bool) → Linked r w → Counted r c w → Runs r c w
unfolding Runs Counted
linked_runs [] r c l n = tt
linked_runs (x ∷ w) r c l n = (follows_follower r x c l.0 n.0, linked_runs w x (eqb x r) l.1 n.1)

-- the same said of the whole list: at each place of it no third begins
Third : ℕ → List ℕ → Type 0
Third p w = max_of p ≡ 2 → (b : List ℕ) → w ≡ p ∷ p ∷ b → ⊥

Sparse : List ℕ → Type 0
Sparse [] = Unit {0}
Sparse (p ∷ w) = Third p w × Sparse w

sparse_no_third : (w : List ℕ) → Sparse w → NoThird w
unfolding Sparse Third
sparse_no_third [] s [] b r m e = nil≢cons e
sparse_no_third [] s (y ∷ a) b r m e = nil≢cons e
sparse_no_third (p ∷ w) s [] b r m e =
    let f : p ≡ r = head-eq_of_cons-eq e in
    s.0 (rw f m) b (rw f (tail-eq_of_cons-eq e))
sparse_no_third (p ∷ w) s (y ∷ a) b r m e = sparse_no_third w s.1 a b r m (tail-eq_of_cons-eq e)

no_third_sparse : (w : List ℕ) → NoThird w → Sparse w
unfolding Sparse Third
no_third_sparse [] n = tt
no_third_sparse (p ∷ w) n = (
  λ m b e. n [] b p m (ap (λ (l : List ℕ). p ∷ l) e),
  no_third_sparse w (λ a b r m e. n (p ∷ a) b r m (ap (λ (l : List ℕ). p ∷ l) e)),
)

-- what stands before: the row once or twice
standing : ℕ → Bool → List ℕ → List ℕ
standing r false w = r ∷ w
standing r true w = r ∷ r ∷ w

-- one more row before: r, and then x once or twice
sparse_before : (b : Bool) (r x : ℕ) (w : List ℕ) → (T b → x ≡ r) → (T (not b) → x ≡ r → ⊥) → Sparse (standing x b w)
    → Sparse (r ∷ x ∷ w)
unfolding standing Sparse Third
sparse_before true r x w y n s = subst (λ (k : ℕ). Sparse (k ∷ x ∷ w)) (y tt) s
sparse_before false r x w y n s = (λ m b e. n tt (head-eq_of_cons-eq e), s)

sparse_behind : (b : Bool) (r x : ℕ) (w : List ℕ) → (T b → x ≡ r) → Sparse (r ∷ x ∷ w) → Sparse (standing x b w)
unfolding standing Sparse Third
sparse_behind true r x w y s = subst (λ (k : ℕ). Sparse (k ∷ x ∷ w)) (sym (y tt)) s
sparse_behind false r x w y s = s.1

counted_sparse : (w : List ℕ) (r : ℕ) (c : Bool) → Counted r c w → Sparse (standing r c w)
unfolding standing Sparse Third Counted
counted_sparse [] r false n = (λ m b e. nil≢cons e, tt)
counted_sparse [] r true n = (λ m b e. nil≢cons (tail-eq_of_cons-eq e), (λ m b e. nil≢cons e, tt))
counted_sparse (x ∷ w) r false n =
    sparse_before (eqb x r) r x w (eqb→eq x r) (apart x r) (counted_sparse w x (eqb x r) n.1)
counted_sparse (x ∷ w) r true n = (
  λ m b e. n.0 tt m (head-eq_of_cons-eq (tail-eq_of_cons-eq e)),
  sparse_before (eqb x r) r x w (eqb→eq x r) (apart x r) (counted_sparse w x (eqb x r) n.1),
)

sparse_counted : (w : List ℕ) (r : ℕ) (c : Bool) → Sparse (standing r c w) → Counted r c w
unfolding standing Sparse Third Counted
sparse_counted [] r c s = tt
sparse_counted (x ∷ w) r false s =
    (λ t. absurd t, sparse_counted w x (eqb x r) (sparse_behind (eqb x r) r x w (eqb→eq x r) s))
sparse_counted (x ∷ w) r true s = (
  λ _ m e. s.0 m w (ap (λ (k : ℕ). r ∷ k ∷ w) e),
  sparse_counted w x (eqb x r) (sparse_behind (eqb x r) r x w (eqb→eq x r) s.1),
)

-- the theorem with computed followers
pub record Local (x : ℕ) (w : List ℕ) : Type 0 where
  pub starts : x ≡ 1
  pub linked : Linked x w
  pub sparse : NoThird (x ∷ w)

only_one : (x : ℕ) → T (among (1 ∷ []) x) → x ≡ 1
only_one x m = or_cases (eqb x 1) false (λ t. eqb→eq x 1 t) (λ h. absurd h) m

-- a run from the start has it
pub runs_local : (x : ℕ) (w : List ℕ) → Runs 0 false (x ∷ w) → Local x w
unfolding standing Sparse
runs_local x w s =
    let a = runs_linked (x ∷ w) 0 false s in
    record {
      starts = only_one x (rw start_follow at a.0.0);
      linked = a.0.1;
      sparse = sparse_no_third (x ∷ w) (counted_sparse (x ∷ w) 0 false a.1).1;
    }

-- and what has it is a run from the start
pub local_runs : (x : ℕ) (w : List ℕ) → Local x w → Runs 0 false (x ∷ w)
unfolding standing Sparse Third
local_runs x w l =
    linked_runs (x ∷ w) 0 false (rw (start_follow, l.starts) tt, l.linked)
    (sparse_counted (x ∷ w) 0 false (
      λ m b e. let z : ◌≡◌ {A = ℕ} 1 0 = sym l.starts ∙ head-eq_of_cons-eq e in omega arith,
      no_third_sparse (x ∷ w) l.sparse,
    ))
