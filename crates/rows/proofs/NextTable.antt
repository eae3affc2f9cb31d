-- The next-row table: the one computed from the row list keeps the promise at all 2,686 places, and no other table does. At each place the
-- computed next row is the one row that may follow, since there never are two candidates.
-- Assumes nothing.
use mathlib.Core.Path.{◌≡◌, refl, sym, ap, ◌∙◌}
use mathlib.Core.Logic.{by_cases}
use mathlib.Core.Bool.{false}
use mathlib.Core.List.{List, [], ◌∷◌, ◌++◌, append_assoc}
use Prim.Native.Nat.{ℕ, zero, suc, ◌+◌, ◌-◌, ◌*◌, ◌/◌, ◌%◌, ◌<◌, ◌≤◌}
use native.Mathlib.Nat.{not-suc-le-zero, le_of_suc-le-suc, zero-mul, suc-mul, zero-add}
use native.Mathlib.Omega.{arith}
use native.Mathlib.Decide.{dec_lt}
use lib.ListN.{get_or, length, get_or-append}
use lib.Seq.{get_or-append-add, ext_get_or}
use Rattle.text.proofs.Tables.{tab}
use Rattle.rows.specs.Rows.{Viable, list842}
use Rattle.rows.specs.RowList.{tag_of}
use Rattle.rows.specs.Following.{MayFollow, OneFollows}
use Rattle.rows.specs.NextTable.{entry_for, Entry, NextTable}
use Rattle.rows.proofs.NextRows.{next_of}
use Rattle.rows.proofs.Followers.{follower_range, first_follow}
use Rattle.rows.proofs.Viability.{follow_may, may_follow}
use Rattle.rows.proofs.FittingRow.{follow_next, next_follow, viable_before, fits_range}

-- the one row that may follow with a tag is one
pub one_follows_once : (r t x y : ℕ) → OneFollows r t x → OneFollows r t y → x ≡ y
one_follows_once r t x y a b =
    by_cases (dec_lt 0 x)
    (λ h. let f = a.follows (λ e. omega arith) in (b.alone x f.0 f.1).0)
    (λ h.
    by_cases (dec_lt 0 y)
    (λ k. let f = b.follows (λ e. omega arith) in sym (a.alone y f.0 f.1).0)
    (λ k. omega arith))

entry_once : (r t e f : ℕ) → Entry r t e → Entry r t f → e ≡ f
entry_once r t e f a b =
    a.entered ∙ ap (entry_for t) (one_follows_once r t a.next b.next a.one b.one) ∙ sym b.entered

-- two tables that keep the promise are equal
pub next_table_once : (table other : List ℕ) → NextTable table → NextTable other → table ≡ other
next_table_once table other p q =
    ext_get_or 0 table other (p.size ∙ sym q.size)
    (λ k h.
    let b : k < 2686 = rw p.size at h in
    let e : (k / 34 + 1 - 1) * 34 + k % 34 ≡ k = omega arith in
    let s = p.entries (k / 34 + 1) (k % 34) (omega arith) (omega arith) (omega arith) in
    let t = q.entries (k / 34 + 1) (k % 34) (omega arith) (omega arith) (omega arith) in
    rw e at (entry_once (k / 34 + 1) (k % 34) _ _ s t))

-- n lines of m entries
abbrev grid_of : ℕ → ℕ → (ℕ → ℕ → ℕ) → List ℕ
grid_of zero m f = []
grid_of (suc n) m f = tab m (f 0) ++ grid_of n m (λ k. f (suc k))

line_length : (n : ℕ) (f : ℕ → ℕ) → length (tab n f) ≡ n
unfolding tab
line_length zero f = refl
line_length (suc n) f = ap suc (line_length n (λ k. f (suc k)))

line_at : (n : ℕ) (f : ℕ → ℕ) (k : ℕ) → k < n → get_or (tab n f) k 0 ≡ f k
unfolding tab
line_at zero f k h = absurd (not-suc-le-zero h)
line_at (suc n) f zero h = refl
line_at (suc n) f (suc k) h = line_at n (λ k. f (suc k)) k (le_of_suc-le-suc h)

-- the entry of a grid at line i and place j
grid_at : (n m : ℕ) (f : ℕ → ℕ → ℕ) (i j : ℕ) → i < n → j < m → get_or (grid_of n m f) (i * m + j) 0 ≡ f i j
grid_at zero m f i j hi hj = absurd (not-suc-le-zero hi)
grid_at (suc n) m f zero j hi hj =
    rw (zero-mul, zero-add)
    (get_or-append (tab m (f 0)) (grid_of n m (λ k. f (suc k))) 0 j (rw line_length hj) ∙ line_at m (f 0) j hj)
grid_at (suc n) m f (suc i) j hi hj =
    let e : suc i * m + j ≡ length (tab m (f 0)) + (i * m + j) = rw (line_length m (f 0), suc-mul) (omega arith) in
    rw e
    (get_or-append-add (tab m (f 0)) (grid_of n m (λ k. f (suc k))) (i * m + j) 0
    ∙ grid_at n m (λ k. f (suc k)) i j (le_of_suc-le-suc hi) hj)

-- a row that may be followed is a row of the list
before_range : (r x : ℕ) → MayFollow r x → (1 ≤ r) × (r ≤ 79)
before_range r x (w, v) =
    let v' : Viable list842 ((w ++ (r ∷ [])) ++ (x ∷ [])) = rw (append_assoc w (r ∷ []) (x ∷ [])) v in
    fits_range w (tag_of r) r (record { viable = viable_before (w ++ (r ∷ [])) (x ∷ []) v'; tagged = refl })

-- no place has two candidates
pub one_candidate : (r x y : ℕ) → MayFollow r x → MayFollow r y → tag_of x ≡ tag_of y → x ≡ y
one_candidate r x y p q e =
    let k = before_range r x p in
    follow_next r x (omega arith) (may_follow r x p) ∙ ap (next_of r) e ∙ sym (follow_next r y (omega arith) (may_follow r y q))

-- the computed next row is the one row that may follow
pub next_one : (r t : ℕ) → 1 ≤ r → r ≤ 79 → t < 34 → OneFollows r t (next_of r t)
next_one r t lo hi ht = record {
  follows = λ n. let f = next_follow r t (omega arith) ht n in (follow_may r (next_of r t) lo hi f.0, f.1);
  alone = λ y p e.
      let m = may_follow r y p in
      let k = follower_range r false y (rw first_follow m) in
      let f : y ≡ next_of r t = follow_next r y (omega arith) m ∙ ap (next_of r) e in
      (f, λ z. omega arith);
}

-- the table computed from the row list, 79 rows by 34 tags
unfoldable pub computed_table : List ℕ
computed_table = grid_of 79 34 (λ r t. entry_for t (next_of (suc r) t))

-- keeps the promise
pub computed_keeps : NextTable computed_table
unfolding computed_table tab
computed_keeps = record {
  size = refl;
  entries = λ r t lo hi ht.
      let b : suc (r - 1) ≡ r = omega arith in
      record {
        next = next_of r t;
        one = next_one r t lo hi ht;
        entered =
            grid_at 79 34 (λ r t. entry_for t (next_of (suc r) t)) (r - 1) t (omega arith) ht
            ∙ ap (λ (k : ℕ). entry_for t (next_of k t)) b;
      };
}
