-- Behind the last stray a level's children end where a level is no deeper. There a level's parent is the latest before it that is less deep, so
-- what stands between the two is at least as deep as the level.
-- Assumes nothing.
use Prim.Native.Nat.{ℕ, zero, suc, ◌-◌, ◌<◌, ◌≤◌}
use mathlib.Core.Path.{◌≡◌}
use mathlib.Core.Logic.{◌⊎◌, inl, inr}
use mathlib.Core.List.{List}
use native.Mathlib.Omega.{arith}
use lib.Dec.{eqb, leb, eqb→eq, nleb→lt, not_T}
use borrow.Author.Count.{below_more}
use Rattle.text.proofs.Bools.{cond_cases}
use Rattle.outline.specs.Outline.{parent_in, depth_in}
use Rattle.outline.specs.Walks.{Top, Hangs, FitTable}
use Rattle.outline.specs.internal.Listing.{depth_of}
use Rattle.outline.specs.internal.Straying.{latest, last_stray}

-- the levels behind the latest of a depth are deeper
deeper_behind : (t : List ℕ) (depth k j : ℕ) → j ≤ k → latest t depth k < j → depth < depth_in t j
unfolding latest
deeper_behind t depth zero j upto behind = absurd (omega arith)
deeper_behind t depth (suc k) j upto behind =
    let shallow = leb (depth_in t (suc k)) depth in
    cond_cases (λ (n : ℕ). n < j → depth < depth_in t j) shallow (suc k) (latest t depth k)
    (λ b h. absurd (omega arith))
    (λ b. below_more _ (suc k) (λ n u. deeper_behind t depth k n (omega arith)) (λ h. nleb→lt _ depth (not_T shallow b)) j (omega arith))
    behind

-- behind the last stray a level's parent is the latest before it that is less deep
parent_latest : (t : List ℕ) (count k : ℕ) → k < count → last_stray t count < suc k → parent_in t (suc k) ≡ latest t (depth_in t (suc k) - 1) k
unfolding last_stray
parent_latest t zero k upto behind = absurd (omega arith)
parent_latest t (suc n) k upto behind =
    cond_cases (λ (m : ℕ). m < suc k → parent_in t (suc k) ≡ latest t (depth_in t (suc k) - 1) k)
    (eqb (parent_in t (suc n)) (latest t (depth_in t (suc n) - 1) n)) (last_stray t n) (suc n)
    (λ b. below_more _ n (λ m u. parent_latest t n m u) (λ h. eqb→eq _ _ b) k (omega arith))
    (λ b h. absurd (omega arith))
    behind

-- behind the last stray no child of a level stands behind one that is no deeper than that level
pub settled : (t : List ℕ) (count : ℕ) → FitTable t count → (of j c : ℕ) → last_stray t count < j → of < j → j < c → c ≤ count
    → depth_in t j ≤ depth_of t of → parent_in t c ≡ of → ⊥
settled t count fit of j zero stray behind before upto shallow hangs = omega arith
settled t count fit of j (suc k) stray behind before upto shallow hangs =
    let parent = parent_latest t count k (omega arith) (omega arith) in
    by_parent of shallow hangs (deeper_behind t (depth_in t (suc k) - 1) k j (omega arith) (omega arith)) (fit (suc k) (omega arith) upto).hangs
  where
    by_parent : (p : ℕ) → depth_in t j ≤ depth_of t p → parent_in t (suc k) ≡ p → depth_in t (suc k) - 1 < depth_in t j
        → Top t (suc k) ⊎ Hangs t (suc k) → ⊥
    by_parent zero s e deep h = omega arith
    by_parent (suc p) s e deep (inl top) = omega (arith, top.parent)
    by_parent (suc p) s e deep (inr under) =
        let above : depth_in t (parent_in t (suc k)) ≡ depth_in t (suc p) = rw e in
        omega (arith, under.depth)
