-- Levels above a level, by the parent numbers and by the path. Parents go down in number, so that no level hangs under one with the same parent;
-- and where a path leads further from that of a level q, it goes by a child of q.
-- Assumes nothing.
use Prim.Native.Nat.{ℕ, zero, suc, ◌≤◌, ◌<◌}
use mathlib.Core.Path.{◌≡◌, refl, sym, ap, ◌∙◌}
use mathlib.Core.Logic.{◌⊎◌, inl, inr, ⊎_elim}
use mathlib.Core.List.{List, [], ◌∷◌, ◌++◌, head-eq_of_cons-eq, tail-eq_of_cons-eq}
use native.Mathlib.Omega.{arith}
use lib.ListN.{length, length-append}
use Rattle.outline.specs.Outline.{parent_in, path_to}
use Rattle.outline.specs.Nested.{Under, child, further}
use Rattle.outline.specs.Walks.{FitTable}
use Rattle.outline.proofs.FitLevels.{parent_earlier}
use Rattle.outline.proofs.Paths.{end_of, path_of_in, path_of, fit_path, path_end}

-- one of the levels
abbrev pub IsLevel : (count k : ℕ) → Type 0
IsLevel count k = (1 ≤ k) × (k ≤ count)

-- what hangs under a level hangs under all that this one hangs under
pub under_under : {t : List ℕ} {a b k : ℕ} → Under t a b → Under t b k → Under t a k
under_under u (child k e) = further k (rw e u)
under_under u (further k v) = further k (under_under u v)

-- the way from q down to level a goes by level c
pub record Branch (t : List ℕ) (count : ℕ) (q c a : ℕ) : Type 0 where
  pub level : IsLevel count c
  pub parent : parent_in t c ≡ q
  pub leads : (c ≡ a) ⊎ Under t c a

-- so a hangs under q
pub branch_under : {t : List ℕ} {count q c a : ℕ} → Branch t count q c a → Under t q a
branch_under {c = c} b = let u = child c b.parent in ⊎_elim (λ e. rw e at u) (under_under u) b.leads

-- where c stands, next behind q, in a path that is p and then a: it is a, or it stands in p
data Stands (p q : List ℕ) (a c : ℕ) : Type 0 where
  last : p ≡ q → a ≡ c → Stands p q a c
  inner : (r : List ℕ) → p ≡ q ++ (c ∷ r) → Stands p q a c

stands_behind : {x y a c : ℕ} {p q : List ℕ} → x ≡ y → Stands p q a c → Stands (x ∷ p) (y ∷ q) a c
stands_behind e (last f g) = last (λ i. e i ∷ f i) g
stands_behind e (inner r f) = inner r (λ i. e i ∷ f i)

stands : (p q : List ℕ) (a c : ℕ) (r : List ℕ) → p ++ (a ∷ []) ≡ q ++ (c ∷ r) → Stands p q a c
stands [] [] a c r e = last refl (head-eq_of_cons-eq e)
stands [] (y ∷ q) a c r e = absurd (omega (arith, simp length-append at (ap length e)))
stands (x ∷ p) [] a c r e = inner p (λ i. head-eq_of_cons-eq e i ∷ p)
stands (x ∷ p) (y ∷ q) a c r e = stands_behind (head-eq_of_cons-eq e) (stands p q a c r (tail-eq_of_cons-eq e))

module _ (t : List ℕ) (count : ℕ) (fit : FitTable t count) where
  -- the path of a level is that of what is above it, and then itself
  pub level_path : (k : ℕ) → IsLevel count k → path_to t k ≡ path_of_in t (parent_in t k) ++ (k ∷ [])
  level_path k b = fit_path t k (fit k b.0 b.1)

  -- it ends with the level, and so, as it were, does the empty path of 0
  path_of_end : (k : ℕ) → k ≤ count → end_of (path_of_in t k) ≡ k
  path_of_end zero g = refl
  path_of_end (suc k) g = path_end t (suc k) (fit (suc k) (omega arith) g)

  -- equal paths have equal levels
  pub same_path_of : (a b : ℕ) → a ≤ count → b ≤ count → path_of_in t a ≡ path_of_in t b → a ≡ b
  same_path_of a b g h e = sym (path_of_end a g) ∙ ap end_of e ∙ path_of_end b h

  -- a level's parent has a lesser number
  pub parent_less : (k : ℕ) → IsLevel count k → parent_in t k < k
  parent_less k b = parent_earlier t k (fit k b.0 b.1) b.0

  -- and so no greater one, 0 counted in
  parent_at_most : (k : ℕ) → 1 ≤ count → k ≤ count → parent_in t k ≤ k
  parent_at_most zero o g = omega (arith, parent_less 1 (omega arith, o))
  parent_at_most (suc k) o g = omega (arith, parent_less (suc k) (omega arith, g))

  -- what hangs under a level has a parent no less than it
  pub under_parent : {a k : ℕ} → 1 ≤ count → k ≤ count → Under t a k → a ≤ parent_in t k
  under_parent o g (child k e) = omega arith
  under_parent o g (further k u) =
      let le = parent_at_most k o g in
      omega (arith, under_parent o (omega arith) u, parent_at_most (parent_in t k) o (omega arith))

  -- so no level hangs under one with the same parent
  pub siblings_apart : (a b : ℕ) → IsLevel count a → IsLevel count b → parent_in t a ≡ parent_in t b → Under t a b → ⊥
  siblings_apart a b x y e u = omega (arith, parent_less a x, under_parent (omega arith) y.1 u)

  -- the way down to a level goes by that level, or by one on the way down to its parent
  step : (q c a : ℕ) → q ≤ count → IsLevel count a → Stands (path_of_in t (parent_in t a)) (path_of_in t q) a c
      → ((r : List ℕ) → path_of_in t (parent_in t a) ≡ path_of_in t q ++ (c ∷ r) → Branch t count q c (parent_in t a)) → Branch t count q c a
  step q c a g b (last f e) up =
      let less = parent_less a b in
      record { level = (omega arith, omega arith); parent = rw (← e) (same_path_of (parent_in t a) q (omega arith) g f); leads = inl (sym e) }
  step q c a g b (inner r f) up =
      let o = up r f in
      record { level = o.level; parent = o.parent; leads = inr (⊎_elim (λ e. child a (sym e)) (further a) o.leads) }

  steps : (n q c a : ℕ) → a < n → q ≤ count → a ≤ count → (r : List ℕ) → path_of_in t a ≡ path_of_in t q ++ (c ∷ r) → Branch t count q c a
  steps zero q c a l g h r e = absurd (omega arith)
  steps (suc n) q c zero l g h r e = absurd (omega (arith, simp length-append at (ap length e)))
  steps (suc n) q c (suc k) l g h r e =
      let b : IsLevel count (suc k) = (omega arith, h) in
      let less = parent_less (suc k) b in
      step q c (suc k) g b (stands (path_of_in t (parent_in t (suc k))) (path_of_in t q) (suc k) c r (sym (level_path (suc k) b) ∙ e))
      (steps n q c (parent_in t (suc k)) (omega arith) g (omega arith))

  -- a path that leads further from that of q goes by a child of q
  pub branch : (q c a : ℕ) → q ≤ count → IsLevel count a → (r : List ℕ) → path_to t a ≡ path_of_in t q ++ (c ∷ r) → Branch t count q c a
  branch q c a g b r e = steps (suc a) q c a (omega arith) g b.1 r (path_of t a b.0 ∙ e)
