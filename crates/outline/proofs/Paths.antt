-- The laws of paths. Of two paths one is sooner, or they are equal, and never both; what is sooner than a level's path is sooner than its parent's,
-- or that path itself, or turns off from it at an earlier sibling. The path of a fit level is its parent's and then itself.
-- Assumes nothing.
use Prim.Native.Nat.{ℕ, zero, suc, ◌≤◌, ◌<◌}
use mathlib.Core.Path.{◌≡◌, refl, sym, ap, ◌∙◌}
use mathlib.Core.Logic.{inl, inr, ⊎_elim, by_cases}
use mathlib.Core.List.{List, [], ◌∷◌, ◌++◌}
use native.Mathlib.Omega.{arith}
use native.Mathlib.Decide.{dec_lt}
use native.Mathlib.Numerals.{add-one}
use Rattle.outline.specs.Outline.{parent_in, depth_in, path_to, Sooner}
use Rattle.outline.specs.Walks.{Top, Hangs, Fit}

-- of two numbers one is less, or they are equal
pub three_ways : {C : Type 0} (i j : ℕ) → (i < j → C) → (j < i → C) → (i ≡ j → C) → C
three_ways i j l g e = by_cases (dec_lt i j) l (λ n. by_cases (dec_lt j i) g (λ m. e (omega arith)))

-- of two paths at most one is the sooner
pub sooner_not_both : (p q : List ℕ) → Sooner p q → Sooner q p → ⊥
sooner_not_both [] [] s r = s
sooner_not_both [] (y ∷ q) s r = r
sooner_not_both (x ∷ p) [] s r = s
sooner_not_both (x ∷ p) (y ∷ q) (inl a) (inl b) = omega arith
sooner_not_both (x ∷ p) (y ∷ q) (inl a) (inr b) = omega (arith, b.0)
sooner_not_both (x ∷ p) (y ∷ q) (inr a) (inl b) = omega (arith, a.0)
sooner_not_both (x ∷ p) (y ∷ q) (inr a) (inr b) = sooner_not_both p q a.1 b.1

-- no path is sooner than itself
pub sooner_not_self : (p : List ℕ) → Sooner p p → ⊥
sooner_not_self p s = sooner_not_both p p s s

-- no path is sooner than the empty one
pub sooner_not_empty : (p : List ℕ) → Sooner p [] → ⊥
sooner_not_empty [] s = s
sooner_not_empty (x ∷ p) s = s

-- how two paths compare
pub data Compared (p q : List ℕ) : Type 0 where
  equal : p ≡ q → Compared p q
  sooner : Sooner p q → Compared p q
  later : Sooner q p → Compared p q

compared_behind : {x y : ℕ} {p q : List ℕ} → x ≡ y → Compared p q → Compared (x ∷ p) (y ∷ q)
compared_behind e (equal f) = equal (λ i. e i ∷ f i)
compared_behind e (sooner s) = sooner (inr (e, s))
compared_behind e (later s) = later (inr (sym e, s))

-- they are equal, or one is sooner
pub compared : (p q : List ℕ) → Compared p q
compared [] [] = equal refl
compared [] (y ∷ q) = sooner tt
compared (x ∷ p) [] = later tt
compared (x ∷ p) (y ∷ q) = three_ways x y (λ l. sooner (inl l)) (λ g. later (inl g)) (λ e. compared_behind e (compared p q))

-- where two paths part, the lesser level decides
pub sooner_aside : (p : List ℕ) (a b : ℕ) (u v : List ℕ) → a < b → Sooner (p ++ (a ∷ u)) (p ++ (b ∷ v))
sooner_aside [] a b u v l = inl l
sooner_aside (x ∷ p) a b u v l = inr (refl, sooner_aside p a b u v l)

-- a path is sooner than one that leads further
pub sooner_further : (p : List ℕ) (c : ℕ) (r : List ℕ) → Sooner p (p ++ (c ∷ r))
sooner_further [] c r = tt
sooner_further (x ∷ p) c r = inr (refl, sooner_further p c r)

-- path p is sooner than q, or is q, or turns off from q with a lesser level than b
pub data Before (p q : List ℕ) (b : ℕ) : Type 0 where
  ahead : Sooner p q → Before p q b
  same : p ≡ q → Before p q b
  aside : (c : ℕ) (r : List ℕ) → c < b → p ≡ q ++ (c ∷ r) → Before p q b

before_behind : {x y b : ℕ} {p q : List ℕ} → x ≡ y → Before p q b → Before (x ∷ p) (y ∷ q) b
before_behind e (ahead s) = ahead (inr (e, s))
before_behind e (same f) = same (λ i. e i ∷ f i)
before_behind e (aside c r l f) = aside c r l (λ i. e i ∷ f i)

-- so is what is sooner than q and then b
pub before : (p q : List ℕ) (b : ℕ) → Sooner p (q ++ (b ∷ [])) → Before p q b
before [] [] b s = same refl
before [] (y ∷ q) b s = ahead tt
before (x ∷ p) [] b (inl l) = aside x p l refl
before (x ∷ p) [] b (inr s) = absurd (sooner_not_empty p s.1)
before (x ∷ p) (y ∷ q) b (inl l) = ahead (inl l)
before (x ∷ p) (y ∷ q) b (inr s) = before_behind s.0 (before p q b s.1)

-- what lies between a path and one with one level more leads further from it
pub between_leads : (p q : List ℕ) (k : ℕ) → Sooner q p → Sooner p (q ++ (k ∷ [])) → (c : ℕ) × (r : List ℕ) × (p ≡ q ++ (c ∷ r))
between_leads p q k s u = by_value (before p q k u)
  where
    by_value : Before p q k → (c : ℕ) × (r : List ℕ) × (p ≡ q ++ (c ∷ r))
    by_value (ahead a) = absurd (sooner_not_both p q a s)
    by_value (same e) = absurd (sooner_not_self q (rw e at s))
    by_value (aside c r l e) = (c, r, e)

-- the last level of a path, 0 of the empty one
abbrev pub end_of : List ℕ → ℕ
end_of [] = 0
end_of (x ∷ []) = x
end_of (x ∷ (y ∷ p)) = end_of (y ∷ p)

end_of_longer : (p : List ℕ) (k : ℕ) → end_of (p ++ (k ∷ [])) ≡ k
end_of_longer [] k = refl
end_of_longer (x ∷ []) k = refl
end_of_longer (x ∷ (y ∷ p)) k = end_of_longer (y ∷ p) k

module _ (t : List ℕ) where
  -- the path of a level without parent is itself
  pub top_path : (k : ℕ) → Top t k → path_to t k ≡ k ∷ []
  top_path k top = rw top.depth

  -- the path of a level with a parent is the parent's, and then itself
  pub hanging_path : (k : ℕ) → Hangs t k → path_to t k ≡ path_to t (parent_in t k) ++ (k ∷ [])
  hanging_path k h = rw (h.depth, add-one (depth_in t (parent_in t k)))

  -- the path of a level; that of 0, which is above all levels, is empty
  abbrev pub path_of_in : ℕ → List ℕ
  path_of_in zero = []
  path_of_in (suc k) = path_to t (suc k)

  -- of a level the two are one
  pub path_of : (k : ℕ) → 1 ≤ k → path_of_in k ≡ path_to t k
  path_of zero h = absurd (omega arith)
  path_of (suc k) h = refl

  -- the path of a fit level is that of what is above it, and then itself
  pub fit_path : (k : ℕ) → Fit t k → path_to t k ≡ path_of_in (parent_in t k) ++ (k ∷ [])
  fit_path k f =
      ⊎_elim (λ top. rw top.parent (top_path k top)) (λ h. rw (path_of (parent_in t k) h.parent_from) (hanging_path k h)) f.hangs

  -- so it ends with the level
  pub path_end : (k : ℕ) → Fit t k → end_of (path_to t k) ≡ k
  path_end k f = rw (fit_path k f) (end_of_longer (path_of_in (parent_in t k)) k)

  -- and equal paths have equal levels
  pub same_path : (a b : ℕ) → Fit t a → Fit t b → path_to t a ≡ path_to t b → a ≡ b
  same_path a b f g e = sym (path_end a f) ∙ ap end_of e ∙ path_end b g
