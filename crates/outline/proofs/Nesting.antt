-- An outline of a fit table nests, and what nests is an outline; so two lists that nest are equal.
-- There: a path between a level's and its child's leads further from the level. Back: let the path of a be sooner than that of b. By induction
-- along the parents of b, a comes before b's parent, or is it, or is at or under an earlier sibling c of b. Then b stands behind c; and not before a,
-- since all that stands between c and a hangs under c.
-- Assumes nothing.
use Prim.Native.Nat.{ℕ, zero, suc, ◌≤◌, ◌<◌}
use mathlib.Core.Path.{◌≡◌, sym, ◌∙◌}
use mathlib.Core.Logic.{⊎_elim, by_cases}
use mathlib.Core.List.{List, [], ◌∷◌, ◌++◌}
use native.Mathlib.Omega.{arith}
use native.Mathlib.Decide.{dec_lt}
use Rattle.outline.specs.Outline.{parent_in, path_to, Sooner, At, Outline}
use Rattle.outline.specs.Nested.{Under, child, further, Nested}
use Rattle.outline.specs.Walks.{FitTable}
use Rattle.outline.proofs.Paths.{three_ways, sooner_not_both, sooner_not_self, sooner_not_empty, sooner_aside, sooner_further}
use Rattle.outline.proofs.Paths.{Compared, equal, sooner, later, compared, Before, ahead, same, aside, before, between_leads, path_of_in, path_of, same_path}
use Rattle.outline.proofs.Orders.{outline_once}
use Rattle.outline.proofs.Lineage.{under_under, Branch, branch_under, level_path, same_path_of, parent_less, under_parent, siblings_apart, branch}

-- two levels at one place are one
one_level : (l : List ℕ) (i j a b : ℕ) → At l i a → At l j b → i ≡ j → a ≡ b
one_level l i j a b x y e = sym x.is ∙ rw e y.is

module _ (t : List ℕ) (count : ℕ) (fit : FitTable t count) (l : List ℕ) (o : Outline t count l) where
  -- no level has two places
  not_twice : (i j k : ℕ) → At l i k → At l j k → i < j → ⊥
  not_twice i j k x y h = sooner_not_self (path_to t k) (o.in_order i j k k x y h)

  -- the sooner path has the earlier place
  sooner_earlier : (i j a b : ℕ) → At l i a → At l j b → Sooner (path_to t a) (path_to t b) → i < j
  sooner_earlier i j a b x y s =
      three_ways i j (λ h. h) (λ h. absurd (sooner_not_both (path_to t a) (path_to t b) s (o.in_order j i b a y x h)))
      (λ e. absurd (sooner_not_self (path_to t b) (rw (one_level l i j a b x y e) at s)))

  -- the path of a level that has a place, and of its parent where that has one
  path_at : (i k : ℕ) → At l i k → path_to t k ≡ path_of_in t (parent_in t k) ++ (k ∷ [])
  path_at i k x = level_path t count fit k (o.whole.only i k x)

  parent_at : (i k : ℕ) → At l i (parent_in t k) → path_of_in t (parent_in t k) ≡ path_to t (parent_in t k)
  parent_at i k x = path_of t (parent_in t k) (o.whole.only i (parent_in t k) x).0

  -- an outline of a fit table nests
  pub outline_nests : Nested t count l
  outline_nests =
      record {
        whole = o.whole;
        once = λ i j k x y. three_ways i j (λ h. absurd (not_twice i j k x y h)) (λ h. absurd (not_twice j i k y x h)) (λ e. e);
        siblings = λ i j a b x y e h.
            sooner_earlier i j a b x y (rw (path_at i a x, path_at j b y, e) (sooner_aside (path_of_in t (parent_in t b)) a b [] [] h));
        behind = λ i j k x y.
            sooner_earlier i j (parent_in t k) k x y (rw (path_at j k y, parent_at i k x) (sooner_further (path_to t (parent_in t k)) k []));
        between = λ i m j k x at_p at_x at-k h g.
            let p = parent_in t k in
            let above : Sooner (path_of_in t p) (path_to t x) = rw (parent_at i k at_p) (o.in_order i m p x at_p at_x h) in
            let (c, r, e) = between_leads (path_to t x) (path_of_in t p) k above (rw (path_at j k at-k) at (o.in_order m j x k at_x at-k g)) in
            branch_under (branch t count fit p c x (o.whole.only i p at_p).1 (o.whole.only m x at_x) r e);
      }

module _ (t : List ℕ) (count : ℕ) (fit : FitTable t count) (l : List ℕ) (n : Nested t count l) where
  -- what stands between a level and one that hangs under it hangs under it
  between_far : (i m c j x : ℕ) {a : ℕ} → At l i c → At l m x → At l j a → i < m → m < j → Under t c a → Under t c x
  between_far i m c j x at_c at_x at_a h g (child a e) = rw e at (n.between i m j a x (rw e at_c) at_x at_a h g)
  between_far i m c j x at_c at_x at_a h g (further a u) =
      let q = parent_in t a in
      let c-level = n.whole.only i c at_c in
      let a-level = n.whole.only j a at_a in
      let less = parent_less t count fit a a-level in
      let le = under_parent t count fit (omega arith) a-level.1 (further a u) in
      let (s, at-q) = n.whole.every q (omega arith) (omega arith) in
      three_ways m s (λ lt. between_far i m c s x at_c at_x at-q h lt u) (λ lt. under_under u (n.between s m j a x at-q at_x at_a lt g))
      (λ e. rw (one_level l s m q x at-q at_x (sym e)) at u)

  -- what is at or under an earlier sibling comes first
  aside_first : (i j a b c : ℕ) → At l i a → At l j b → Branch t count (parent_in t b) c a → c < b → i < j
  aside_first i j a b c x y o lt =
      let apart = siblings_apart t count fit c b o.level (n.whole.only j b y) o.parent in
      let (m, z) = n.whole.every c o.level.0 o.level.1 in
      ⊎_elim
      (λ e. n.siblings i j a b x y (rw e at o.parent) (rw e at lt))
      (λ u.
      three_ways i j (λ h. h) (λ h. absurd (apart (between_far m j c i b z y x (n.siblings m j c b z y o.parent lt) h u)))
      (λ e. absurd (apart (rw (one_level l i j a b x y e) at u))))
      o.leads

  -- the level with the sooner path comes first, if so with the other's parent
  before_first : (i j a b : ℕ) → At l i a → At l j b → parent_in t b ≤ count → Before (path_to t a) (path_of_in t (parent_in t b)) b
      → ((m : ℕ) → At l m (parent_in t b) → Sooner (path_to t a) (path_to t (parent_in t b)) → i < m) → i < j
  before_first i j a b x y g (ahead s) up =
      by_cases (dec_lt 0 (parent_in t b))
      (λ h.
      let (m, z) = n.whole.every (parent_in t b) h g in
      omega (arith, n.behind m j b z y, up m z (rw (path_of t (parent_in t b) h) at s)))
      (λ h. let e : parent_in t b ≡ 0 = omega arith in absurd (sooner_not_empty (path_to t a) (rw e at s)))
  before_first i j a b x y g (same e) up =
      let level = n.whole.only i a x in
      n.behind i j b (rw (same_path_of t count fit a (parent_in t b) level.1 g (path_of t a level.0 ∙ e)) at x) y
  before_first i j a b x y g (aside c r lt e) up = aside_first i j a b c x y (branch t count fit (parent_in t b) c a g (n.whole.only i a x) r e) lt

  -- and so in any case
  sooner_first : (m i j a b : ℕ) → b < m → At l i a → At l j b → Sooner (path_to t a) (path_to t b) → i < j
  sooner_first zero i j a b h x y s = absurd (omega arith)
  sooner_first (suc m) i j a b h x y s =
      let level = n.whole.only j b y in
      let less = parent_less t count fit b level in
      before_first i j a b x y (omega arith) (before (path_to t a) (path_of_in t (parent_in t b)) b (rw (level_path t count fit b level) at s))
      (λ k z. sooner_first m i k a (parent_in t b) (omega arith) x z)

  -- what nests is an outline
  pub nested_is_outline : Outline t count l
  nested_is_outline = record { whole = n.whole; in_order = λ i j a b x y h. by_value i j a b x y h (compared (path_to t a) (path_to t b)) }
    where
      by_value : (i j a b : ℕ) → At l i a → At l j b → i < j → Compared (path_to t a) (path_to t b) → Sooner (path_to t a) (path_to t b)
      by_value i j a b x y h (equal e) =
          let a-level = n.whole.only i a x in
          let b-level = n.whole.only j b y in
          let s = same_path t a b (fit a a-level.0 a-level.1) (fit b b-level.0 b-level.1) e in
          absurd (omega (arith, n.once i j b (rw s at x) y))
      by_value i j a b x y h (sooner s) = s
      by_value i j a b x y h (later s) = absurd (omega (arith, sooner_first (suc a) j i b a (omega arith) y x s))

-- two lists that nest are equal
pub nested_once : (t : List ℕ) (count : ℕ) → FitTable t count → (l l' : List ℕ) → Nested t count l → Nested t count l' → l ≡ l'
nested_once t count fit l l' n n' = outline_once t count l l' (nested_is_outline t count fit l n) (nested_is_outline t count fit l' n')
