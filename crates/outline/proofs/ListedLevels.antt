-- The list that the walk writes holds every level and nothing else. Of what is gathered under a level each stands with one of its children, and
-- so a level is held one step after its parent.
-- Assumes nothing.
use Prim.Native.Nat.{ℕ, zero, suc, ◌≤◌}
use mathlib.Core.Path.{◌≡◌, refl}
use mathlib.Core.Logic.{⊎_elim}
use mathlib.Core.List.{List, [], ◌∷◌}
use mathlib.Core.List.Memᴰ.{head as here}
use mathlib.Core.List.Memᴰ.{not-nil as not-in-nil}
use mathlib.Core.List.Memᴰ.{tail as later}
use mathlib.Core.List.{Memᴰ as Mem}
use mathlib.Core.List.Memᴰ.{append_cases as left-or-right}
use mathlib.Core.List.Memᴰ.{cases_cons as here-or-later}
use mathlib.Core.List.Memᴰ.{append_left as on-left}
use mathlib.Core.List.Memᴰ.{append_right as on-right}
use native.Mathlib.Omega.{arith}
use lib.Dec.{eqb, eqb→eq}
use borrow.Author.Count.{below_more}
use borrow.Author.Tests.{eq-eqb}
use Rattle.text.proofs.Bools.{cond_cases}
use Rattle.outline.specs.Outline.{parent_in, depth_in}
use Rattle.outline.specs.Walks.{FitTable}
use Rattle.outline.specs.internal.Listing.{gathered, listed}

-- what is gathered under `of` stands with a child of it: it is that child, or one of those beneath it
gathered_cases : {C : Type 0} (beneath : ℕ → List ℕ) (t : List ℕ) (of k x : ℕ)
    → ((c : ℕ) → 1 ≤ c → c ≤ k → parent_in t c ≡ of → Mem x (c ∷ beneath c) → C) → Mem x (gathered beneath t of k) → C
unfolding gathered
gathered_cases beneath t of zero x f m = absurd (not-in-nil m)
gathered_cases {C} beneath t of (suc k) x f m =
    ⊎_elim
    (gathered_cases beneath t of k x (λ c from upto. f c from (omega arith)))
    (cond_cases (λ (l : List ℕ). Mem x l → C) (eqb (parent_in t (suc k)) of) (suc k ∷ beneath (suc k)) []
    (λ b. f (suc k) (omega arith) (omega arith) (eqb→eq _ of b)) (λ b h. absurd (not-in-nil h)))
    (left-or-right (gathered beneath t of k) m)

-- and what stands with a child is gathered
gathered_with : (beneath : ℕ → List ℕ) (t : List ℕ) (of k x c : ℕ) → c ≤ k → 1 ≤ c → parent_in t c ≡ of → Mem x (c ∷ beneath c)
    → Mem x (gathered beneath t of k)
unfolding gathered
gathered_with beneath t of zero x c upto from hangs m = absurd (omega arith)
gathered_with beneath t of (suc k) x c upto from hangs m =
    below_more (λ (n : ℕ). 1 ≤ n → parent_in t n ≡ of → Mem x (n ∷ beneath n) → Mem x (gathered beneath t of (suc k))) (suc k)
    (λ n u f p h. on-left _ (gathered_with beneath t of k x n (omega arith) f p h))
    (λ f p h. on-right (gathered beneath t of k) (rw (eq-eqb _ of p) h))
    c (omega arith) from hangs m

module _ (t : List ℕ) (count : ℕ) where
  -- a level is held one step after its parent
  one_step_more : (steps of x : ℕ) → 1 ≤ x → x ≤ count → Mem (parent_in t x) (listed steps t count of) → Mem x (listed (suc steps) t count of)
  unfolding listed
  one_step_more zero of x from upto m = absurd (not-in-nil m)
  one_step_more (suc steps) of x from upto m =
      gathered_cases (listed steps t count) t of count (parent_in t x)
      (λ c some within hangs h. gathered_with (listed (suc steps) t count) t of count x c within some hangs
      (later
      (⊎_elim (λ e. gathered_with (listed steps t count) t c count x x upto from e (here refl)) (one_step_more steps c x from upto)
      (here-or-later h))))
      m

  -- the list holds only levels from 1 to count
  pub listed_only : (steps of x : ℕ) → Mem x (listed steps t count of) → (1 ≤ x) × (x ≤ count)
  unfolding listed
  listed_only zero of x m = absurd (not-in-nil m)
  listed_only (suc steps) of x m =
      gathered_cases (listed steps t count) t of count x
      (λ c from upto hangs h. ⊎_elim (λ e. (omega arith, omega arith)) (listed_only steps c x) (here-or-later h))
      m

  -- and of a fit table each of them, after as many steps as it is deep
  pub listed_every : FitTable t count → (steps x : ℕ) → 1 ≤ x → x ≤ count → depth_in t x ≤ steps → Mem x (listed steps t count 0)
  unfolding listed
  listed_every fit zero x from upto deep =
      absurd (⊎_elim (λ top. omega (arith, top.depth)) (λ under. omega (arith, under.depth)) (fit x from upto).hangs)
  listed_every fit (suc steps) x from upto deep =
      let above = listed_every fit steps (parent_in t x) in
      ⊎_elim
      (λ top. gathered_with (listed steps t count) t 0 count x x upto from top.parent (here refl))
      (λ under. one_step_more steps 0 x from upto (above under.parent_from (omega (arith, under.parent_below)) (omega (arith, under.depth))))
      (fit x from upto).hangs
