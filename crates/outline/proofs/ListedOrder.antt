-- The list that the walk writes is an outline. The path of what is gathered with child c of a level goes on from the level's by c; so what stands
-- with one child comes before what stands with a later one, and each child before what stands beneath it.
-- Assumes nothing.
use Prim.Native.Nat.{ℕ, zero, suc, ◌≤◌}
use mathlib.Core.Path.{◌≡◌, ap, ◌∙◌}
use mathlib.Core.Logic.{⊎_elim}
use mathlib.Core.List.{List, [], ◌∷◌, ◌++◌, append_assoc}
use mathlib.Core.List.Memᴰ.{head as here}
use mathlib.Core.List.Memᴰ.{tail as later}
use mathlib.Core.List.{Memᴰ as Mem}
use mathlib.Core.List.Memᴰ.{append_cases as left-or-right}
use mathlib.Core.List.Memᴰ.{not-nil as not-in-nil}
use native.Mathlib.Omega.{arith}
use lib.Dec.{eqb, eqb→eq}
use lib.ListN.{length}
use Rattle.text.proofs.Bools.{cond_cases}
use Rattle.outline.specs.Outline.{parent_in, path_to, Sooner, Outline}
use Rattle.outline.specs.Walks.{FitTable}
use Rattle.outline.specs.internal.Listing.{gathered, listed}
use Rattle.outline.proofs.Paths.{sooner_not_self, sooner_aside, sooner_further, path_of_in, fit_path}
use Rattle.outline.proofs.SortedLists.{Sorted, sorted_append, sorted_at, sorted_length, place_of_lem, held_at}
use Rattle.outline.proofs.ListedLevels.{listed_only, listed_every}

-- one level before another
abbrev Before : List ℕ → ℕ → ℕ → Type 0
Before t x y = Sooner (path_to t x) (path_to t y)

-- the path of level x goes on from p by c
record Led (t p : List ℕ) (c x : ℕ) : Type 0 where
  pub rest : List ℕ
  pub path : path_to t x ≡ p ++ (c ∷ rest)

-- a sorted list, where the path of each goes on from p by a number up to k
record Orderly (t p : List ℕ) (k : ℕ) (l : List ℕ) : Type 0 where
  pub sorted : Sorted (Before t) l
  pub led : (x : ℕ) → Mem x l → (c : ℕ) × (c ≤ k) × Led t p c x

-- the empty list is one
nothing_orderly : (t p : List ℕ) (k : ℕ) → Orderly t p k []
nothing_orderly t p k = record { sorted = tt; led = λ x m. absurd (not-in-nil m) }

-- behind such a list, one whose paths go on by the next number
orderly_append : (t p : List ℕ) (k : ℕ) (l m : List ℕ) → Orderly t p k l → Sorted (Before t) m → ((x : ℕ) → Mem x m → Led t p (suc k) x)
    → Orderly t p (suc k) (l ++ m)
orderly_append t p k l m o sorted led = record {
  sorted = sorted_append (Before t) l m o.sorted sorted (λ x y h i. let u = o.led x h in before u.0 x y u.1 u.2 (led y i));
  led = λ x h. ⊎_elim (λ i. let u = o.led x i in (u.0, omega (arith, u.1), u.2)) (λ i. (suc k, omega arith, led x i)) (left-or-right l h);
}
  where
    before : (c x y : ℕ) → c ≤ k → Led t p c x → Led t p (suc k) y → Before t x y
    before c x y h u v = rw (u.path, v.path) (sooner_aside p c (suc k) u.rest v.rest (omega arith))

-- the next number may be a child, with what stands beneath it
child_orderly : (t p : List ℕ) (k n : ℕ) (l m : List ℕ) → path_to t (suc k) ≡ p ++ (suc k ∷ []) → Orderly t (path_to t (suc k)) n m → Orderly t p k l
    → Orderly t p (suc k) (l ++ (suc k ∷ m))
child_orderly t p k n l m own under o = orderly_append t p k l (suc k ∷ m) o (first, under.sorted) led
  where
    first : (x : ℕ) → Mem x m → Before t (suc k) x
    first x h = let u = under.led x h in rw u.2.path (sooner_further (path_to t (suc k)) u.0 u.2.rest)

    led : (x : ℕ) → Mem x (suc k ∷ m) → Led t p (suc k) x
    led x (here e) = record { rest = []; path = ap (path_to t) e ∙ own }
    led x (later h) =
        let u = under.led x h in
        let rest = u.0 ∷ u.2.rest in
        record { rest = rest; path = u.2.path ∙ ap (λ (q : List ℕ). q ++ rest) own ∙ append_assoc p (suc k ∷ []) rest }

module _ (t : List ℕ) (count : ℕ) (fit : FitTable t count) where
  -- the path of a child goes on from its parent's by the child
  child_path : (of c : ℕ) → 1 ≤ c → c ≤ count → parent_in t c ≡ of → path_to t c ≡ path_of_in t of ++ (c ∷ [])
  child_path of c from upto hangs = fit_path t c (fit c from upto) ∙ ap (λ (k : ℕ). path_of_in t k ++ (c ∷ [])) hangs

  -- what is gathered is in order where what stands beneath each child is
  gathered_orderly : (beneath : ℕ → List ℕ) → ((k : ℕ) → Orderly t (path_to t (suc k)) count (beneath (suc k)))
      → (of k : ℕ) → k ≤ count → Orderly t (path_of_in t of) k (gathered beneath t of k)
  unfolding gathered
  gathered_orderly beneath orderly of zero upto = nothing_orderly t (path_of_in t of) 0
  gathered_orderly beneath orderly of (suc k) upto =
      let c = suc k in
      let p = path_of_in t of in
      let earlier = gathered beneath t of k in
      let o = gathered_orderly beneath orderly of k (omega arith) in
      cond_cases (λ (l : List ℕ). Orderly t p c (earlier ++ l)) (eqb (parent_in t c) of) (c ∷ beneath c) []
      (λ b. child_orderly t p k count earlier (beneath c) (child_path of c (omega arith) upto (eqb→eq _ of b)) (orderly k) o)
      (λ b. orderly_append t p k earlier [] o tt (λ x m. absurd (not-in-nil m)))

  -- so what is listed is in order
  listed_orderly : (steps of : ℕ) → Orderly t (path_of_in t of) count (listed steps t count of)
  unfolding listed
  listed_orderly zero of = nothing_orderly t (path_of_in t of) count
  listed_orderly (suc steps) of = gathered_orderly (listed steps t count) (λ k. listed_orderly steps (suc k)) of count (omega arith)

  -- and so is the whole list
  sorted : Sorted (Before t) (listed 4 t count 0)
  sorted = (listed_orderly 4 0).sorted

  -- which holds every level
  every : (x : ℕ) → 1 ≤ x → x ≤ count → Mem x (listed 4 t count 0)
  every x from upto = listed_every t count fit 4 x from upto (fit x from upto).shallow

  -- the list that the walk writes is an outline
  pub listed_outline : Outline t count (listed 4 t count 0)
  listed_outline = record {
    whole = record {
      every = λ k from upto. place_of_lem (every k from upto);
      only = λ i k a. listed_only t count 4 0 k (held_at (listed 4 t count 0) i k a);
    };
    in_order = sorted_at (Before t) (listed 4 t count 0) sorted;
  }

  -- and has as many places as there are levels
  pub listed_length : length (listed 4 t count 0) ≡ count
  listed_length = sorted_length (Before t) (λ x. sooner_not_self (path_to t x)) count (listed 4 t count 0) sorted every (listed_only t count 4 0)
