-- What is gathered under a level, child by child. Its children stand behind it, so nothing is gathered up to the level itself; and nothing more
-- is where no child follows.
-- Assumes nothing.
use Prim.Native.Nat.{ℕ, zero, suc, ◌+◌, ◌-◌, ◌<◌, ◌≤◌}
use mathlib.Core.Path.{◌≡◌, refl, ap, ◌∙◌}
use mathlib.Core.Logic.{inl, inr}
use mathlib.Core.List.{List, [], ◌∷◌, ◌++◌, append-nil}
use native.Mathlib.Nat.{le_refl, le_trans, le_of_suc-le-suc, eq-or-lt_of_le}
use native.Mathlib.Numerals.{add-one}
use native.Mathlib.Omega.{arith}
use lib.ListN.{length, length-append}
use borrow.Author.Tests.{eq-eqb, ne_eqb}
use Rattle.outline.specs.Outline.{parent_in, depth_in}
use Rattle.outline.specs.Walks.{FitTable}
use Rattle.outline.specs.internal.Listing.{gathered, listed, depth_of}
use Rattle.outline.specs.internal.Straying.{last_stray}
use Rattle.outline.proofs.FitLevels.{parent_earlier, child_depth}
use Rattle.outline.proofs.Settled.{settled}

module _ (t : List ℕ) (count of depth : ℕ) where
  -- above depth 4 the children are gathered, each followed by what is listed one step less far
  pub listed_gathered : depth < 4 → listed (4 - depth) t count of ≡ gathered (listed (4 - (depth + 1)) t count) t of count
  unfolding listed
  listed_gathered h =
      let e : 4 - depth ≡ suc (4 - (depth + 1)) = omega arith in
      ap (λ (steps : ℕ). listed steps t count of) e

  -- at depth 4 none
  pub listed_none : 4 ≤ depth → listed (4 - depth) t count of ≡ []
  unfolding listed
  listed_none h =
      let e : 4 - depth ≡ 0 = omega arith in
      ap (λ (steps : ℕ). listed steps t count of) e

module _ (beneath : ℕ → List ℕ) (t : List ℕ) (of : ℕ) where
  nothing_yet : gathered beneath t of 0 ≡ []
  unfolding gathered
  nothing_yet = refl

  -- a child is gathered, and what is beneath it
  pub gathered_child : (k : ℕ) → parent_in t (k + 1) ≡ of → gathered beneath t of (k + 1) ≡ gathered beneath t of k ++ ((k + 1) ∷ beneath (k + 1))
  unfolding gathered
  gathered_child k e = rw (add-one k) (rw (eq-eqb _ _ (rw (add-one k) at e)))

  -- another level is not
  gathered_same : (k : ℕ) → (parent_in t (suc k) ≡ of → ⊥) → gathered beneath t of (suc k) ≡ gathered beneath t of k
  unfolding gathered
  gathered_same k other = rw (ne_eqb _ _ other) (append-nil (gathered beneath t of k))

  pub gathered_other : (k : ℕ) → (parent_in t (k + 1) ≡ of → ⊥) → gathered beneath t of (k + 1) ≡ gathered beneath t of k
  gathered_other k other = rw (add-one k) (gathered_same k (rw (add-one k) at other))

  -- where no child follows, all is gathered
  gathered_all : (k m : ℕ) → k ≤ m → ((c : ℕ) → k < c → c ≤ m → parent_in t c ≡ of → ⊥) → gathered beneath t of m ≡ gathered beneath t of k
  gathered_all k zero h no_child = let e : k ≡ 0 = omega arith in rw e
  gathered_all k (suc m) h no_child =
      elim (eq-or-lt_of_le h) [
        | inl e ↦ rw e
        | inr l ↦ gathered_same m (no_child (suc m) l (omega arith)) ∙ gathered_all k m (omega arith) (λ c low high. no_child c low (omega arith))
      ]

  one_more : (m : ℕ) → length (gathered beneath t of m) ≤ length (gathered beneath t of (suc m))
  unfolding gathered
  one_more m = rw (length-append (gathered beneath t of m)) (omega arith)

  grows : (k m : ℕ) → k ≤ m → length (gathered beneath t of k) ≤ length (gathered beneath t of m)
  grows k zero h = let e : k ≡ 0 = omega arith in rw e (le_refl _)
  grows k (suc m) h = elim (eq-or-lt_of_le h) [ inl e ↦ rw e (le_refl _) | inr l ↦ le_trans (grows k m (le_of_suc-le-suc l)) (one_more m) ]

  -- a child and what is beneath it have room
  pub gathered_room : (k m : ℕ) → k < m → parent_in t (k + 1) ≡ of
      → length (gathered beneath t of k) + (1 + length (beneath (k + 1))) ≤ length (gathered beneath t of m)
  gathered_room k m h e =
      omega (arith, grows (k + 1) m (omega arith), ap length (gathered_child k e), length-append (gathered beneath t of k) ((k + 1) ∷ beneath (k + 1)))

module _ (t : List ℕ) (count : ℕ) (fit : FitTable t count) (beneath : ℕ → List ℕ) (of : ℕ) where
  -- nothing is gathered up to the level itself
  pub gathered_none : of ≤ count → gathered beneath t of of ≡ []
  gathered_none inside =
      gathered_all beneath t of 0 of (omega arith)
      (λ c low high e. omega (arith, parent_earlier t c (fit c low (omega arith)) low))
      ∙ nothing_yet beneath t of

  -- behind the last stray all is gathered where a level is no deeper
  pub gathered_ended : (k : ℕ) → of ≤ k → k < count → last_stray t count < k + 1 → depth_in t (k + 1) ≤ depth_of t of
      → gathered beneath t of count ≡ gathered beneath t of k
  gathered_ended k behind inside stray shallow =
      gathered_all beneath t of k count (omega arith)
      (λ c low high e. elim (eq-or-lt_of_le low) [
        | inl q ↦ omega (arith, child_depth t c (fit c (omega arith) high) of e, ap (depth_in t) (add-one k ∙ q))
        | inr l ↦ settled t count fit of (k + 1) c stray (omega arith) (omega arith) high shallow e
      ])
