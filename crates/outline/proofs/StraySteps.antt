-- The search for the last stray, level by level. Three levels are kept, and in a fit table they tell the latest that is less deep than a
-- given level.
-- Assumes nothing.
use Prim.Native.Nat.{ℕ, zero, suc, ◌-◌, ◌≤◌}
use mathlib.Core.Path.{◌≡◌, refl, sym, ◌∙◌}
use mathlib.Core.Logic.{◌⊎◌, ⊎_elim}
use mathlib.Core.List.{List}
use native.Mathlib.Numerals.{unary_clauses}
use native.Mathlib.Omega.{arith}
use borrow.Author.Tests.{eq-eqb, ne_eqb, lt-leb}
use Rattle.outline.specs.Outline.{parent_in, depth_in}
use Rattle.outline.specs.Walks.{FitTable}
use Rattle.outline.specs.internal.Straying.{latest, last_stray, above_of, with_level}
use Rattle.outline.specs.declared.straying.Latest.{Latest}
use Rattle.outline.proofs.FitLevels.{depth_from}

-- the latest of the levels 1 to k that have depth at most 1, 2 and 3
abbrev latest_three : List ℕ → ℕ → Latest
latest_three t k = record { first = latest t 1 k; second = latest t 2 k; third = latest t 3 k }

-- what is known after the first k levels
pub record Searched (t : List ℕ) (count : ℕ) (three : Latest) (stray k : ℕ) : Type 0 where
  pub upto : k ≤ count
  pub kept : three ≡ latest_three t k
  pub last : stray ≡ last_stray t k

-- at the start
pub searched_none : (t : List ℕ) (count : ℕ) → Searched t count (record { first = 0; second = 0; third = 0 }) 0 0
unfolding latest last_stray
searched_none t count = record { upto = omega arith; kept = refl; last = refl }

-- no fit level has depth 0
latest_none : (t : List ℕ) (k : ℕ) → FitTable t k → latest t 0 k ≡ 0
unfolding latest
latest_none t zero fit = refl
latest_none t (suc k) fit =
    rw (lt-leb (depth_in t (suc k)) 0 (depth_from t (suc k) (fit (suc k) (omega arith) (omega arith))))
    (latest_none t k (λ j low high. fit j low (omega arith)))

-- the three tell the latest level that is less deep
above_latest : (t : List ℕ) (k depth : ℕ) → FitTable t k → 1 ≤ depth → depth ≤ 4 → above_of (latest_three t k) depth ≡ latest t (depth - 1) k
above_latest t k zero fit low high = absurd (omega arith)
above_latest t k (suc zero) fit low high = sym (latest_none t k fit)
above_latest t k (suc (suc zero)) fit low high = refl
above_latest t k (suc (suc (suc zero))) fit low high = refl
above_latest t k (suc (suc (suc (suc zero)))) fit low high = refl
above_latest t k (suc (suc (suc (suc (suc depth))))) fit low high = absurd (omega arith)

-- one level more: the three, and the last stray, which it is if its parent is another than the latest level that is less deep
three_more : (t : List ℕ) (k : ℕ) → with_level (latest_three t k) (suc k) (depth_in t (suc k)) ≡ latest_three t (suc k)
unfolding latest
three_more t k = refl

stray_here : (t : List ℕ) (k : ℕ) → (parent_in t (suc k) ≡ latest t (depth_in t (suc k) - 1) k → ⊥) → suc k ≡ last_stray t (suc k)
unfolding last_stray
stray_here t k other = rw (ne_eqb _ _ other)

stray_before : (t : List ℕ) (k : ℕ) → parent_in t (suc k) ≡ latest t (depth_in t (suc k) - 1) k → last_stray t k ≡ last_stray t (suc k)
unfolding last_stray
stray_before t k same = rw (eq-eqb _ _ same)

module _ {t : List ℕ} {count : ℕ} {three : Latest} {stray parent depth above : ℕ} (fit : FitTable t count) where
  -- what is known after the next level
  pub searched_more : (k : ℕ) → 1 ≤ k → k ≤ count → Searched t count three stray (k - 1)
      → parent ≡ parent_in t k → depth ≡ depth_in t k → above ≡ above_of three depth
      → {three' : Latest} {stray' : ℕ} → three' ≡ with_level three k depth
      → ((parent ≡ above → ⊥) × (stray' ≡ k)) ⊎ ((parent ≡ above) × (stray' ≡ stray))
      → Searched t count three' stray' k
  searched_more zero low high s p d a w came = absurd (omega arith)
  searched_more (suc k) low high before p d a w came =
      let s : Searched t count three stray k = simp unary_clauses at before in
      let here = fit (suc k) low high in
      let above_is : above ≡ latest t (depth_in t (suc k) - 1) k =
      a ∙ rw (s.kept, d) (above_latest t k _ (λ j from upto. fit j from (omega arith)) (depth_from t (suc k) here) here.shallow) in
      record {
        upto = high;
        kept = w ∙ rw (s.kept, d) (three_more t k);
        last =
            ⊎_elim
            (λ x. x.1 ∙ stray_here t k (λ e. x.0 (p ∙ e ∙ sym above_is)))
            (λ x. x.1 ∙ s.last ∙ stray_before t k (sym p ∙ x.0 ∙ above_is))
            came;
      }
