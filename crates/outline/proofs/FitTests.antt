-- The tests of a level by its parent and its depth, and the search for the first level that is unfit.
-- Assumes nothing.
use Prim.Native.Nat.{ℕ, ◌+◌, ◌-◌, ◌<◌, ◌≤◌}
use mathlib.Core.Path.{◌≡◌, refl, sym, ◌∙◌}
use mathlib.Core.Bool.{Bool, true, false, not, ◌||◌, true≢false}
use mathlib.Core.Logic.{inl, inr, ⊎_elim}
use mathlib.Core.List.{List}
use Rattle.std.specs.Prelude.{Option, Some, None, MatchOption}
use native.Mathlib.Omega.{arith}
use lib.Dec.{eqb, leb, ltb}
use borrow.Author.Tests.{ltb-false, leb-false, eqb-true, eqb-false, le-ltb, lt-leb}
use Rattle.outline.specs.Outline.{parent_in, depth_in}
use Rattle.outline.specs.Walks.{Fit}
use Rattle.outline.specs.internal.Fitting.{Decides, FirstUnfit}

none_of : (a b c : Bool) → (a || b) || c ≡ false → (a ≡ false) × (b ≡ false) × (c ≡ false)
none_of true b c e = absurd (true≢false e)
none_of false true c e = absurd (true≢false e)
none_of false false c e = (refl, refl, e)

-- the test of two numbers decides what holds exactly if they are equal
equal_decides : {P : Type 0} (m n : ℕ) → (m ≡ n → P) → (P → m ≡ n) → Decides (eqb m n) P
equal_decides {P} m n to from = by_value (eqb m n) refl
  where
    by_value : (b : Bool) → eqb m n ≡ b → Decides b P
    by_value true e = to (eqb-true m n e)
    by_value false e = λ p. eqb-false m n e (from p)

-- the parent is not earlier, or the depth not 1 to 4
abbrev outside : (k parent depth : ℕ) → Bool
outside k parent depth = (leb k parent || ltb depth 1) || ltb 4 depth

inside : (k parent depth : ℕ) → parent < k → 1 ≤ depth → depth ≤ 4 → outside k parent depth ≡ false
inside k parent depth earlier low high = rw (lt-leb k parent earlier, le-ltb depth 1 low, le-ltb 4 depth high)

-- what holds where the test fails
pub not_outside : (k parent depth : ℕ) → outside k parent depth ≡ false → (parent < k) × (1 ≤ depth) × (depth ≤ 4)
not_outside k parent depth e =
    let none = none_of (leb k parent) (ltb depth 1) (ltb 4 depth) e in
    (leb-false k parent none.0, ltb-false depth 1 none.1, ltb-false 4 depth none.2)

module _ (t : List ℕ) (k : ℕ) {parent depth : ℕ} (p : parent ≡ parent_in t k) (d : depth ≡ depth_in t k) where
  -- a level without a parent is fit exactly if its depth is 1
  pub top_decides : parent ≡ 0 → Decides (eqb depth 1) (Fit t k)
  top_decides none =
      equal_decides depth 1
      (λ one. record { shallow = omega arith; hangs = inl (record { parent = sym p ∙ none; depth = sym d ∙ one }) })
      (λ fit. ⊎_elim (λ top. d ∙ top.depth) (λ under. absurd (omega (arith, under.parent_from))) fit.hangs)

  module _ (some : parent ≡ 0 → ⊥) where
    -- one with a parent is not, where the parent is not earlier or the depth not 1 to 4
    pub outside_unfit : outside k parent depth ≡ true → Fit t k → ⊥
    outside_unfit e fit =
        ⊎_elim
        (λ top. some (p ∙ top.parent))
        (λ under. true≢false (sym e ∙ inside k parent depth (omega (arith, under.parent_below)) (omega (arith, under.depth)) (omega (arith, fit.shallow))))
        fit.hangs

    -- else it is fit exactly if its parent is one less deep
    pub child_decides : outside k parent depth ≡ false → {above : ℕ} → above ≡ depth_in t parent → Decides (eqb above (depth - 1)) (Fit t k)
    child_decides e {above} a =
        let near = not_outside k parent depth e in
        equal_decides above (depth - 1)
        (λ same. record {
          shallow = omega arith;
          hangs = inr (record { parent_from = omega (arith, some); parent_below = omega arith; depth = rw (← p) (omega arith) });
        })
        (λ fit. ⊎_elim (λ top. absurd (some (p ∙ top.parent))) (λ under. omega (arith, rw (← p) at under.depth)) fit.hangs)

module _ (b : Bool) {P : Type 0} where
  -- where a test says no, it is not so
  pub when_no : not b ≡ true → Decides b P → P → ⊥
  when_no e d = by_value b e d
    where
      by_value : (v : Bool) → not v ≡ true → Decides v P → P → ⊥
      by_value true e d = absurd (true≢false (sym e))
      by_value false e d = d

  -- and where it says yes, it is so
  pub when_yes : not b ≡ false → Decides b P → P
  when_yes e d = by_value b e d
    where
      by_value : (v : Bool) → not v ≡ false → Decides v P → P
      by_value true e d = d
      by_value false e d = absurd (true≢false e)

-- a level that is found among those from 1 on is the first that is unfit
pub first_found : (t : List ℕ) (count : ℕ) (r : Option ℕ)
    → MatchOption r ((k : ℕ) → 1 ≤ k → k < count + 1 → Fit t k)
    (λ k. (1 ≤ k) × (k < count + 1) × (Fit t k → ⊥) × ((j : ℕ) → 1 ≤ j → j < k → Fit t j))
    → FirstUnfit t count r
first_found t count None found = λ k low high. found k low (omega arith)
first_found t count (Some k) found = (found.0, omega arith, found.3, found.2)
