-- Laws of tables: a function at 0, .., n - 1 as a list, so that one computed check of two lists carries to each number below n.
-- Assumes nothing.
use Prim.Native.Nat.{ℕ, zero, suc, ◌<◌}
use mathlib.Core.Path.{◌≡◌}
use mathlib.Core.List.{List, [], ◌∷◌, head-eq_of_cons-eq, tail-eq_of_cons-eq}
use native.Mathlib.Nat.{le_of_suc-le-suc, not-suc-le-zero}

-- f at 0, .., n - 1
unfoldable pub tab : {A : Type 0} → ℕ → (ℕ → A) → List A
tab zero f = []
tab (suc n) f = f 0 ∷ tab n (λ k. f (suc k))

-- equal lists of values give equal values
pub tab_at : {A : Type 0} (n : ℕ) (f g : ℕ → A) → tab n f ≡ tab n g → (k : ℕ) → k < n → f k ≡ g k
unfolding tab
tab_at zero f g e k h = absurd (not-suc-le-zero h)
tab_at (suc n) f g e zero h = head-eq_of_cons-eq e
tab_at (suc n) f g e (suc k) h = tab_at n (λ j. f (suc j)) (λ j. g (suc j)) (tail-eq_of_cons-eq e) k (le_of_suc-le-suc h)
