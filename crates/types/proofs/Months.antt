-- The days of the months that no single number names.
-- Assumes nothing.
use Prim.Native.Nat.{ℕ, ◌≤◌, ◌<◌}
use mathlib.Core.Path.{◌≡◌, refl}
use mathlib.Core.Bool.{Bool, true, false, cond, ◌&&◌, ◌||◌}
use mathlib.Core.List.{[], ◌∷◌}
use native.Mathlib.Omega.{arith}
use lib.Dec.{leb, eqb}
use lib.ListN.{get_or, get_or-eq_default}
use borrow.Author.Tests.{ne_eqb, eqb-true, leb-true}
use Rattle.text.specs.Bytes.{among}
use Rattle.text.proofs.Tests.{at_below}
use Rattle.types.specs.Types.{is_leap, month_days, days_in}

-- a month has 31 days, or is not there, or is one of the five short ones
abbrev long : ℕ → Bool
long m = eqb m 0 || (among (2 ∷ 4 ∷ 6 ∷ 9 ∷ 11 ∷ []) m || eqb (get_or (0 ∷ month_days) m 0) 31)

pub thirty_one : (y m : ℕ) → 0 < m → m < 13 → (m ≡ 2 → ⊥) → (m ≡ 4 → ⊥) → (m ≡ 6 → ⊥) → (m ≡ 9 → ⊥) → (m ≡ 11 → ⊥) → days_in y m ≡ 31
unfolding days_in
thirty_one y m a b n2 n4 n6 n9 n11 =
    rw (ne_eqb m 2 n2)
    (eqb-true (get_or (0 ∷ month_days) m 0) 31
    (rw (ne_eqb m 0 (omega arith), ne_eqb m 2 n2, ne_eqb m 4 n4, ne_eqb m 6 n6, ne_eqb m 9 n9, ne_eqb m 11 n11) at (at_below 13 long refl m b)))

pub no_month : (y m : ℕ) → 12 < m → days_in y m ≡ 0
unfolding days_in
no_month y m h = rw (ne_eqb m 2 (omega arith)) (get_or-eq_default (0 ∷ month_days) 0 {n = m} h)

-- every month has 28 days
abbrev early : ℕ → Bool
early m = eqb m 0 || leb 28 (get_or (0 ∷ month_days) m 0)

pub twenty_eight : (y m : ℕ) → 0 < m → m < 13 → 28 ≤ days_in y m
unfolding days_in
twenty_eight y m a b =
    either (eqb m 2 && is_leap y) (get_or (0 ∷ month_days) m 0)
    (leb-true 28 (get_or (0 ∷ month_days) m 0) (rw (ne_eqb m 0 (omega arith)) at (at_below 13 early refl m b)))
  where
    either : (t : Bool) (n : ℕ) → 28 ≤ n → 28 ≤ cond t 29 n
    either true n l = omega arith
    either false n l = l
