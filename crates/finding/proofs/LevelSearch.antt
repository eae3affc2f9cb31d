-- The search for the level that has an HL01: it begins with the last of the list, and a level has the HL01 or the search goes on before it.
-- Assumes nothing.
use Rattle.std.specs.Prelude.{Some}
use Prim.Native.Nat.{ℕ, zero, suc, ◌-◌, ◌%◌, ◌≤◌, ◌<◌, min}
use mathlib.Core.Path.{◌≡◌, refl, sym, ap, ◌∙◌}
use mathlib.Core.Bool.{true, false, cond}
use mathlib.Core.List.{List}
use native.Mathlib.Omega.{arith}
use lib.ListN.{get_or}
use Rattle.text.specs.Bytes.{Bytes}
use Rattle.finding.specs.internal.Entries.{level_entry}
use Rattle.finding.specs.internal.Lists.{lists}
use Rattle.finding.specs.internal.Notes.{link_in}
use Rattle.finding.specs.internal.Answers.{calls, sought_from, sought}

-- the level before level n in its list
abbrev pub before_in : List ℕ → ℕ → ℕ
before_in levels n = min (link_in (level_entry levels n 3)) (n - 1)

module _ (s : Bytes) (separator : ℕ) (segments levels : List ℕ) (id : Bytes) where
  -- as many steps as the number of the level are enough
  sought_enough : (k j n : ℕ) → n ≤ k → n ≤ j
      → sought_from s separator segments levels id k n ≡ sought_from s separator segments levels id j n
  sought_enough zero zero n a b = refl
  sought_enough zero (suc j) zero a b = refl
  sought_enough zero (suc j) (suc n) a b = absurd (omega arith)
  sought_enough (suc k) zero zero a b = refl
  sought_enough (suc k) zero (suc n) a b = absurd (omega arith)
  sought_enough (suc k) (suc j) zero a b = refl
  sought_enough (suc k) (suc j) (suc n) a b =
      ap (cond (calls s separator segments levels (suc n) id) (Some (suc n)))
      (sought_enough k j (min (link_in (level_entry levels (suc n) 3)) n) (omega arith) (omega arith))

  -- the level has the HL01, or has not
  pub sought_hit : (n : ℕ) → 0 < n → calls s separator segments levels n id ≡ true → sought_from s separator segments levels id n n ≡ Some n
  sought_hit zero l e = absurd (omega arith)
  sought_hit (suc n) l e = rw e

  pub sought_miss : (n : ℕ) → 0 < n → calls s separator segments levels n id ≡ false
      → sought_from s separator segments levels id n n ≡ sought_from s separator segments levels id (before_in levels n) (before_in levels n)
  sought_miss zero l e = absurd (omega arith)
  sought_miss (suc n) l e =
      let next = before_in levels (suc n) in
      let back : n ≡ suc n - 1 = omega arith in
      rw e
      (ap (λ (k : ℕ). sought_from s separator segments levels id n (min (link_in (level_entry levels (suc n) 3)) k)) back
      ∙ sought_enough n next next (omega arith) (omega arith))

-- the search begins with the last level of the list
pub sought_starts : (s : Bytes) (separator : ℕ) (segments levels lasts : List ℕ) (place : ℕ) (id : Bytes) (left : ℕ)
    → left ≡ get_or lasts (place % lists) 0 → sought s separator segments levels lasts place id ≡ sought_from s separator segments levels id left left
unfolding sought
sought_starts s separator segments levels lasts place id left e = ap (λ (n : ℕ). sought_from s separator segments levels id n n) (sym e)
