-- Lists stored one behind the other.
-- Assumes nothing.
use Prim.Native.Nat.{ℕ, suc, ◌+◌, ◌≤◌}
use mathlib.Core.Path.{◌≡◌, refl, sym, ap, ◌∙◌}
use mathlib.Core.List.{List, [], ◌∷◌, ◌++◌}
use native.Mathlib.Nat.{add-zero, zero-add}
use native.Mathlib.Numerals.{add-one}
use native.Mathlib.Omega.{arith}
use lib.ListN.{length, set, drop, length-append}
use lib.Seq.{sets, sets-eq}
use Rattle.gate.specs.Records.{over}

-- two lists are stored as one
sets_append : (l : List ℕ) (i : ℕ) (xs ys : List ℕ) → sets l i (xs ++ ys) ≡ sets (sets l i xs) (i + length xs) ys
sets_append l i [] ys = ap (λ (k : ℕ). sets l k ys) (sym (add-zero i))
sets_append l i (x ∷ xs) ys =
    let e : suc i + length xs ≡ i + suc (length xs) = omega arith in
    sets_append (set l i x) (suc i) xs ys ∙ ap (λ (k : ℕ). sets (sets (set l i x) (suc i) xs) k ys) e

-- a list that is stored from the front on lies over what was there
pub sets_over : (l xs : List ℕ) → length xs ≤ length l → sets l 0 xs ≡ over l xs
sets_over l xs room = sets-eq xs l 0 (omega arith) ∙ ap (λ (k : ℕ). xs ++ drop k l) (zero-add (length xs))

-- xs is stored in l from `at` on, which makes it l'; the place behind is `next`
abbrev pub Stored : (l : List ℕ) (at : ℕ) (xs l' : List ℕ) (next : ℕ) → Type 0
Stored l at xs l' next = (next ≡ at + length xs) × (l' ≡ sets l at xs)

-- nothing stored
pub stored_none : (l : List ℕ) (at : ℕ) → Stored l at [] l at
stored_none l at = (sym (add-zero at), refl)

-- behind a list, a number and another list
pub stored_more : (l : List ℕ) (at : ℕ) (xs : List ℕ) (y : ℕ) (ys : List ℕ) {l' l'' : List ℕ} {next next' : ℕ}
    → Stored l at xs l' next → Stored (set l' next y) (next + 1) ys l'' next' → Stored l at (xs ++ (y ∷ ys)) l'' next'
stored_more l at xs y ys s s' = (
  omega (arith, s.0, s'.0, length-append xs (y ∷ ys)),
  s'.1 ∙ rw (s.1, s.0, sets_append l at xs (y ∷ ys), add-one (at + length xs)),
)
