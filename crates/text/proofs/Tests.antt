-- Laws of tests over lists, and a loop that asks each one in turn.
-- Assumes nothing.
use Prim.Native.Nat.{ℕ, zero, suc, ◌+◌, ◌≤◌, ◌<◌}
use mathlib.Core.Path.{◌≡◌, refl, sym, ◌∙◌}
use mathlib.Core.Bool.{Bool, true, false, ◌&&◌}
use mathlib.Core.List.{List}
use native.Mathlib.Omega.{arith}
use native.Mathlib.Numerals.{add-one}
use lib.ListN.{length, drop, get_or, drop_of_length-le}
use lib.Seq.{drop-cons}
use Rattle.text.specs.Bytes.{every}

-- two tests that pass together pass each
pub and_first : (a b : Bool) → a && b ≡ true → a ≡ true
and_first true b e = refl
and_first false b e = e

pub and_second : (a b : Bool) → a && b ≡ true → b ≡ true
and_second true b e = e
and_second false true e = refl
and_second false false e = e

-- a loop that has passed i of the list: the test of the whole is that of the rest
pub record Passing {A : Type 0} (f : A → Bool) (s : List A) (i : ℕ) : Type 0 where
  pub so_far : every f s ≡ every f (drop i s)

pub passing_none : {A : Type 0} (f : A → Bool) (s : List A) → Passing f s 0
passing_none f s = record { so_far = refl }

module _ {A : Type 0} {f : A → Bool} (d : A) {s : List A} {i : ℕ} (p : Passing f s i) where
  pub passing_more : i < length s → f (get_or s i d) ≡ true → Passing f s (i + 1)
  passing_more l e = record { so_far = p.so_far ∙ rw (add-one, drop-cons s i d l, e) }

  pub every_fails : i < length s → f (get_or s i d) ≡ false → false ≡ every f s
  every_fails l e = sym (p.so_far ∙ rw (drop-cons s i d l, e))

  pub every_passes : length s ≤ i → true ≡ every f s
  every_passes l = sym (p.so_far ∙ rw (drop_of_length-le s l))

-- a test that is computed at each number below n
abbrev pub all_below : ℕ → (ℕ → Bool) → Bool
all_below zero f = true
all_below (suc n) f = f 0 && all_below n (λ (k : ℕ). f (suc k))

pub at_below : (n : ℕ) (f : ℕ → Bool) → all_below n f ≡ true → (k : ℕ) → k < n → f k ≡ true
at_below zero f e k l = absurd (omega arith)
at_below (suc n) f e zero l = and_first (f 0) (all_below n (λ (k : ℕ). f (suc k))) e
at_below (suc n) f e (suc k) l =
    at_below n (λ (k : ℕ). f (suc k)) (and_second (f 0) (all_below n (λ (k : ℕ). f (suc k))) e) k (omega arith)
