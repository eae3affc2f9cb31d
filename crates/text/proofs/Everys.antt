-- Laws of `every`: what passes at every one of a list passes at each place, and carries over to other lists and tests.
-- Assumes nothing.
use Prim.Native.Nat.{ℕ, zero, suc, ◌<◌}
use mathlib.Core.Path.{◌≡◌, refl, sym}
use mathlib.Core.Logic.{by_cases}
use mathlib.Core.Bool.{Bool, ◌&&◌}
use mathlib.Core.List.{List, [], ◌∷◌, ◌++◌}
use native.Mathlib.Omega.{arith}
use native.Mathlib.Decide.{dec_lt}
use lib.Dec.{T, eqb, eqb→eq}
use lib.ListN.{length, take, drop, get_or, get_or-eq_default}
use Rattle.std.specs.List.{list_all}
use Rattle.text.specs.Bytes.{every, among}
use Rattle.text.proofs.Bools.{both, first_of, second_of, or_cases, and_assoc, and_true}

module _ {A : Type 0} where
  -- a weaker test passes at every one too
  pub every_weaker : (f g : A → Bool) → ((x : A) → T (f x) → T (g x)) → (l : List A) → T (every f l) → T (every g l)
  every_weaker f g w [] h = tt
  every_weaker f g w (x ∷ l) h =
      both (g x) (every g l) (w x (first_of (f x) (every f l) h)) (every_weaker f g w l (second_of (f x) (every f l) h))

  -- a test that passes at every one passes at each place
  pub every_at : (f : A → Bool) (l : List A) (d : A) → T (every f l) → (k : ℕ) → k < length l → T (f (get_or l k d))
  every_at f [] d h k b = absurd (omega arith)
  every_at f (x ∷ l) d h zero b = first_of (f x) (every f l) h
  every_at f (x ∷ l) d h (suc k) b = every_at f l d (second_of (f x) (every f l) h) k (omega arith)

  -- and past the end too, where it passes at the default
  pub every_anywhere : (f : A → Bool) (l : List A) (d : A) → T (f d) → T (every f l) → (k : ℕ) → T (f (get_or l k d))
  every_anywhere f l d t h k =
      by_cases (dec_lt k (length l)) (λ b. every_at f l d h k b) (λ n. rw (get_or-eq_default l d {n = k} (omega arith)) t)

  -- and where it passes at each place it passes at every one
  pub every_of : (f : A → Bool) (l : List A) (d : A) → ((k : ℕ) → k < length l → T (f (get_or l k d))) → T (every f l)
  every_of f [] d h = tt
  every_of f (x ∷ l) d h = both (f x) (every f l) (h 0 (omega arith)) (every_of f l d (λ k u. h (suc k) (omega arith)))

  -- a test of two lists, one after the other, is one of both
  pub every_both : (f : A → Bool) (l m : List A) → every f (l ++ m) ≡ every f l && every f m
  every_both f [] m = refl
  every_both f (x ∷ l) m = rw (every_both f l m) (sym (and_assoc (f x) (every f l) (every f m)))

  pub every_append : (f : A → Bool) (l m : List A) → T (every f l) → T (every f m) → T (every f (l ++ m))
  every_append f l m h i = rw (every_both f l m) (both (every f l) (every f m) h i)

  -- one more at the end
  pub every_snoc : (f : A → Bool) (l : List A) (x : A) → every f (l ++ (x ∷ [])) ≡ every f l && f x
  every_snoc f l x = rw (every_both f l (x ∷ []), and_true (f x))

  -- the first of them
  pub every_take : (f : A → Bool) (k : ℕ) (l : List A) → T (every f l) → T (every f (take k l))
  every_take f zero l h = tt
  every_take f (suc k) [] h = tt
  every_take f (suc k) (x ∷ l) h = both (f x) (every f (take k l)) (first_of (f x) (every f l) h) (every_take f k l (second_of (f x) (every f l) h))

  -- and those behind them
  pub every_drop : (f : A → Bool) (k : ℕ) (l : List A) → T (every f l) → T (every f (drop k l))
  every_drop f zero l h = h
  every_drop f (suc k) [] h = tt
  every_drop f (suc k) (x ∷ l) h = every_drop f k l (second_of (f x) (every f l) h)

  -- one in the middle
  pub every_middle : (f : A → Bool) (l : List A) (x : A) (m : List A) → T (every f (l ++ x ∷ m)) → T (f x)
  every_middle f l x m h = first_of (f x) (every f m) (second_of (every f l) (every f (x ∷ m)) (rw (every_both f l (x ∷ m)) at h))

-- and passes at any that is among them
pub every_among : (f : ℕ → Bool) (l : List ℕ) (x : ℕ) → T (every f l) → T (among l x) → T (f x)
every_among f [] x a m = absurd m
every_among f (y ∷ l) x a m =
    or_cases (eqb x y) (among l x) (λ e. rw (eqb→eq x y e) (first_of (f y) (every f l) a)) (every_among f l x (second_of (f y) (every f l) a)) m

-- as std tests each one of a list
pub every_all : {A : Type 0} (f : A → Bool) (l : List A) → list_all f l ≡ every f l
every_all f [] = refl
every_all f (x ∷ l) = rw (every_all f l)
