-- Sorted lists of numbers: each comes before all that stand behind it, in an order that is not given here. What a list holds is said by membership,
-- and what stands at its places follows. Where nothing comes before itself a sorted list holds nothing twice: so one that holds exactly the numbers
-- 1 to n has length n, for of these it holds one more with each number.
-- Assumes nothing.
use Prim.Native.Nat.{ℕ, zero, suc, ◌+◌, ◌<◌, ◌≤◌}
use mathlib.Core.Path.{◌≡◌, refl, sym, ap, subst, ◌∙◌}
use mathlib.Core.Logic.{⊎_elim, by_cases}
use mathlib.Core.Bool.{cond}
use mathlib.Core.List.{List, [], ◌∷◌, ◌++◌}
use mathlib.Core.List.Memᴰ.{head as here}
use mathlib.Core.List.Memᴰ.{tail as later}
use mathlib.Core.List.{Memᴰ as Mem}
use mathlib.Core.List.Memᴰ.{append_cases as left-or-right}
use mathlib.Core.List.Memᴰ.{cast as mem-cast}
use native.Mathlib.Omega.{arith}
use native.Mathlib.Decide.{dec_lt}
use lib.Dec.{leb}
use lib.ListN.{length}
use borrow.Author.Tests.{le-leb, lt-leb}
use Rattle.outline.specs.Outline.{At}

-- what a list holds has a place in it
pub place_of_lem : {x : ℕ} {l : List ℕ} → Mem x l → (i : ℕ) × At l i x
place_of_lem (here e) = (0, record { within = omega arith; is = sym e })
place_of_lem (later m) = let p = place_of_lem m in (suc p.0, record { within = omega (arith, p.1.within); is = p.1.is })

-- and what has a place is held
pub held_at : (l : List ℕ) (i x : ℕ) → At l i x → Mem x l
held_at [] i x a = absurd (omega arith)
held_at (y ∷ l) zero x a = here (sym a.is)
held_at (y ∷ l) (suc i) x a = later (held_at l i x (record { within = omega arith; is = a.is }))

-- how many are at most n
abbrev upto : ℕ → List ℕ → ℕ
upto n [] = 0
upto n (x ∷ l) = cond (leb x n) 1 0 + upto n l

-- none, where all are at least 1
upto_none : (l : List ℕ) → ((x : ℕ) → Mem x l → 1 ≤ x) → upto 0 l ≡ 0
upto_none [] h = refl
upto_none (x ∷ l) h = rw (lt-leb x 0 (h x (here refl))) (omega (arith, upto_none l (λ y m. h y (later m))))

-- as many as there are, where all are at most n
upto_all : (n : ℕ) (l : List ℕ) → ((x : ℕ) → Mem x l → x ≤ n) → upto n l ≡ length l
upto_all n [] h = refl
upto_all n (x ∷ l) h = rw (le-leb x n (h x (here refl))) (omega (arith, upto_all n l (λ y m. h y (later m))))

-- the next number as the bound: for any other the test is the same
same_test : (n x : ℕ) → (suc n ≡ x → ⊥) → leb x (suc n) ≡ leb x n
same_test n x other =
    by_cases (dec_lt n x)
    (λ h. lt-leb x (suc n) (omega (arith, other)) ∙ sym (lt-leb x n h))
    (λ h. le-leb x (suc n) (omega arith) ∙ sym (le-leb x n (omega arith)))

-- no more are counted where the list does not hold it
upto_absent : (n : ℕ) (l : List ℕ) → (Mem (suc n) l → ⊥) → upto (suc n) l ≡ upto n l
upto_absent n [] h = refl
upto_absent n (x ∷ l) h = rw (same_test n x (λ e. h (here e)), upto_absent n l (λ m. h (later m)))

module _ (R : ℕ → ℕ → Type 0) where
  -- each comes before all that stand behind it
  abbrev pub Sorted : List ℕ → Type 0
  Sorted [] = Unit {0}
  Sorted (x ∷ l) = ((y : ℕ) → Mem y l → R x y) × Sorted l

  -- two sorted lists are one where each of the first comes before each of the second
  pub sorted_append : (l m : List ℕ) → Sorted l → Sorted m → ((x y : ℕ) → Mem x l → Mem y m → R x y) → Sorted (l ++ m)
  sorted_append [] m s u r = u
  sorted_append (x ∷ l) m s u r =
      let first : (y : ℕ) → Mem y (l ++ m) → R x y = λ y h. ⊎_elim (s.0 y) (r x y (here refl)) (left-or-right l h) in
      (first, sorted_append l m s.1 u (λ z y h. r z y (later h)))

  -- the earlier of two places has what comes before
  pub sorted_at : (l : List ℕ) → Sorted l → (i j a b : ℕ) → At l i a → At l j b → i < j → R a b
  sorted_at [] s i j a b p q h = absurd (omega arith)
  sorted_at (x ∷ l) s i zero a b p q h = absurd (omega arith)
  sorted_at (x ∷ l) s zero (suc j) a b p q h =
      subst (λ (n : ℕ). R n b) p.is (s.0 b (held_at l j b (record { within = omega arith; is = q.is })))
  sorted_at (x ∷ l) s (suc i) (suc j) a b p q h =
      sorted_at l s.1 i j a b (record { within = omega arith; is = p.is }) (record { within = omega arith; is = q.is }) (omega arith)

  module _ (apart : (x : ℕ) → R x x → ⊥) where
    -- one more is counted where the list holds it
    upto_present : (n : ℕ) (l : List ℕ) → Sorted l → Mem (suc n) l → upto (suc n) l ≡ suc (upto n l)
    upto_present n [] s m = elim m [ ]
    upto_present n (x ∷ l) s (here e) =
        rw (le-leb x (suc n) (omega arith), lt-leb x n (omega arith), upto_absent n l (λ m. apart x (s.0 x (mem-cast (sym e) m)))) (omega arith)
    upto_present n (x ∷ l) s (later m) =
        rw (same_test n x (λ e. apart x (s.0 x (mem-cast (sym e) m)))) (omega (arith, upto_present n l s.1 m))

    -- a sorted list of exactly the numbers 1 to n has length n
    pub sorted_length : (n : ℕ) (l : List ℕ) → Sorted l → ((x : ℕ) → 1 ≤ x → x ≤ n → Mem x l)
        → ((x : ℕ) → Mem x l → (1 ≤ x) × (x ≤ n)) → length l ≡ n
    sorted_length n l s every only = sym (upto_all n l (λ x m. (only x m).1)) ∙ counted n (omega arith)
      where
        counted : (k : ℕ) → k ≤ n → upto k l ≡ k
        counted zero h = upto_none l (λ x m. (only x m).0)
        counted (suc k) h = upto_present k l s (every (suc k) (omega arith) h) ∙ ap suc (counted k (omega arith))
