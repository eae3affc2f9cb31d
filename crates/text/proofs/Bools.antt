-- Laws of tests: how `&&`, `||` and `not` regroup, and what a test that passes says.
-- Assumes nothing.
use Prim.Native.Nat.{ℕ}
use mathlib.Core.Path.{◌≡◌, refl, sym}
use mathlib.Core.Bool.{Bool, true, false, not, cond, ◌&&◌, ◌||◌}
use lib.Dec.{T, T_not, eqb, eqb_refl}
use borrow.Author.Tests.{eq-eqb, ne_eqb, eqb-true, eqb-false}

pub or_assoc : (a b c : Bool) → (a || b) || c ≡ a || (b || c)
or_assoc true b c = refl
or_assoc false b c = refl

pub or_false : (a : Bool) → a || false ≡ a
or_false true = refl
or_false false = refl

pub and_assoc : (a b c : Bool) → (a && b) && c ≡ a && (b && c)
and_assoc true b c = refl
and_assoc false b c = refl

pub and_false : (a : Bool) → a && false ≡ false
and_false true = refl
and_false false = refl

pub and_true : (a : Bool) → a && true ≡ a
and_true true = refl
and_true false = refl

-- both pass exactly if each does
pub both : (a b : Bool) → T a → T b → T (a && b)
both true b p q = q
both false b p q = p

pub first_of : (a b : Bool) → T (a && b) → T a
first_of true b h = tt
first_of false b h = h

pub second_of : (a b : Bool) → T (a && b) → T b
second_of true b h = h
second_of false b h = absurd h

-- one of two passes
pub or_left : (a b : Bool) → T a → T (a || b)
or_left true b h = tt
or_left false b h = absurd h

pub or_right : (a b : Bool) → T b → T (a || b)
or_right true b h = tt
or_right false b h = h

pub or_cases : {C : Type 0} (a b : Bool) → (T a → C) → (T b → C) → T (a || b) → C
or_cases true b f g h = f tt
or_cases false b f g h = g h

-- two numbers that the test tells apart differ
pub apart : (m n : ℕ) → T (not (eqb m n)) → m ≡ n → ⊥
apart m n h e = T_not (eqb m n) h (rw e (eqb_refl n))

-- the same choice either way
pub cond_same : {A : Type 0} (b : Bool) (x : A) → cond b x x ≡ x
cond_same true x = refl
cond_same false x = refl

-- a test that passes is true, and one that does not is false
pub passes : (a : Bool) → T a → a ≡ true
passes true h = refl
passes false h = absurd h

pub fails : (a : Bool) → (T a → ⊥) → a ≡ false
fails true h = absurd (h tt)
fails false h = refl

pub not_passes : (a : Bool) → T (not a) → a ≡ false
not_passes true h = absurd h
not_passes false h = refl

-- equal numbers pass the test
pub equal_eqb : (m n : ℕ) → m ≡ n → T (eqb m n)
equal_eqb m n e = rw e (eqb_refl n)

-- of two tests, one of which passes, the second passes where the first does not
pub or_else : (a b : Bool) → T (a || b) → (T a → ⊥) → T b
or_else true b h n = absurd (n tt)
or_else false b h n = h

-- and back
pub else_or : (a b : Bool) → ((T a → ⊥) → T b) → T (a || b)
else_or true b f = tt
else_or false b f = f (λ h. h)

-- of two tests, of which the first fails or the second passes, the second passes where the first does
pub not_or : (a b : Bool) → T (not a || b) → T a → T b
not_or true b h t = h
not_or false b h t = absurd t

-- and back
pub or_not : (a b : Bool) → (T a → T b) → T (not a || b)
or_not true b f = f tt
or_not false b f = tt

-- what holds of both sides of a choice, each where the test picks it, holds of the choice
pub cond_cases : {A : Type 0} (P : A → Type 0) (b : Bool) (x y : A) → (T b → P x) → ((T b → ⊥) → P y) → P (cond b x y)
cond_cases P true x y f g = f tt
cond_cases P false x y f g = g (λ h. h)

-- the order of two numbers does not matter to the test
pub eqb_swap : (a b : ℕ) → eqb a b ≡ eqb b a
eqb_swap a b = by_value (eqb b a) refl
  where
    by_value : (t : Bool) → eqb b a ≡ t → eqb a b ≡ t
    by_value true e = eq-eqb a b (sym (eqb-true b a e))
    by_value false e = ne_eqb a b (λ q. eqb-false b a e (sym q))
