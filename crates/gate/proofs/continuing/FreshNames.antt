-- Text that can always be written: a name of k digits that differs from fewer than 4 ^ k names, and a number in k digits.
-- Assumes nothing.
use Prim.Native.Nat.{ℕ, zero, suc, ◌+◌, ◌*◌, ◌/◌, ◌%◌, ◌≤◌, ◌<◌}
use mathlib.Core.Path.{◌≡◌, refl, ap}
use mathlib.Core.Bool.{Bool, true, false, not, ◌&&◌}
use mathlib.Core.List.{List, [], ◌∷◌, ◌++◌}
use native.Mathlib.Omega.{arith}
use native.Mathlib.Decide.{dec_lt}
use borrow.Author.Tests.{eqb-true}
use lib.Dec.{T, eqb, leb, le→leb}
use lib.ListN.{length, length-append}
use Rattle.text.specs.Bytes.{Bytes, every, same, value_of}
use Rattle.text.specs.Separators.{is_digit}
use Rattle.text.proofs.Bools.{both, first_of, second_of}
use Rattle.text.proofs.Everys.{every_append}
use Rattle.types.proofs.Figures.{value_snoc}

-- 1 where the test passes
abbrev one : Bool → ℕ
one true = 1
one false = 0

-- the text before the others, where the test passes
abbrev keep_if : Bool → Bytes → List Bytes → List Bytes
keep_if true s l = s ∷ l
keep_if false s l = l

-- what comes after the byte d in the names that begin with it
unfoldable tails : ℕ → List Bytes → List Bytes
tails d [] = []
tails d ([] ∷ l) = tails d l
tails d ((b ∷ s) ∷ l) = keep_if (eqb b d) s (tails d l)

-- its length
keep_length : (t : Bool) (s : Bytes) (l : List Bytes) → length (keep_if t s l) ≡ one t + length l
keep_length true s l = omega arith
keep_length false s l = omega arith

-- a byte is at most one of the digits 0 to 3
one_digit : (b : ℕ) → one (eqb b 48) + one (eqb b 49) + one (eqb b 50) + one (eqb b 51) ≤ 1
one_digit b = go (eqb b 48) (eqb b 49) (eqb b 50) (eqb b 51) refl refl refl refl
  where
    go : (p q r s : Bool) → eqb b 48 ≡ p → eqb b 49 ≡ q → eqb b 50 ≡ r → eqb b 51 ≡ s → one p + one q + one r + one s ≤ 1
    go true true r s e f g h = absurd (omega (arith, eqb-true b 48 e, eqb-true b 49 f))
    go true false true s e f g h = absurd (omega (arith, eqb-true b 48 e, eqb-true b 50 g))
    go true false false true e f g h = absurd (omega (arith, eqb-true b 48 e, eqb-true b 51 h))
    go true false false false e f g h = omega arith
    go false true true s e f g h = absurd (omega (arith, eqb-true b 49 f, eqb-true b 50 g))
    go false true false true e f g h = absurd (omega (arith, eqb-true b 49 f, eqb-true b 51 h))
    go false true false false e f g h = omega arith
    go false false true true e f g h = absurd (omega (arith, eqb-true b 50 g, eqb-true b 51 h))
    go false false true false e f g h = omega arith
    go false false false true e f g h = omega arith
    go false false false false e f g h = omega arith

-- so the four lists of tails are together no longer than the names
tails_few : (l : List Bytes) → length (tails 48 l) + length (tails 49 l) + length (tails 50 l) + length (tails 51 l) ≤ length l
unfolding tails
tails_few [] = omega arith
tails_few ([] ∷ l) = omega (arith, tails_few l)
tails_few ((b ∷ s) ∷ l) =
    rw (
      keep_length (eqb b 48) s (tails 48 l),
      keep_length (eqb b 49) s (tails 49 l),
      keep_length (eqb b 50) s (tails 50 l),
      keep_length (eqb b 51) s (tails 51 l),
    )
    (omega (arith, tails_few l, one_digit b))

-- the name is none of the list
abbrev pub Differs : Bytes → List Bytes → Type 0
Differs name l = T (every (λ (s : Bytes). not (same s name)) l)

-- a name that begins with d differs from all names if its tail differs from all their tails
tail_differs : (d : ℕ) (name : Bytes) (l : List Bytes) → Differs name (tails d l) → Differs (d ∷ name) l
unfolding tails
tail_differs d name [] h = tt
tail_differs d name ([] ∷ l) h = tail_differs d name l h
tail_differs d name ((b ∷ s) ∷ l) h = go (eqb b d) h (tail_differs d name l)
  where
    go : (t : Bool) → Differs name (keep_if t s (tails d l)) → (Differs name (tails d l) → Differs (d ∷ name) l)
        → T (not (t && same s name) && every (λ (x : Bytes). not (same x (d ∷ name))) l)
    go true h f =
        let rest = every (λ (x : Bytes). not (same x name)) (tails d l) in
        both (not (same s name)) (every (λ (x : Bytes). not (same x (d ∷ name))) l) (first_of (not (same s name)) rest h)
        (f (second_of (not (same s name)) rest h))
    go false h f = f h

-- 4 ^ k
abbrev pub fours : ℕ → ℕ
fours zero = 1
fours (suc k) = fours k * 4

-- a name of k digits that is none of the list
pub record Fresh (k : ℕ) (l : List Bytes) : Type 0 where
  pub name : Bytes
  pub long : length name ≡ k
  pub digits : T (every is_digit name)
  pub differs : Differs name l

-- one digit more in front of a name that differs from the tails
fresh_more : (k : ℕ) (l : List Bytes) (d : ℕ) → T (is_digit d) → Fresh k (tails d l) → Fresh (suc k) l
fresh_more k l d t f = record {
  name = d ∷ f.name;
  long = ap suc f.long;
  digits = both (is_digit d) (every is_digit f.name) t f.digits;
  differs = tail_differs d f.name l f.differs;
}

-- one of the four digits begins at most a quarter of the names
fresh_step : (k : ℕ) (l : List Bytes) → length l < fours k * 4 → ((d : ℕ) → length (tails d l) < fours k → Fresh k (tails d l)) → Fresh (suc k) l
fresh_step k l h f = go (dec_lt (length (tails 48 l)) (fours k)) (dec_lt (length (tails 49 l)) (fours k)) (dec_lt (length (tails 50 l)) (fours k))
  where
    go : Dec (length (tails 48 l) < fours k) → Dec (length (tails 49 l) < fours k) → Dec (length (tails 50 l) < fours k) → Fresh (suc k) l
    go (yes p) q r = fresh_more k l 48 tt (f 48 p)
    go (no p) (yes q) r = fresh_more k l 49 tt (f 49 q)
    go (no p) (no q) (yes r) = fresh_more k l 50 tt (f 50 r)
    go (no p) (no q) (no r) = fresh_more k l 51 tt (f 51 (omega (arith, tails_few l)))

-- fewer than 4 ^ k names leave one of k digits
pub fresh : (k : ℕ) (l : List Bytes) → length l < fours k → Fresh k l
fresh zero [] h = record { name = []; long = refl; digits = tt; differs = tt }
fresh zero (s ∷ l) h = absurd (omega arith)
fresh (suc k) l h = fresh_step k l h (λ d p. fresh k (tails d l) p)

-- 10 ^ k
abbrev pub tens : ℕ → ℕ
tens zero = 1
tens (suc k) = tens k * 10

-- the number in k digits
pub record Numeral (k n : ℕ) : Type 0 where
  pub text : Bytes
  pub long : length text ≡ k
  pub digits : T (every is_digit text)
  pub worth : value_of text ≡ n

-- a number below 10 has a digit
is_digit_lem : (n : ℕ) → n < 10 → T (is_digit (48 + n))
is_digit_lem n h = both (leb 48 (48 + n)) (leb (48 + n) 57) (le→leb 48 (48 + n) (omega arith)) (le→leb (48 + n) 57 (omega arith))

-- a number below 10 ^ k is written with k digits
pub numeral : (k n : ℕ) → n < tens k → Numeral k n
numeral zero n h = record { text = []; long = refl; digits = tt; worth = omega arith }
numeral (suc k) n h =
    let i = numeral k (n / 10) (omega arith) in
    let last = 48 + n % 10 in
    record {
      text = i.text ++ (last ∷ []);
      long = rw (length-append, i.long) (omega arith);
      digits = every_append is_digit i.text (last ∷ []) i.digits (both (is_digit last) true (is_digit_lem (n % 10) (omega arith)) tt);
      worth = rw (value_snoc 0 i.text last, i.worth) (omega arith);
    }
