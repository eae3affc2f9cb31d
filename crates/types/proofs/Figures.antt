-- The number that digits write, digit by digit, and how large it is.
-- Assumes nothing.
use Prim.Native.Nat.{ℕ, suc, ◌+◌, ◌-◌, ◌*◌, ◌^◌, ◌≤◌, ◌<◌}
use mathlib.Core.Path.{◌≡◌, refl}
use mathlib.Core.Bool.{true}
use mathlib.Core.List.{[], ◌∷◌, ◌++◌}
use native.Mathlib.Omega.{arith}
use native.Mathlib.Nat.{pow-succ', pow-le-pow_right, mul_assoc, mul-le-mul_left, mul-le-mul_right}
use native.Mathlib.Numerals.{add-one}
use lib.Dec.{leb}
use lib.ListN.{length, take, drop, get_or, length-drop}
use lib.Pow.{pow-add}
use lib.Seq.{take-suc, length-take-le}
use borrow.Author.Tests.{leb-true}
use Rattle.text.specs.Bytes.{Bytes, value_from, value_of}
use Rattle.text.specs.Separators.{is_digit}
use Rattle.text.proofs.Bools.{passes as test-passes}
use Rattle.text.proofs.Everys.{every_at, every_take, every_drop}
use Rattle.text.proofs.Tests.{and_first, and_second}
use Rattle.types.specs.Types.{is_number}
use Rattle.types.specs.internal.Parts.{Valued, Written}

-- one digit more, and more digits
pub value_snoc : (n : ℕ) (s : Bytes) (b : ℕ) → value_from n (s ++ (b ∷ [])) ≡ value_from n s * 10 + (b - 48)
value_snoc n [] b = refl
value_snoc n (a ∷ s) b = value_snoc (n * 10 + (a - 48)) s b

pub value_append : (n : ℕ) (s t : Bytes) → value_from n (s ++ t) ≡ value_from (value_from n s) t
value_append n [] t = refl
value_append n (a ∷ s) t = value_append (n * 10 + (a - 48)) s t

pub digit_bounds : (b : ℕ) → is_digit b ≡ true → (48 ≤ b) × (b ≤ 57)
digit_bounds b e = (leb-true 48 b (and_first (leb 48 b) (leb b 57) e), leb-true b 57 (and_second (leb 48 b) (leb b 57) e))

-- one digit more makes a number at most ten times as large
one_more : (n d k : ℕ) → d ≤ 9 → (n * 10 + d + 1) * 10 ^ k ≤ (n + 1) * 10 ^ suc k
one_more n d k l =
    rw (pow-succ' 10 k, ← mul_assoc (n + 1) 10 (10 ^ k))
    (mul-le-mul_right (10 ^ k) (omega arith))

-- what digits write behind n is less than n + 1 with as many zeros
pub value_below : (n : ℕ) (s : Bytes) → is_number s ≡ true → value_from n s + 1 ≤ (n + 1) * 10 ^ length s
value_below n [] e = omega arith
value_below n (b ∷ s) e =
    let bound = digit_bounds b (and_first (is_digit b) (is_number s) e) in
    let below = value_below (n * 10 + (b - 48)) s (and_second (is_digit b) (is_number s) e) in
    omega (arith, below, one_more n (b - 48) (length s) (omega (arith, bound.0, bound.1)))

pub value_small : {n : ℕ} {s : Bytes} → Valued n s → value_from n s < 1000000000000000
value_small {n} {s} v = omega (arith, value_below n s v.digits, v.small)

-- up to fifteen digits, at once or behind one another
pub valued : (s : Bytes) → is_number s ≡ true → length s ≤ 15 → Valued 0 s
valued s e l = record { digits = e; small = omega (arith, pow-le-pow_right {n = 10} (omega arith) {i = length s} {j = 15} l) }

pub digits_few : (s : Bytes) → is_number s ≡ true → length s ≤ 15 → value_from 0 s < 1000000000000000
digits_few s e l = value_small (valued s e l)

pub valued_behind : (s t : Bytes) → is_number s ≡ true → is_number t ≡ true → length s + length t ≤ 15 → Valued (value_of s) t
valued_behind s t e f l = record {
  digits = f;
  small =
      let ten : 10 ^ (length s + length t) ≤ 10 ^ 15 = pow-le-pow_right {n = 10} (omega arith) {i = length s + length t} {j = 15} l in
      let first : value_of s + 1 ≤ 10 ^ length s = omega (arith, value_below 0 s e) in
      omega (arith, mul-le-mul_right (10 ^ length t) first, rw (pow-add 10 (length s) (length t)) at ten);
}

-- the first i digits write n behind the first number
pub record Figured (first : ℕ) (s : Bytes) (i n : ℕ) : Type 0 where
  pub so_far : n ≡ value_from first (take i s)
  pub small : (n + 1) * 10 ^ (length s - i) ≤ 10 ^ 15

pub figured_none : {first : ℕ} {s : Bytes} → Valued first s → Figured first s 0 first
figured_none {first} {s} v = let all : length s - 0 ≡ length s = omega arith in record { so_far = refl; small = rw all v.small }

-- the next is a digit, and the number so far leaves room for it
pub record FiguresFit (s : Bytes) (i n : ℕ) : Type 0 where
  pub low : 48 ≤ get_or s i 0
  pub high : get_or s i 0 ≤ 57
  pub small : n < 100000000000000

module _ {first : ℕ} {s : Bytes} {i n : ℕ} (v : Valued first s) (f : Figured first s i n) (l : i < length s) where
  ten_left : (n + 1) * 10 ≤ (n + 1) * 10 ^ (length s - i)
  ten_left = mul-le-mul_left (n + 1) (pow-le-pow_right {n = 10} (omega arith) {i = 1} {j = length s - i} (omega arith))

  pub room : FiguresFit s i n
  room =
      let d = digit_bounds (get_or s i 0) (test-passes _ (every_at is_digit s 0 (rw v.digits tt) i l)) in
      record { low = d.0; high = d.1; small = omega (arith, f.small, ten_left) }

  pub figured_more : Figured first s (i + 1) (n * 10 + (get_or s i 0 - 48))
  figured_more =
      let r = room in
      let left : suc (length s - (i + 1)) ≡ length s - i = omega arith in
      let step = one_more n (get_or s i 0 - 48) (length s - (i + 1)) (omega (arith, r.low, r.high)) in
      record {
        so_far = rw (add-one, take-suc s i 0 l, value_snoc first (take i s) (get_or s i 0), f.so_far);
        small = omega (arith, f.small, rw left at step);
      }

-- the digits of a part of the value
pub written : (s : Bytes) (from count : ℕ) → is_number s ≡ true → from + count ≤ length s → count ≤ 10 → Written s from count
written s from count e l f = record { inside = l; few = f; digits = e }

pub written_part : {s : Bytes} {from count : ℕ} → Written s from count → Valued 0 (take count (drop from s))
written_part {s} {from} {count} w =
    valued (take count (drop from s))
    (test-passes _ (every_take is_digit count (drop from s) (every_drop is_digit from s (rw w.digits tt))))
    (rw (length-take-le count (drop from s) (rw (length-drop from s) (omega (arith, w.inside)))) (omega (arith, w.few)))
