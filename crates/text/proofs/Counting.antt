-- The count of a BIN, digit by digit: what the loop has passed, and what its answer says of the bytes and of their cut.
-- Assumes nothing.
use Prim.Native.Nat.{ℕ, suc, ◌+◌, ◌-◌, ◌*◌, ◌^◌, ◌≤◌, ◌<◌}
use mathlib.Core.Path.{◌≡◌, refl, sym, ap, subst, ◌∙◌}
use mathlib.Core.Logic.{by_cases}
use mathlib.Core.Bool.{Bool, true, false, cond, ◌&&◌, ◌||◌}
use mathlib.Core.List.{[], ◌∷◌, ◌++◌}
use native.Mathlib.Omega.{arith}
use native.Mathlib.Decide.{dec_lt}
use native.Mathlib.Nat.{pow-suc, pow-le-pow_right}
use native.Mathlib.Numerals.{add-one}
use lib.Dec.{T, eqb, leb}
use lib.ListN.{length, drop, get_or}
use lib.Seq.{drop-cons}
use borrow.Author.Tests.{eq-eqb, ne_eqb, eqb-true, eqb-false, le-leb, lt-leb, lt-ltb, le-ltb, leb-true}
use Rattle.text.specs.Bytes.{Bytes, byte, every, value_from}
use Rattle.text.specs.Separators.{is_digit}
use Rattle.text.specs.Cut.{Stop, behind, may_count, cut_counted}
use Rattle.text.specs.declared.separators.Separators.{Separators}
use Rattle.text.specs.internal.Search.{Free}
use Rattle.text.specs.internal.Count.{told, count_from}
use Rattle.text.specs.declared.bin.Counted.{Counted}
use Rattle.text.specs.declared.bin.Uncounted.{Uncounted}
use Rattle.text.specs.declared.bin.Uncounted.TheVariants.{Open, Broken}
use Rattle.std.specs.Prelude.{Result, Ok, Err}
use Rattle.text.proofs.Bools.{first_of, second_of, both, passes}
use Rattle.text.proofs.CountedCut.{Digits, may_go_on, may_few}

-- digits that may go on, by the code's test of those before
pub record GoesOn (k n : ℕ) : Type 0 where
  pub may : may_count (suc k) n ≡ true
  pub few : suc k ≤ 15

pub test_goes : (k n : ℕ) → (leb 15 k || (eqb 14 k && eqb n 0)) ≡ false → GoesOn k n
test_goes k n h =
    by_cases (dec_lt k 14)
    (λ l. record { may = rw (lt-ltb (suc k) 15 (omega arith)); few = omega arith })
    (λ l.
    by_cases (dec_lt 14 k)
    (λ u. absurd (subst (λ (b : Bool). T b) (rw (le-leb 15 k (omega arith)) at h) tt))
    (λ u.
    let full : k ≡ 14 = omega arith in
    let some : (n ≡ 0) → ⊥ = λ z. subst (λ (b : Bool). T b) (rw (lt-leb 15 k (omega arith), eq-eqb 14 k (sym full), eq-eqb n 0 z) at h) tt in
    record { may = rw (le-ltb (suc k) 15 (omega arith), eq-eqb (suc k) 15 (omega arith), le-leb 1 n (omega (arith, some))); few = omega arith }))

-- the loop stands behind some digits of the bytes, the first of which is at `from`
pub record Counting (s : Bytes) (e from digits number : ℕ) : Type 0 where
  pub so_far : count_from e 0 0 from s ≡ count_from e digits number (from + digits) (drop digits s)
  pub few : digits ≤ 15
  pub small : number < 10 ^ digits

module _ {s : Bytes} {e from digits number : ℕ} (c : Counting s e from digits number) where
  -- the number is small
  pub number_small : number < 1000000000000000
  number_small =
      omega (arith, c.small, pow-le-pow_right {n = 10} (omega arith) {i = digits} {j = 15} c.few)

  module _ (inside : digits < length s) where
    abbrev b : ℕ
    b = get_or s digits 0

    now_at : count_from e 0 0 from s ≡ count_from e digits number (from + digits) (b ∷ drop (suc digits) s)
    now_at = c.so_far ∙ ap (count_from e digits number (from + digits)) (drop-cons s digits 0 inside)

    -- a digit
    module _ (other : b ≡ e → ⊥) where
      module _ (digit : is_digit b ≡ true) where
        pub digit_low : 48 ≤ b
        digit_low = leb-true 48 b (passes (leb 48 b) (first_of (leb 48 b) (leb b 57) (rw digit tt)))

        pub digit_high : b ≤ 57
        digit_high = leb-true b 57 (passes (leb b 57) (second_of (leb 48 b) (leb b 57) (rw digit tt)))

        pub counting_more : (leb 15 digits || (eqb 14 digits && eqb (number * 10 + (b - 48)) 0)) ≡ false
            → Counting s e from (digits + 1) (number * 10 + (b - 48))
        counting_more h =
            let on = test_goes digits (number * 10 + (b - 48)) h in
            let step : suc (from + digits) ≡ from + suc digits = omega arith in
            record {
              so_far = now_at ∙ rw (ne_eqb b e other, digit, on.may, add-one, step);
              few = omega (arith, on.few);
              small = rw (add-one, pow-suc 10 digits) (omega (arith, c.small, digit_low, digit_high));
            }

-- what the answer says: the count and what stands behind it, or how the cut ends
pub record Found (e k n place : ℕ) (s : Bytes) (number end : ℕ) : Type 0 where
  pub count : Bytes
  pub rest : Bytes
  pub whole : s ≡ count ++ e ∷ rest
  pub free : Free e count
  pub digits : Digits k n count
  pub number_is : number ≡ value_from n count
  pub end_is : end ≡ place + length count

module _ (q : Separators) where
  abbrev pub Finds : (k n place : ℕ) → Bytes → Result Counted Uncounted → Type 0
  Finds k n place s (Ok c) = Found q.element k n place s c.number c.end
  Finds k n place s (Err Open) = cut_counted q k n s ≡ Stop 3 0 s []
  Finds k n place s (Err Broken) = (upto : Bytes) × (more : Bytes) × (cut_counted q k n s ≡ Stop 10 1 upto more)

  -- one digit in front
  finds_more : (k n place b : ℕ) (s : Bytes) (r : Result Counted Uncounted) → eqb b q.element ≡ false → is_digit b && may_count (suc k) (n * 10 + (b - byte "0")) ≡ true
      → Finds (suc k) (n * 10 + (b - byte "0")) (suc place) s r → Finds k n place (b ∷ s) r
  finds_more k n place b s (Ok c) h d f = record {
    count = b ∷ f.count;
    rest = f.rest;
    whole = ap (λ (x : Bytes). b ∷ x) f.whole;
    free = (eqb-false b q.element h, f.free);
    digits = record {
      all = both (is_digit b) (every is_digit f.count) (first_of (is_digit b) (may_count (suc k) (n * 10 + (b - byte "0"))) (rw d tt)) f.digits.all;
      few = omega (arith, f.digits.few);
      some = f.digits.some;
    };
    number_is = f.number_is;
    end_is = omega (arith, f.end_is);
  }
  finds_more k n place b s (Err Open) h d f = rw (h, d) (ap (behind (b ∷ [])) f)
  finds_more k n place b s (Err Broken) h d f = (b ∷ f.0, f.1, rw (h, d) (ap (behind (b ∷ [])) f.2))

  pub count_finds : (k n place : ℕ) (s : Bytes) → k ≤ 15 → Finds k n place s (count_from q.element k n place s)
  count_finds k n place [] few = refl
  count_finds k n place (b ∷ s) few =
      by (eqb b q.element) refl (leb 1 n) refl (is_digit b && may_count (suc k) (n * 10 + (b - byte "0"))) refl
      (λ l. count_finds (suc k) (n * 10 + (b - byte "0")) (suc place) s l)
    where
      by : (i : Bool) → eqb b q.element ≡ i → (j : Bool) → leb 1 n ≡ j → (d : Bool) → is_digit b && may_count (suc k) (n * 10 + (b - byte "0")) ≡ d
          → (suc k ≤ 15 → Finds (suc k) (n * 10 + (b - byte "0")) (suc place) s (count_from q.element (suc k) (n * 10 + (b - byte "0")) (suc place) s))
          → Finds k n place (b ∷ s) (cond i (cond j (told n place) (Err Broken)) (cond d (count_from q.element (suc k) (n * 10 + (b - byte "0")) (suc place) s) (Err Broken)))
      by true h true l d g r = record {
        count = [];
        rest = s;
        whole = ap (λ (x : ℕ). x ∷ s) (eqb-true b q.element h);
        free = tt;
        digits = record { all = tt; few = omega arith; some = leb-true 1 n l };
        number_is = refl;
        end_is = omega arith;
      }
      by true h false l d g r = (b ∷ [], s, rw (h, l))
      by false h j l true g r =
          finds_more k n place b s (count_from q.element (suc k) (n * 10 + (b - byte "0")) (suc place) s) h g
          (r (may_few (suc k) (n * 10 + (b - byte "0")) (second_of (is_digit b) (may_count (suc k) (n * 10 + (b - byte "0"))) (rw g tt))))
      by false h j l false g r = (b ∷ [], s, rw (h, g))

-- a count that stands there is found
pub count_found : (e k n place : ℕ) (d y : Bytes) → Free e d → Digits k n d → count_from e k n place (d ++ e ∷ y) ≡ told (value_from n d) (place + length d)
count_found e k n place [] y f x = rw (eq-eqb e e refl, le-leb 1 n x.some) (ap (told n) (omega arith))
count_found e k n place (b ∷ d) y f x =
    let digit = passes (is_digit b) (first_of (is_digit b) (every is_digit d) x.all) in
    let i =
    count_found e (suc k) (n * 10 + (b - byte "0")) (suc place) d y f.1
    (record { all = second_of (is_digit b) (every is_digit d) x.all; few = omega (arith, x.few); some = x.some }) in
    rw (ne_eqb b e f.0, digit, may_go_on (suc k) (n * 10 + (b - byte "0")) d (omega (arith, x.few)) x.some)
    (i ∙ ap (told (value_from n (b ∷ d))) (omega arith))
