-- Texts that have the same number: zeros in front of the digits, or a point behind them, change nothing.
-- Assumes nothing.
use Prim.Native.Nat.{ℕ, zero, suc, ◌+◌, ◌≤◌}
use mathlib.Core.Path.{◌≡◌, refl, sym, ap, ◌∙◌}
use mathlib.Core.Bool.{Bool, true, false, not, cond, ◌&&◌, ◌||◌}
use mathlib.Core.List.{[], ◌∷◌, ◌++◌, append-nil}
use native.Mathlib.Omega.{arith}
use lib.Dec.{leb, eqb}
use lib.ListN.{length, drop, replicate, length-append, length-replicate}
use borrow.Author.Tests.{ne_eqb, eqb-false, le-leb, leb-true}
use Rattle.std.specs.Prelude.{Option, Some, None}
use Rattle.text.specs.Bytes.{Bytes, byte, between, every, among, value_of}
use Rattle.text.specs.Separators.{is_digit}
use Rattle.types.specs.Reals.{upto, after, is_negative, unsigned, mantissa, digits, places, is_written, exponent_text, is_exponent, is_real}
use Rattle.types.specs.Numbers.{signed, whole_in, checked}
use Rattle.types.specs.Types.{is_number, fits}
use Rattle.text.proofs.Everys.{every_both}
use Rattle.text.proofs.Tests.{and_first, and_second}
use Rattle.types.proofs.Signs.{sign_is, unsigned_is}
use Rattle.types.proofs.NumberParts.{digits_in, places_in, digits_front, places_front, upto_free, after_free, among_free, upto_bare, after_bare, after_digits, among_digits}
use Rattle.types.specs.declared.numbers.Number.{Number}
use Rattle.types.specs.Worth.{padded, ZerosTellNothing, pointed, PointTellsNothing}

-- the number and the check of a text by its parts: sign, digits, places, whether an exponent is written, and its text
abbrev number_by : Bool → ℕ → ℕ → Bool → Bytes → Number
number_by negative size behind written t = record {
  value = signed negative size;
  places = behind;
  exponent = cond written (Some (whole_in t)) None;
}

abbrev checked_by : ℕ → ℕ → Bool → Bytes → ℕ → Bool → Bytes → Option Number
checked_by least most negative ds behind written t =
    cond (between least most (length ds) && (every is_digit ds && between 1 15 (length ds) && (not written || is_exponent t)))
    (Some (number_by negative (value_of ds) behind written t)) None

by_parts : (least most : ℕ) (s : Bytes) → checked least most s ≡ checked_by least most (is_negative s) (digits s) (places s) (is_written s) (exponent_text s)
unfolding checked fits is_real
by_parts least most s = refl

-- texts of which all parts are the same have the same number
same_checked : (least most : ℕ) (s t : Bytes) → is_negative s ≡ is_negative t → digits s ≡ digits t → places s ≡ places t → is_written s ≡ is_written t
    → exponent_text s ≡ exponent_text t → checked least most s ≡ checked least most t
same_checked least most s t a b c d e =
    by_parts least most s ∙ (λ i. checked_by least most (a i) (b i) (c i) (d i) (e i)) ∙ sym (by_parts least most t)

-- zeros in front of the digits
abbrev zeros : ℕ → Bytes
zeros k = replicate k (byte "0")

zeros_number : (k : ℕ) → is_number (zeros k) ≡ true
zeros_number zero = refl
zeros_number (suc k) = zeros_number k

zeros_value : (k : ℕ) (s : Bytes) → value_of (zeros k ++ s) ≡ value_of s
zeros_value zero s = refl
zeros_value (suc k) s = zeros_value k s

zeros_positive : (k : ℕ) (s : Bytes) → is_negative s ≡ false → is_negative (zeros k ++ unsigned s) ≡ false
zeros_positive zero s e = rw e e
zeros_positive (suc k) s e = refl

-- one to fifteen digits, and nothing or an exponent behind them, are taken
taken : (negative written : Bool) (ds t : Bytes) (behind : ℕ) → every is_digit ds ≡ true → 1 ≤ length ds → length ds ≤ 15
    → not written || is_exponent t ≡ true → checked_by 1 15 negative ds behind written t ≡ Some (number_by negative (value_of ds) behind written t)
taken negative written ds t behind a l m x = rw (le-leb 1 (length ds) l, le-leb (length ds) 15 m, a, x)

-- what is asked of R, part by part
record Asked (s : Bytes) : Type 0 where
  all : every is_digit (digits s) ≡ true
  some : 1 ≤ length (digits s)
  few : length (digits s) ≤ 15
  ends : not (is_written s) || is_exponent (exponent_text s) ≡ true

asked : (s : Bytes) → is_real s ≡ true → Asked s
unfolding is_real
asked s e =
    let number = every is_digit (digits s) in
    let n = length (digits s) in
    let tail = not (is_written s) || is_exponent (exponent_text s) in
    let front = and_first (number && between 1 15 n) tail e in
    let size = and_second number (between 1 15 n) front in
    record {
      all = and_first number (between 1 15 n) front;
      some = leb-true 1 n (and_first (leb 1 n) (leb n 15) size);
      few = leb-true n 15 (and_second (leb 1 n) (leb n 15) size);
      ends = and_second (number && between 1 15 n) tail e;
    }

pub zeros_tell_nothing : (s : Bytes) → ZerosTellNothing s
zeros_tell_nothing s k e l =
    let z = zeros k in
    let ds = digits s in
    let ask = asked s e in
    let o = zeros_positive k s in
    let n = zeros_number k in
    let u : unsigned (padded k s) ≡ z ++ unsigned s = unsigned_is (is_negative s) (z ++ unsigned s) o in
    let negative : is_negative (padded k s) ≡ is_negative s = sign_is (is_negative s) (z ++ unsigned s) o in
    let more : digits (padded k s) ≡ z ++ ds = ap digits_in u ∙ digits_front z (unsigned s) n in
    let placed : places (padded k s) ≡ places s = ap places_in u ∙ places_front z (unsigned s) n in
    let written : is_written (padded k s) ≡ is_written s = ap (λ (t : Bytes). among t (byte "E")) u ∙ among_digits (byte "E") refl z (unsigned s) n in
    let raised : exponent_text (padded k s) ≡ exponent_text s = ap (after (byte "E")) u ∙ after_digits (byte "E") refl z (unsigned s) n in
    let long : length (z ++ ds) ≡ k + length ds = rw (length-append z ds, length-replicate k (byte "0")) in
    let all : every is_digit (z ++ ds) ≡ true = rw (every_both is_digit z ds, n, ask.all) in
    by_parts 1 15 (padded k s)
    ∙ (λ i. checked_by 1 15 (negative i) (more i) (placed i) (written i) (raised i))
    ∙ taken (is_negative s) (is_written s) (z ++ ds) (exponent_text s) (places s) all (omega (arith, long, ask.some)) (omega (arith, long, l)) ask.ends
    ∙ ap (λ (size : ℕ). Some (number_by (is_negative s) size (places s) (is_written s) (exponent_text s))) (zeros_value k ds)
    ∙ sym (taken (is_negative s) (is_written s) ds (exponent_text s) (places s) ask.all ask.some ask.few ask.ends)
    ∙ sym (by_parts 1 15 s)

-- what stands before the first b, and what from it on
module _ (b : ℕ) where
  abbrev from : Bytes → Bytes
  from u = drop (length (upto b u)) u

  upto_none : (u : Bytes) → among (upto b u) b ≡ false
  upto_none [] = refl
  upto_none (a ∷ u) = by (eqb a b) refl (upto_none u)
    where
      by : (t : Bool) → eqb a b ≡ t → among (upto b u) b ≡ false → among (cond t [] (a ∷ upto b u)) b ≡ false
      by true e i = refl
      by false e i = rw (ne_eqb b a (λ q. eqb-false a b e (sym q)), i)

  upto_from : (u : Bytes) → upto b u ++ from u ≡ u
  upto_from [] = refl
  upto_from (a ∷ u) = by (eqb a b) (upto_from u)
    where
      by : (t : Bool) → upto b u ++ from u ≡ u → cond t [] (a ∷ upto b u) ++ drop (length (cond t [] (a ∷ upto b u))) (a ∷ u) ≡ a ∷ u
      by true i = refl
      by false i = ap (λ (l : Bytes). a ∷ l) i

  from_stops : (u : Bytes) → upto b (from u) ≡ []
  from_stops [] = refl
  from_stops (a ∷ u) = by (eqb a b) refl (from_stops u)
    where
      by : (t : Bool) → eqb a b ≡ t → upto b (from u) ≡ [] → upto b (drop (length (cond t [] (a ∷ upto b u))) (a ∷ u)) ≡ []
      by true e i = rw e
      by false e i = i

-- the digits of a mantissa
abbrev digits_of : Bytes → Bytes
digits_of m = upto (byte ".") m ++ after (byte ".") m

-- a point in front of what stands behind the digits
pointed_positive : (u x : Bytes) → is_negative u ≡ false → is_negative (upto (byte "E") u ++ byte "." ∷ x) ≡ false
pointed_positive [] x e = refl
pointed_positive (a ∷ u) x e = by (eqb a (byte "E"))
  where
    by : (t : Bool) → is_negative (cond t [] (a ∷ upto (byte "E") u) ++ byte "." ∷ x) ≡ false
    by true = refl
    by false = e

pub point_tells_nothing : (s : Bytes) → PointTellsNothing s
point_tells_nothing s least most h =
    let E = byte "E" in
    let m = mantissa s in
    let x = drop (length m) (unsigned s) in
    let q = m ++ byte "." ∷ x in
    let o : is_negative s ≡ false → is_negative q ≡ false = λ e. pointed_positive (unsigned s) x (rw e e) in
    let u : unsigned (pointed s) ≡ q = unsigned_is (is_negative s) q o in
    let none : among m E ≡ false = upto_none E (unsigned s) in
    let whole : m ++ x ≡ unsigned s = upto_from E (unsigned s) in
    let ends : mantissa (pointed s) ≡ m ++ byte "." ∷ [] =
    ap (upto E) u ∙ upto_free E m (byte "." ∷ x) none ∙ ap (λ (l : Bytes). m ++ byte "." ∷ l) (from_stops E (unsigned s)) in
    let same : digits (pointed s) ≡ digits s =
    ap digits_of ends
    ∙ rw (upto_free (byte ".") m (byte "." ∷ []) h, after_free (byte ".") m (byte "." ∷ []) h, upto_bare (byte ".") m h, after_bare (byte ".") m h)
    (append-nil (m ++ [])) in
    let none_behind : places (pointed s) ≡ places s =
    ap (λ (l : Bytes). length (after (byte ".") l)) ends ∙ rw (after_free (byte ".") m (byte "." ∷ []) h, after_bare (byte ".") m h) in
    let written : is_written (pointed s) ≡ is_written s =
    ap (λ (l : Bytes). among l E) u ∙ among_free E m (byte "." ∷ x) none ∙ sym (among_free E m x none) ∙ ap (λ (l : Bytes). among l E) whole in
    let raised : exponent_text (pointed s) ≡ exponent_text s =
    ap (after E) u ∙ after_free E m (byte "." ∷ x) none ∙ sym (after_free E m x none) ∙ ap (after E) whole in
    same_checked least most (pointed s) s (sign_is (is_negative s) q o) same none_behind written raised
