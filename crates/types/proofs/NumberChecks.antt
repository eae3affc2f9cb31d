-- The check of a text: by its digits, how many there are, and what stands behind them.
-- Assumes nothing.
use Prim.Native.Nat.{ℕ, ◌+◌, ◌≤◌, ◌<◌}
use mathlib.Core.Path.{◌≡◌, refl, sym, ap, ◌∙◌}
use mathlib.Core.Bool.{Bool, true, false, not, cond, ◌&&◌, ◌||◌, true≢false}
use mathlib.Core.List.{◌++◌, append-nil}
use native.Mathlib.Omega.{arith}
use lib.ListN.{length, length-append}
use borrow.Author.Tests.{le-leb}
use Rattle.std.specs.Prelude.{Option, Some, None, option_map, is_some, ℤ}
use Rattle.text.specs.Bytes.{Bytes, byte, between, among, value_of}
use Rattle.text.specs.Separators.{is_digit}
use Rattle.text.proofs.Bools.{and_false}
use Rattle.text.proofs.Everys.{every_both}
use Rattle.types.specs.Types.{is_number, fits}
use Rattle.types.specs.Numbers.{checked, signed, exponent_in, number_in}
use Rattle.types.specs.Reals.{is_negative, unsigned, digits, is_written, exponent_text, is_exponent, is_real}
use Rattle.types.specs.internal.NumberParts.{first_digits, Digits, exponent_of_in, number_of}
use Rattle.types.specs.internal.Parts.{Valued}
use Rattle.types.specs.declared.kind.Kind.TheVariants.{R}
use Rattle.types.proofs.Figures.{value_append, value_small, valued, valued_behind}
use Rattle.types.proofs.FirstDigits.{digits_positive, behind_digits, run_digits}
use Rattle.types.proofs.NumberParts.{fraction, Ends, ended, raised, Outcome, fine, spoilt, parted, upto_bare, after_bare, digits_free}

-- digits alone have neither sign nor point nor exponent
module _ (s : Bytes) (e : is_number s ≡ true) where
  free : (b : ℕ) → is_digit b ≡ false → among s b ≡ false
  free b n = digits_free b n s e

  digits_unsigned : unsigned s ≡ s
  digits_unsigned = rw (digits_positive s e)

  digits_all : digits s ≡ s
  digits_all =
      rw (
        digits_unsigned,
        upto_bare (byte "E") s (free (byte "E") refl),
        upto_bare (byte ".") s (free (byte ".") refl),
        after_bare (byte ".") s (free (byte ".") refl),
      )
      (append-nil s)

  pub digits_count : length s ≡ length (digits s)
  digits_count = sym (ap length digits_all)

  pub digits_real : 1 ≤ length s → length s ≤ 15 → is_real s ≡ true
  unfolding is_real
  digits_real l m = rw (digits_all, e, digits_unsigned, free (byte "E") refl, le-leb 1 (length s) l, le-leb (length s) 15 m)

-- fifteen digits before and behind the point write a number that is small enough
module _ {whole fraction : Bytes} (d : Digits whole fraction) where
  pub valued_first : Valued 0 whole
  valued_first = valued whole d.before (omega (arith, d.few))

  pub valued_second : Valued (value_of whole) fraction
  valued_second = valued_behind whole fraction d.before d.behind d.few

  pub digits_small : value_of (whole ++ fraction) < 1000000000000000
  digits_small = rw (value_append 0 whole fraction) (value_small valued_second)

-- the tests of a count: fifteen at most, and from least to most
abbrev pub counted : ℕ → ℕ → ℕ → Bool
counted least most n = between 1 15 n && between least most n

counted_out : (a b d e : Bool) → a && b ≡ false → b && (d && a && e) ≡ false
counted_out a false d e h = refl
counted_out true true d e h = absurd (true≢false h)
counted_out false true true e h = refl
counted_out false true false e h = refl

counted_in : (a b d e : Bool) → a && b ≡ true → d ≡ true → e ≡ true → b && (d && a && e) ≡ true
counted_in true true true true h p q = refl
counted_in true true true false h p q = q
counted_in true true false e h p q = p
counted_in true false d e h p q = absurd (true≢false (sym h))
counted_in false b d e h p q = absurd (true≢false (sym h))

-- the digits before the point, what stands behind it, the digits there, and what stands behind all digits
abbrev pub whole_of : Bytes → Bytes
whole_of s = first_digits (unsigned s)

abbrev pub behind_of : Bytes → Bytes
behind_of s = fraction (behind_digits (unsigned s))

abbrev pub fraction_of : Bytes → Bytes
fraction_of s = first_digits (behind_of s)

abbrev pub rest_of : Bytes → Bytes
rest_of s = behind_digits (behind_of s)

abbrev pub count_of : Bytes → ℕ
count_of s = length (whole_of s) + length (fraction_of s)

module _ (s : Bytes) (least most : ℕ) where
  count_is : length (whole_of s ++ fraction_of s) ≡ count_of s
  count_is = length-append (whole_of s) (fraction_of s)

  -- what is not R is not checked to be one
  not_real : is_real s ≡ false → None ≡ checked least most s
  unfolding checked fits
  not_real e = rw (e, and_false (between least most (length (digits s))))

  not_digits : is_number (digits s) ≡ false → is_real s ≡ false
  unfolding is_real
  not_digits e = rw e

  pub check_count : counted least most (count_of s) ≡ false → None ≡ checked least most s
  unfolding checked fits is_real
  check_count h = by (parted (unsigned s))
    where
      by : Outcome (unsigned s) (whole_of s ++ fraction_of s) (fraction_of s) (rest_of s) → None ≡ checked least most s
      by (fine p) =
          let n : length (digits s) ≡ count_of s = ap length p.digits_are ∙ count_is in
          let out = counted_out (between 1 15 (count_of s)) (between least most (count_of s)) (is_number (digits s))
          (not (is_written s) || is_exponent (exponent_text s)) h in
          rw (n, out)
      by (spoilt n x) = not_real (not_digits n)

  pub check_exponent : exponent_of_in (rest_of s) ≡ None → None ≡ checked least most s
  unfolding is_real
  check_exponent h = not_real (by (parted (unsigned s)))
    where
      last : Ends (unsigned s) (rest_of s) → is_real s ≡ false
      last (ended a b c) =
          let none : Some None ≡ exponent_of_in (rest_of s) = ap exponent_of_in (sym a) in
          cc
      last (raised a b) =
          let no : is_exponent (exponent_text s) ≡ false = unfit (is_exponent (exponent_text s)) (ap exponent_of_in (sym a) ∙ h) in
          rw (b, no) (and_false (is_number (digits s) && between 1 15 (length (digits s))))
        where
          unfit : (x : Bool) → option_map Some (cond x (Some (exponent_in s)) None) ≡ None → x ≡ false
          unfit true e = cc
          unfit false e = refl

      by : Outcome (unsigned s) (whole_of s ++ fraction_of s) (fraction_of s) (rest_of s) → is_real s ≡ false
      by (fine p) = last p.ends
      by (spoilt n x) = not_digits n

  -- what stands behind the digits says what is asked of it
  pub record Tailed (x : Option ℤ) : Type 0 where
    pub ok : not (is_written s) || is_exponent (exponent_text s) ≡ true
    pub exponent : x ≡ cond (is_written s) (Some (exponent_in s)) None

  tailed : Ends (unsigned s) (rest_of s) → (x : Option ℤ) → exponent_of_in (rest_of s) ≡ Some x → Tailed x
  tailed (ended a b c) x h =
      let none : Some None ≡ exponent_of_in (rest_of s) = ap exponent_of_in (sym a) in
      let same : x ≡ None = cc in
      record { ok = rw b; exponent = rw b same }
  tailed (raised a b) x h = by (is_exponent (exponent_text s)) refl (ap exponent_of_in (sym a) ∙ h)
    where
      by : (y : Bool) → is_exponent (exponent_text s) ≡ y → option_map Some (cond y (Some (exponent_in s)) None) ≡ Some x → Tailed x
      by true e k =
          let same : x ≡ Some (exponent_in s) = cc in
          record { ok = rw (b, e); exponent = rw b same }
      by false e k = cc

  pub check_number : counted least most (count_of s) ≡ true → (x : Option ℤ) → exponent_of_in (rest_of s) ≡ Some x
      → Some (number_of (is_negative s) (whole_of s) (fraction_of s) x) ≡ checked least most s
  unfolding checked fits is_real
  check_number h x e = by (parted (unsigned s))
    where
      by : Outcome (unsigned s) (whole_of s ++ fraction_of s) (fraction_of s) (rest_of s)
          → Some (number_of (is_negative s) (whole_of s) (fraction_of s) x) ≡ checked least most s
      by (fine p) =
          let t = tailed p.ends x e in
          let n : length (digits s) ≡ count_of s = ap length p.digits_are ∙ count_is in
          let d : is_number (digits s) ≡ true =
          ap is_number p.digits_are ∙ rw (every_both is_digit (whole_of s) (fraction_of s), run_digits (unsigned s), run_digits (behind_of s)) in
          let fit = counted_in (between 1 15 (count_of s)) (between least most (count_of s)) (is_number (digits s))
          (not (is_written s) || is_exponent (exponent_text s)) h d t.ok in
          let same = sym p.digits_are in
          let placed = sym p.places_are in
          rw (n, fit) (λ i. Some (record {
            value = signed (is_negative s) (value_of (same i));
            places = placed i;
            exponent = t.exponent i;
          }))
      by (spoilt n y) = cc

-- a check says whether the text fits
pub checked_fit : (least most : ℕ) (s : Bytes) → is_some (checked least most s) ≡ fits R least most s
unfolding checked
checked_fit least most s = by (fits R least most s)
  where
    by : (b : Bool) → is_some (cond b (Some (number_in s)) None) ≡ b
    by true = refl
    by false = refl
