-- An exponent moves the point: the same digits with the point elsewhere and no exponent have the same value and the same scale.
-- Assumes nothing.
use Prim.Native.Nat.{ℕ, ◌+◌}
use mathlib.Core.Path.{◌≡◌, refl, sym, ap, ◌∙◌}
use mathlib.Core.Bool.{Bool, true, false}
use mathlib.Core.List.{[], ◌∷◌, ◌++◌, append_assoc, append-nil}
use lib.IntN.{ℤ, pos, neg_ℤ, ◌+ℤ◌, ◌-ℤ◌, +ℤ_assoc, +ℤ_idl, +ℤ_invr, neg_ℤ-+ℤ}
use lib.ListN.{length, length-append}
use Rattle.text.specs.Bytes.{Bytes, byte, value_of}
use Rattle.text.specs.Separators.{is_digit}
use Rattle.text.proofs.Everys.{every_both}
use Rattle.types.specs.Reals.{upto, after, is_negative, unsigned, digits, places}
use Rattle.types.specs.Types.{is_number}
use Rattle.types.specs.Numbers.{signed, value_in, whole_in, exponent_in}
use Rattle.types.specs.Worth.{Alike, sign, MovesThePoint}
use Rattle.types.proofs.Signs.{sign_is, unsigned_is}
use Rattle.types.proofs.FirstDigits.{digits_positive}
use Rattle.types.proofs.NumberParts.{digits_in, places_in, digits_front, places_front, upto_digits, after_digits}

abbrev E : ℕ
E = byte "E"

abbrev point : ℕ
point = byte "."

-- a - (a + b) and -a - b
less_right : (a b : ℕ) → pos a -ℤ pos (a + b) ≡ pos 0 -ℤ pos b
less_right a b =
    ap (λ (z : ℤ). pos a +ℤ z) (neg_ℤ-+ℤ (pos a) (pos b))
    ∙ sym (+ℤ_assoc (pos a) (neg_ℤ (pos a)) (neg_ℤ (pos b)))
    ∙ ap (λ (z : ℤ). z +ℤ neg_ℤ (pos b)) (+ℤ_invr (pos a))

less_left : (a b : ℕ) → neg_ℤ (pos a) -ℤ pos b ≡ pos 0 -ℤ pos (a + b)
less_left a b = sym (+ℤ_idl (neg_ℤ (pos (a + b))) ∙ neg_ℤ-+ℤ (pos a) (pos b))

-- digits before a point have no sign
no_sign : (w r : Bytes) → is_number w ≡ true → is_negative (w ++ point ∷ r) ≡ false
no_sign [] r e = refl
no_sign (b ∷ w) r e = digits_positive (b ∷ w) e

-- digits without a sign write their value
whole_digits : (x : Bytes) → is_number x ≡ true → whole_in x ≡ pos (value_of x)
whole_digits x e = rw (digits_positive x e)

-- a text with digits w before the point and h behind it, and then y, which is nothing or begins with `E`
module _ (negative : Bool) (w h y : Bytes) (ew : is_number w ≡ true) (eh : is_number h ≡ true) (stops : upto E y ≡ []) where
  abbrev u : Bytes
  u = w ++ point ∷ (h ++ y)

  abbrev text : Bytes
  text = sign negative ++ u

  bare : unsigned text ≡ u
  bare = unsigned_is negative u (λ e. no_sign w (h ++ y) ew)

  behind : upto E (h ++ y) ≡ h
  behind = upto_digits E refl h y eh ∙ rw stops (append-nil h)

  value_of_in : value_in text ≡ signed negative (value_of (w ++ h))
  value_of_in =
      let all : digits text ≡ w ++ h = ap digits_in bare ∙ digits_front w (point ∷ (h ++ y)) ew ∙ ap (λ (l : Bytes). w ++ l) behind in
      λ i. signed (sign_is negative u (λ e. no_sign w (h ++ y) ew) i) (value_of (all i))

  places_of : places text ≡ length h
  places_of = ap places_in bare ∙ places_front w (point ∷ (h ++ y)) ew ∙ ap length behind

  exponent_of : exponent_in text ≡ whole_in (after E y)
  exponent_of =
      ap whole_in (ap (after E) bare ∙ after_digits E refl w (point ∷ (h ++ y)) ew ∙ after_digits E refl h y eh)

  scale_of : exponent_in text -ℤ pos (places text) ≡ whole_in (after E y) -ℤ pos (length h)
  scale_of = λ i. exponent_of i -ℤ pos (places_of i)

-- the same digits, and one scale
alike : (negative : Bool) (w h y v k z : Bytes) (ew : is_number w ≡ true) (eh : is_number h ≡ true) (sy : upto E y ≡ [])
    (ev : is_number v ≡ true) (ek : is_number k ≡ true) (sz : upto E z ≡ []) → w ++ h ≡ v ++ k
    → whole_in (after E y) -ℤ pos (length h) ≡ whole_in (after E z) -ℤ pos (length k)
    → Alike (sign negative ++ (w ++ point ∷ (h ++ y))) (sign negative ++ (v ++ point ∷ (k ++ z)))
alike negative w h y v k z ew eh sy ev ek sz d e = record {
  value = value_of_in negative w h y ew eh sy ∙ ap (λ (l : Bytes). signed negative (value_of l)) d ∙ sym (value_of_in negative v k z ev ek sz);
  scale = scale_of negative w h y ew eh sy ∙ e ∙ sym (scale_of negative v k z ev ek sz);
}

pub moves_the_point : (negative : Bool) (w f g x : Bytes) → MovesThePoint negative w f g x
moves_the_point negative w f g x ew ef eg ex n =
    let front : is_number (w ++ f) ≡ true = rw (every_both is_digit w f, ew, ef) in
    let back : is_number (f ++ g) ≡ true = rw (every_both is_digit f g, ef, eg) in
    let same : w ++ (f ++ g) ≡ (w ++ f) ++ g = sym (append_assoc w f g) in
    let right : whole_in x -ℤ pos (length (f ++ g)) ≡ pos 0 -ℤ pos (length g) =
    ap (λ (z : ℤ). z -ℤ pos (length (f ++ g))) (whole_digits x ex ∙ ap pos n) ∙ ap (λ (k : ℕ). pos (length f) -ℤ pos k) (length-append f g)
    ∙ less_right (length f) (length g) in
    let left : whole_in (byte "-" ∷ x) -ℤ pos (length g) ≡ pos 0 -ℤ pos (length (f ++ g)) =
    ap (λ (k : ℕ). neg_ℤ (pos k) -ℤ pos (length g)) n ∙ less_left (length f) (length g) ∙ ap (λ (k : ℕ). pos 0 -ℤ pos k) (sym (length-append f g)) in (
      rw append-nil at (alike negative w (f ++ g) (E ∷ x) (w ++ f) g [] ew back refl front eg refl same right),
      rw append-nil at (alike negative (w ++ f) g (E ∷ (byte "-" ∷ x)) w (f ++ g) [] front eg refl ew back refl (sym same) left),
    )
