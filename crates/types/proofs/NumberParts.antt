-- The parts of a text of type R, passed one behind the other, are those that the definitions read off the text. Digits in front of a text are
-- passed by every definition (`in_front`); behind them stands a point, an `E`, another byte, or nothing.
-- Assumes nothing.
use Prim.Native.Nat.{ℕ}
use mathlib.Core.Path.{◌≡◌, refl, sym, ap, subst, ◌∙◌}
use mathlib.Core.Bool.{Bool, true, false, cond, ◌||◌, true≢false}
use mathlib.Core.List.{[], ◌∷◌, ◌++◌, append_assoc, append-nil, nil≢cons}
use lib.Dec.{eqb}
use lib.ListN.{length}
use borrow.Author.Tests.{ne_eqb, eqb-true, eqb-false}
use Rattle.text.specs.Bytes.{Bytes, byte, among}
use Rattle.text.specs.Separators.{is_digit}
use Rattle.text.proofs.Bools.{and_false}
use Rattle.text.proofs.Everys.{every_both}
use Rattle.text.proofs.Tests.{and_first, and_second}
use Rattle.types.specs.Types.{is_number}
use Rattle.types.specs.Reals.{past, upto, after}
use Rattle.std.specs.Prelude.{None}
use Rattle.types.specs.internal.NumberParts.{first_digits, exponent_of_in}
use Rattle.types.proofs.FirstDigits.{behind_digits, run_digits, run_whole, run_stops}

-- bytes among which there is no b are passed by every search for b
module _ (b : ℕ) where
  other_byte : (a : ℕ) (w : Bytes) → among (a ∷ w) b ≡ false → (a ≡ b → ⊥) × (among w b ≡ false)
  other_byte a w e = by (eqb b a) refl e
    where
      by : (t : Bool) → eqb b a ≡ t → t || among w b ≡ false → (a ≡ b → ⊥) × (among w b ≡ false)
      by true p q = absurd (true≢false q)
      by false p q = (λ x. eqb-false b a p (sym x), q)

  pub upto_free : (w r : Bytes) → among w b ≡ false → upto b (w ++ r) ≡ w ++ upto b r
  upto_free [] r e = refl
  upto_free (a ∷ w) r e = let o = other_byte a w e in rw (ne_eqb a b o.0) (ap (λ (l : Bytes). a ∷ l) (upto_free w r o.1))

  pub after_free : (w r : Bytes) → among w b ≡ false → after b (w ++ r) ≡ after b r
  after_free [] r e = refl
  after_free (a ∷ w) r e = let o = other_byte a w e in rw (ne_eqb a b o.0) (after_free w r o.1)

  pub among_free : (w r : Bytes) → among w b ≡ false → among (w ++ r) b ≡ among r b
  among_free [] r e = refl
  among_free (a ∷ w) r e = let o = other_byte a w e in rw (ne_eqb b a (λ q. o.0 (sym q))) (among_free w r o.1)

  pub upto_bare : (w : Bytes) → among w b ≡ false → upto b w ≡ w
  upto_bare w e = rw append-nil at (upto_free w [] e)

  pub after_bare : (w : Bytes) → among w b ≡ false → after b w ≡ []
  after_bare w e = rw append-nil at (after_free w [] e)

  -- so are digits, where b is none
  pub digits_free : is_digit b ≡ false → (w : Bytes) → is_number w ≡ true → among w b ≡ false
  digits_free n [] e = refl
  digits_free n (a ∷ w) e =
      rw (ne_eqb b a (λ q. true≢false (sym (and_first (is_digit a) (is_number w) e) ∙ ap is_digit (sym q) ∙ n)))
      (digits_free n w (and_second (is_digit a) (is_number w) e))

  pub upto_digits : is_digit b ≡ false → (w r : Bytes) → is_number w ≡ true → upto b (w ++ r) ≡ w ++ upto b r
  upto_digits n w r e = upto_free w r (digits_free n w e)

  pub after_digits : is_digit b ≡ false → (w r : Bytes) → is_number w ≡ true → after b (w ++ r) ≡ after b r
  after_digits n w r e = after_free w r (digits_free n w e)

  pub among_digits : is_digit b ≡ false → (w r : Bytes) → is_number w ≡ true → among (w ++ r) b ≡ among r b
  among_digits n w r e = among_free w r (digits_free n w e)

-- a text that begins with no digit
no_digit : (c : ℕ) (z : Bytes) → first_digits (c ∷ z) ≡ [] → is_digit c ≡ false
no_digit c z n = by (is_digit c) n
  where
    by : (d : Bool) → cond d (c ∷ first_digits z) [] ≡ [] → d ≡ false
    by true e = absurd (nil≢cons (sym e))
    by false e = refl

abbrev E : ℕ
E = byte "E"

abbrev point : ℕ
point = byte "."

-- the digits of a text without a sign
abbrev pub digits_in : Bytes → Bytes
digits_in t = upto point (upto E t) ++ after point (upto E t)

abbrev pub places_in : Bytes → ℕ
places_in t = length (after point (upto E t))

-- what stands behind all digits: nothing, or `E` and the exponent
pub data Ends (t rest : Bytes) : Type 0 where
  ended : rest ≡ [] → among t E ≡ false → after E t ≡ [] → Ends t rest
  raised : rest ≡ E ∷ after E t → among t E ≡ true → Ends t rest

pub record Parted (t d f rest : Bytes) : Type 0 where
  pub digits_are : digits_in t ≡ d
  pub places_are : places_in t ≡ length f
  pub ends : Ends t rest

-- either the text has these digits, of which f stand behind the point, and ends so; or another byte stands among them
pub data Outcome (t d f rest : Bytes) : Type 0 where
  fine : Parted t d f rest → Outcome t d f rest
  spoilt : is_number (digits_in t) ≡ false → exponent_of_in rest ≡ None → Outcome t d f rest

-- digits in front
pub digits_front : (w r : Bytes) → is_number w ≡ true → digits_in (w ++ r) ≡ w ++ digits_in r
digits_front w r e =
    rw (upto_digits E refl w r e, upto_digits point refl w (upto E r) e, after_digits point refl w (upto E r) e)
    (append_assoc w (upto point (upto E r)) (after point (upto E r)))

pub places_front : (w r : Bytes) → is_number w ≡ true → places_in (w ++ r) ≡ places_in r
places_front w r e = rw (upto_digits E refl w r e, after_digits point refl w (upto E r) e)

ends_front : (w r rest : Bytes) → is_number w ≡ true → Ends r rest → Ends (w ++ r) rest
ends_front w r rest e (ended a b c) = ended a (among_digits E refl w r e ∙ b) (after_digits E refl w r e ∙ c)
ends_front w r rest e (raised a b) = raised (a ∙ ap (λ (l : Bytes). E ∷ l) (sym (after_digits E refl w r e))) (among_digits E refl w r e ∙ b)

in_front : (w r d f rest : Bytes) → is_number w ≡ true → Outcome r d f rest → Outcome (w ++ r) (w ++ d) f rest
in_front w r d f rest e (fine p) = fine (record {
  digits_are = digits_front w r e ∙ ap (λ (l : Bytes). w ++ l) p.digits_are;
  places_are = places_front w r e ∙ p.places_are;
  ends = ends_front w r rest e p.ends;
})
in_front w r d f rest e (spoilt n x) = spoilt (rw (digits_front w r e, every_both is_digit w (digits_in r), n) (and_false (is_number w))) x

-- what stands behind a point: digits, and then the end, an `E`, or another byte
behind_point : (y : Bytes) → first_digits y ≡ [] → Outcome (point ∷ y) [] [] y
behind_point [] n = fine (record { digits_are = refl; places_are = refl; ends = ended refl refl refl })
behind_point (c ∷ z) n = by (eqb c E) refl
  where
    by : (e : Bool) → eqb c E ≡ e → Outcome (point ∷ (c ∷ z)) [] [] (c ∷ z)
    by true e =
        let is : c ≡ E = eqb-true c E e in
        fine (record {
          digits_are = rw e;
          places_are = rw e;
          ends = raised (rw e (ap (λ (x : ℕ). x ∷ z) is)) (rw is);
        })
    by false e = spoilt (rw (e, no_digit c z n)) (rw e)

-- a point, and digits behind it
pointed : (x : Bytes) → Outcome (point ∷ x) (first_digits x) (first_digits x) (behind_digits x)
pointed x =
    let w = first_digits x in
    let y = behind_digits x in
    subst (λ (l : Bytes). Outcome (point ∷ l) w w y) (run_whole x) (go w y (run_digits x) (behind_point y (run_stops x)))
  where
    go : (w y : Bytes) → is_number w ≡ true → Outcome (point ∷ y) [] [] y → Outcome (point ∷ (w ++ y)) w w y
    go w y e (fine p) =
        let all : upto E (w ++ y) ≡ w = upto_digits E refl w y e ∙ ap (λ (l : Bytes). w ++ l) p.digits_are ∙ append-nil w in
        fine (record { digits_are = all; places_are = ap length all; ends = more p.ends })
      where
        more : Ends (point ∷ y) y → Ends (point ∷ (w ++ y)) y
        more (ended a b c) = ended a (among_digits E refl w y e ∙ b) (after_digits E refl w y e ∙ c)
        more (raised a b) = raised (a ∙ ap (λ (l : Bytes). E ∷ l) (sym (after_digits E refl w y e))) (among_digits E refl w y e ∙ b)
    go w y e (spoilt n x) = spoilt (rw (upto_digits E refl w y e, every_both is_digit w (upto E y), n) (and_false (is_number w))) x

-- a text that begins with no digit
abbrev pub fraction : Bytes → Bytes
fraction r = past point r

no_digits : (r : Bytes) → first_digits r ≡ [] → Outcome r (first_digits (fraction r)) (first_digits (fraction r)) (behind_digits (fraction r))
no_digits [] n = fine (record { digits_are = refl; places_are = refl; ends = ended refl refl refl })
no_digits (c ∷ x) n = by (eqb c point) refl (eqb c E) refl
  where
    by : (p : Bool) → eqb c point ≡ p → (e : Bool) → eqb c E ≡ e
        → Outcome (c ∷ x) (first_digits (cond p x (c ∷ x))) (first_digits (cond p x (c ∷ x))) (behind_digits (cond p x (c ∷ x)))
    by true p e q = subst (λ (b : ℕ). Outcome (b ∷ x) (first_digits x) (first_digits x) (behind_digits x)) (sym (eqb-true c point p)) (pointed x)
    by false p true q =
        let is : c ≡ E = eqb-true c E q in
        rw n (fine (record {
          digits_are = rw q;
          places_are = rw q;
          ends = raised (rw q (ap (λ (b : ℕ). b ∷ x) is)) (rw is);
        }))
    by false p false q = rw n (spoilt (rw (q, p, no_digit c x n)) (rw q))

-- any text without a sign
pub parted : (t : Bytes) → Outcome t (first_digits t ++ first_digits (fraction (behind_digits t))) (first_digits (fraction (behind_digits t)))
    (behind_digits (fraction (behind_digits t)))
parted t =
    let r = behind_digits t in
    let f = first_digits (fraction r) in
    subst (λ (l : Bytes). Outcome l (first_digits t ++ f) f (behind_digits (fraction r))) (run_whole t)
    (in_front (first_digits t) r f f (behind_digits (fraction r)) (run_digits t) (no_digits r (run_stops t)))
