-- Packed bytes stand for the bytes: the place of a tag's packed bytes is the tag's number.
-- Assumes nothing.
use mathlib.Core.Path.{◌≡◌, refl, sym, ap, subst, ◌∙◌}
use mathlib.Core.Bool.{Bool, true, false, cond, ◌&&◌, ◌||◌}
use mathlib.Core.List.{List, [], ◌∷◌, map}
use Prim.Native.Nat.{ℕ, suc, ◌+◌, ◌*◌, ◌≤◌, ◌<◌}
use native.Mathlib.Omega.{arith}
use lib.Dec.{T, eqb, eqb→eq, leb, ltb, ltb→lt, lt→ltb}
use lib.ListN.{length, get_or}
use borrow.Author.Tests.{eq-eqb, ne_eqb, eqb-true, eqb-false}
use Rattle.text.specs.Bytes.{Bytes, every, same}
use Rattle.text.proofs.Bools.{both, first_of, second_of, or_cases, fails}
use Rattle.text.proofs.Lists.{just_two}
use Rattle.rows.specs.Tags.{tags, tag_number, place_in}
use Rattle.rows.specs.internal.Packed.{packed, place_of, packed_number}

-- what the last arm of a match knows: the number is none of the keys, of which the last comes first
abbrev pub NoneOf : List ℕ → ℕ → Type 0
NoneOf [] n = Unit {0}
NoneOf (k ∷ ks) n = NoneOf ks n × (n ≡ k → ⊥)

-- keys put in front of others one by one, so that the last comes first
abbrev pub onto : List ℕ → List ℕ → List ℕ
onto [] before = before
onto (k ∷ ks) before = onto ks (k ∷ before)

-- the keys that pass a test
abbrev pub passing : (ℕ → Bool) → List ℕ → List ℕ
passing f [] = []
passing f (k ∷ ks) = cond (f k) (k ∷ passing f ks) (passing f ks)

-- a number that passes it is none of the keys if it is none of those
none_placed : (f : ℕ → Bool) (ks before : List ℕ) (n : ℕ) → T (f n) → NoneOf (onto (passing f ks) before) n → (place_of ks n ≡ length ks) × NoneOf before n
none_placed f [] before n t h = (refl, h)
none_placed f (k ∷ ks) before n t h = by (f k) refl h (λ b. none_placed f ks b n t)
  where
    by : (b : Bool) → f k ≡ b → NoneOf (onto (passing f (k ∷ ks)) before) n
        → ((c : List ℕ) → NoneOf (onto (passing f ks) c) n → (place_of ks n ≡ length ks) × NoneOf c n)
        → (place_of (k ∷ ks) n ≡ length (k ∷ ks)) × NoneOf before n
    by true e h later =
        let i = later (k ∷ before) (rw e at h) in
        (rw (ne_eqb k n (λ z. i.1.1 (sym z)), i.0), i.1.0)
    by false e h later =
        let i = later before (rw e at h) in
        (rw (ne_eqb k n (λ z. subst (λ (b : Bool). T b) (ap f (sym z) ∙ e) t), i.0), i.1)

-- packed bytes of which there are two, and of which there are three
abbrev pub of_two : ℕ → Bool
of_two n = ltb n 131072

abbrev pub of_three : ℕ → Bool
of_three n = leb 131072 n

-- a number that is none of the keys for as many bytes is no tag
pub none_34 : (f : ℕ → Bool) (n : ℕ) → T (f n) → NoneOf (onto (passing f (map packed tags)) []) n → 34 ≡ packed_number n
unfolding packed_number
none_34 f n t h = sym (none_placed f (map packed tags) [] n t h).0

-- every byte is below 256
abbrev small : Bytes → Bool
small s = every (λ b. ltb b 256) s

packed_positive : (s : Bytes) → 1 ≤ packed s
packed_positive [] = omega arith
packed_positive (b ∷ s) = let h = packed_positive s in omega arith

-- a lowest byte and a rest are equal where the numbers are
digits : (a b p q : ℕ) → a < 256 → b < 256 → (u v : Bool) → eqb a b ≡ u → eqb p q ≡ v
    → (eqb a b && eqb p q) ≡ eqb (a + 256 * p) (b + 256 * q)
digits a b p q ha hb true true e f =
    let x = eqb-true a b e in
    let y = eqb-true p q f in
    rw (e, f) (sym (eq-eqb (a + 256 * p) (b + 256 * q) (omega arith)))
digits a b p q ha hb true false e f =
    rw (e, f) (sym (ne_eqb (a + 256 * p) (b + 256 * q) (λ h. eqb-false p q f (omega arith))))
digits a b p q ha hb false v e f =
    rw e (sym (ne_eqb (a + 256 * p) (b + 256 * q) (λ h. eqb-false a b e (omega arith))))

-- two lists of bytes are the same exactly if their packed numbers are
same_packed : (s t : Bytes) → T (small s) → T (small t) → same s t ≡ eqb (packed s) (packed t)
same_packed [] [] hs ht = refl
same_packed [] (b ∷ t) hs ht = let h = packed_positive t in sym (ne_eqb 1 (b + 256 * packed t) (λ e. omega arith))
same_packed (a ∷ s) [] hs ht = let h = packed_positive s in sym (ne_eqb (a + 256 * packed s) 1 (λ e. omega arith))
same_packed (a ∷ s) (b ∷ t) hs ht =
    rw (same_packed s t (second_of (ltb a 256) (small s) hs) (second_of (ltb b 256) (small t) ht))
    (digits a b (packed s) (packed t) (ltb→lt a 256 (first_of (ltb a 256) (small s) hs))
    (ltb→lt b 256 (first_of (ltb b 256) (small t) ht)) (eqb a b) (eqb (packed s) (packed t)) refl refl)

place_packed : (ts : List Bytes) (s : Bytes) → T (every small ts) → T (small s) → place_in ts s ≡ place_of (map packed ts) (packed s)
place_packed [] s hts hs = refl
place_packed (t ∷ ts) s hts hs =
    rw (
      same_packed t s (first_of (small t) (every small ts) hts) hs,
      place_packed ts s (second_of (small t) (every small ts) hts) hs,
    )

-- the number of packed bytes is the number of the bytes
number_packed : (s : Bytes) → T (small s) → tag_number s ≡ packed_number (packed s)
unfolding tag_number packed_number
number_packed s h = place_packed tags s tt h

same_length : (s t : Bytes) → T (same s t) → length s ≡ length t
same_length [] [] h = refl
same_length [] (b ∷ t) h = absurd h
same_length (a ∷ s) [] h = absurd h
same_length (a ∷ s) (b ∷ t) h = ap suc (same_length s t (second_of (eqb a b) (same s t) h))

-- a tag has two or three bytes
abbrev tag_length : Bytes → Bool
tag_length t = eqb (length t) 2 || eqb (length t) 3

place_past : (ts : List Bytes) (s : Bytes) → T (every tag_length ts) → (length s ≡ 2 → ⊥) → (length s ≡ 3 → ⊥)
    → place_in ts s ≡ length ts
place_past [] s h n2 n3 = refl
place_past (t ∷ ts) s h n2 n3 =
    let differ : T (same t s) → ⊥ = λ e.
    or_cases (eqb (length t) 2) (eqb (length t) 3)
    (λ l. n2 (sym (same_length t s e) ∙ eqb→eq (length t) 2 l))
    (λ l. n3 (sym (same_length t s e) ∙ eqb→eq (length t) 3 l))
    (first_of (tag_length t) (every tag_length ts) h) in
    rw (fails (same t s) differ, place_past ts s (second_of (tag_length t) (every tag_length ts) h) n2 n3)

-- bytes of another length are no tag
pub other_length : (s : Bytes) → (length s ≡ 2 → ⊥) → (length s ≡ 3 → ⊥) → 34 ≡ tag_number s
unfolding tag_number
other_length s n2 n3 = sym (place_past tags s tt n2 n3)

three_bytes : (s : Bytes) → length s ≡ 3 → s ≡ get_or s 0 0 ∷ get_or s 1 0 ∷ get_or s 2 0 ∷ []
three_bytes [] h = absurd (omega arith)
three_bytes (a ∷ []) h = absurd (omega arith)
three_bytes (a ∷ b ∷ []) h = absurd (omega arith)
three_bytes (a ∷ b ∷ c ∷ []) h = refl
three_bytes (a ∷ b ∷ c ∷ d ∷ s) h = absurd (omega arith)

-- the number found for two packed bytes
pub two_number : (s : Bytes) (y n : ℕ) → length s ≡ 2 → get_or s 0 0 < 256 → get_or s 1 0 < 256
    → y ≡ get_or s 0 0 + 256 * (get_or s 1 0 + 256 * 1) → n ≡ packed_number y → n ≡ tag_number s
two_number s y n l h0 h1 ey en =
    let a = get_or s 0 0 in
    let b = get_or s 1 0 in
    let f : T (small (a ∷ b ∷ [])) =
    both (ltb a 256) (ltb b 256 && true) (lt→ltb a 256 h0) (both (ltb b 256) true (lt→ltb b 256 h1) tt) in
    en ∙ ap packed_number ey ∙ sym (number_packed (a ∷ b ∷ []) f) ∙ ap tag_number (sym (just_two s l))

-- and for three
pub three_number : (s : Bytes) (y n : ℕ) → length s ≡ 3 → get_or s 0 0 < 256 → get_or s 1 0 < 256 → get_or s 2 0 < 256
    → y ≡ get_or s 0 0 + 256 * (get_or s 1 0 + 256 * (get_or s 2 0 + 256 * 1)) → n ≡ packed_number y → n ≡ tag_number s
three_number s y n l h0 h1 h2 ey en =
    let a = get_or s 0 0 in
    let b = get_or s 1 0 in
    let d = get_or s 2 0 in
    let f : T (small (a ∷ b ∷ d ∷ [])) =
    both (ltb a 256) (ltb b 256 && (ltb d 256 && true)) (lt→ltb a 256 h0)
    (both (ltb b 256) (ltb d 256 && true) (lt→ltb b 256 h1) (both (ltb d 256) true (lt→ltb d 256 h2) tt)) in
    en ∙ ap packed_number ey ∙ sym (number_packed (a ∷ b ∷ d ∷ []) f) ∙ ap tag_number (sym (three_bytes s l))
