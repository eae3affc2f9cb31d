-- The cut of a BIN behind its mark: where the count ends, what is cut off, and that nothing beyond the end decides.
-- Assumes nothing.
use Prim.Native.Nat.{ℕ, suc, ◌+◌, ◌-◌, ◌*◌, ◌≤◌}
use mathlib.Core.Path.{◌≡◌, refl, sym, ap, subst, ◌∙◌}
use mathlib.Core.Logic.{inl, inr, by_cases}
use mathlib.Core.Bool.{Bool, true, false, cond, ◌&&◌}
use mathlib.Core.List.{[], ◌∷◌, ◌++◌, append_assoc}
use native.Mathlib.Omega.{arith}
use native.Mathlib.Decide.{dec_lt}
use lib.Dec.{T, eqb, leb, ltb, ltb→lt, eqb→eq}
use lib.ListN.{length, take, drop, get_or, length-append}
use lib.Seq.{take_at, drop_at, get_or_at, split_at, length-take-le, append_snoc}
use borrow.Author.Tests.{eq-eqb, ne_eqb, eqb-true, eqb-false, le-leb, lt-leb, lt-ltb, le-ltb}
use Rattle.text.specs.Bytes.{Bytes, byte, every, value_from}
use Rattle.text.specs.Separators.{is_digit}
use Rattle.text.specs.Cut.{Cut, Whole, Stop, behind, cut_attached, may_count, cut_counted}
use Rattle.text.specs.declared.separators.Separators.{Separators}
use Rattle.text.specs.internal.Search.{Free}
use Rattle.text.proofs.Bools.{first_of, second_of, passes, or_cases}
use Rattle.text.proofs.Bins.{Counts}
use Rattle.text.proofs.CutLaws.{CutLaw}

-- the law of a cut with bytes in front
pub law_behind : (t : ℕ) (c d : Bytes → Cut) (front : Bytes) → ((x : Bytes) → c (front ++ x) ≡ behind front (d x)) → (s : Bytes) (r : Cut)
    → CutLaw t d s r → CutLaw t c (front ++ s) (behind front r)
law_behind t c d front h s (Whole g m) k = (
  ap (λ (x : Bytes). front ++ x) k.0 ∙ sym (append_assoc front g (t ∷ m)),
  λ x. ap c (append_assoc front g (t ∷ x)) ∙ h (g ++ t ∷ x) ∙ ap (behind front) (k.1 x),
)
law_behind t c d front h s (Stop n e u m) (inl x) = inl x
law_behind t c d front h s (Stop n e u m) (inr k) =
    inr
    (record {
      is_10 = k.is_10;
      whole = ap (λ (x : Bytes). front ++ x) k.whole ∙ sym (append_assoc front u m);
      some = rw (length-append front u) (omega (arith, k.some));
      still = λ x. ap c (append_assoc front u x) ∙ h (u ++ x) ∙ ap (behind front) (k.still x);
    })

-- a byte that breaks
law_broken : (t : ℕ) (c : Bytes → Cut) (b element : ℕ) → ((x : Bytes) → c (b ∷ x) ≡ Stop 10 element (b ∷ []) x) → (s : Bytes)
    → CutLaw t c (b ∷ s) (Stop 10 element (b ∷ []) s)
law_broken t c b element h s = inr (record { is_10 = refl; whole = refl; some = omega arith; still = h })

-- a test picks one of two cuts
law_either : (t : ℕ) (c : Bytes → Cut) (b : ℕ) (s : Bytes) (i : Bool) (f g : Bytes → Cut) → ((x : Bytes) → c (b ∷ x) ≡ cond i (f x) (g x))
    → (i ≡ true → ((x : Bytes) → c (b ∷ x) ≡ f x) → CutLaw t c (b ∷ s) (f s)) → (i ≡ false → ((x : Bytes) → c (b ∷ x) ≡ g x) → CutLaw t c (b ∷ s) (g s))
    → CutLaw t c (b ∷ s) (cond i (f s) (g s))
law_either t c b s true f g h p q = p refl h
law_either t c b s false f g h p q = q refl h

-- the digits of a count go on: so many, which write so much with those before them, for so many bytes
pub record Digits (k n : ℕ) (count : Bytes) : Type 0 where
  pub all : T (every is_digit count)
  pub few : k + length count ≤ 15
  pub some : 1 ≤ value_from n count

-- the digits of a whole count, and back
pub some_digit : (d : Bytes) → Digits 0 0 d → 1 ≤ length d
some_digit [] x = absurd (omega (arith, x.some))
some_digit (b ∷ d) x = omega arith

pub counts_digits : {d p : Bytes} → Counts d p → Digits 0 0 d
counts_digits c = record { all = c.digits; few = omega (arith, c.few); some = omega (arith, c.value, c.long) }

pub digits_counts : (d p : Bytes) → Digits 0 0 d → value_from 0 d ≡ length p → Counts d p
digits_counts d p x v = record {
  some = some_digit d x;
  few = omega (arith, x.few);
  digits = x.all;
  value = v;
  long = omega (arith, v, x.some);
}

-- digits before the end of a count may go on
pub may_go_on : (k n : ℕ) (d : Bytes) → k + length d ≤ 15 → 1 ≤ value_from n d → may_count k n ≡ true
may_go_on k n [] l s =
    by_cases (dec_lt k 15) (λ h. rw (lt-ltb k 15 h)) (λ h. rw (le-ltb k 15 (omega arith), eq-eqb k 15 (omega arith), le-leb 1 n s))
may_go_on k n (b ∷ d) l s = rw (lt-ltb k 15 (omega arith))

-- there are 15 at most
pub may_few : (k n : ℕ) → T (may_count k n) → k ≤ 15
may_few k n h =
    or_cases (ltb k 15) (eqb k 15 && leb 1 n) (λ z. omega (arith, ltb→lt k 15 z))
    (λ z. omega (arith, eqb→eq k 15 (first_of (eqb k 15) (leb 1 n) z))) h

module _ (q : Separators) where
  abbrev e : ℕ
  e = q.element

  abbrev t : ℕ
  t = q.terminator

  -- BIN02 by what stands behind its bytes
  pub attached_short : (n : ℕ) (s : Bytes) → length s ≤ n → cut_attached q n s ≡ Stop 3 0 s []
  unfolding cut_attached
  attached_short n s l = rw (le-leb (length s) n l)

  module _ (p : Bytes) (b : ℕ) (x : Bytes) where
    longer : leb (length (p ++ b ∷ x)) (length p) ≡ false
    longer = lt-leb (length (p ++ b ∷ x)) (length p) (rw (length-append p (b ∷ x)) (omega arith))

    pub attached_whole : b ≡ t → cut_attached q (length p) (p ++ b ∷ x) ≡ Whole p x
    unfolding cut_attached
    attached_whole z =
        rw (longer, get_or_at p b x 0 (length p) refl, eq-eqb b t z, take_at p (b ∷ x) (length p) refl)
        (ap (Whole p) (ap (drop (suc (length p))) (sym (append_snoc p b x)) ∙ drop_at (p ++ (b ∷ [])) x (suc (length p)) (simp length-append (omega arith))))

    pub attached_broken : (b ≡ t → ⊥) → cut_attached q (length p) (p ++ b ∷ x) ≡ Stop 10 2 (p ++ (b ∷ [])) x
    unfolding cut_attached
    attached_broken z =
        let long : length (p ++ (b ∷ [])) ≡ suc (length p) = simp length-append (omega arith) in
        let front : take (suc (length p)) (p ++ b ∷ x) ≡ p ++ (b ∷ []) =
        ap (take (suc (length p))) (sym (append_snoc p b x)) ∙ take_at (p ++ (b ∷ [])) x (suc (length p)) long in
        let back : drop (suc (length p)) (p ++ b ∷ x) ≡ x =
        ap (drop (suc (length p))) (sym (append_snoc p b x)) ∙ drop_at (p ++ (b ∷ [])) x (suc (length p)) long in
        rw (longer, get_or_at p b x 0 (length p) refl, ne_eqb b t z, front, back)

  attached_by : (p : Bytes) (n b : ℕ) (x : Bytes) → length p ≡ n → CutLaw t (cut_attached q n) (p ++ b ∷ x) (cut_attached q n (p ++ b ∷ x))
  attached_by p n b x z = rw (← z) (by (eqb b t) refl)
    where
      by : (i : Bool) → eqb b t ≡ i → CutLaw t (cut_attached q (length p)) (p ++ b ∷ x) (cut_attached q (length p) (p ++ b ∷ x))
      by true h =
          let w = eqb-true b t h in
          rw (attached_whole p b x w) (ap (λ (y : ℕ). p ++ y ∷ x) w, λ y. attached_whole p t y refl)
      by false h =
          let w = eqb-false b t h in
          rw (attached_broken p b x w)
          (inr
          (record {
            is_10 = refl;
            whole = sym (append_snoc p b x);
            some = simp length-append (omega arith);
            still = λ y. ap (cut_attached q (length p)) (append_snoc p b y) ∙ attached_broken p b y w;
          }))

  pub attached_law : (n : ℕ) (s : Bytes) → CutLaw t (cut_attached q n) s (cut_attached q n s)
  attached_law n s =
      by_cases (dec_lt n (length s))
      (λ l.
      let w = split_at s n 0 l in
      subst (λ (x : Bytes). CutLaw t (cut_attached q n) x (cut_attached q n x)) (sym w)
      (attached_by (take n s) n (get_or s n 0) (drop (suc n) s) (length-take-le n s (omega arith))))
      (λ l. rw (attached_short n s (omega arith)) (inl refl))

  -- the law of the count
  abbrev next : ℕ → ℕ → ℕ
  next n b = n * 10 + (b - byte "0")

  pub counted_law : (k n : ℕ) (s : Bytes) → CutLaw t (cut_counted q k n) s (cut_counted q k n s)
  counted_law k n [] = inl refl
  counted_law k n (b ∷ s) =
      let i = counted_law (suc k) (next n b) s in
      law_either t (cut_counted q k n) b s (eqb b e) (λ x. cond (leb 1 n) (behind (b ∷ []) (cut_attached q n x)) (Stop 10 1 (b ∷ []) x))
      (λ x. cond (is_digit b && may_count (suc k) (next n b)) (behind (b ∷ []) (cut_counted q (suc k) (next n b) x)) (Stop 10 1 (b ∷ []) x)) (λ x. refl)
      (λ a h.
      law_either t (cut_counted q k n) b s (leb 1 n) (λ x. behind (b ∷ []) (cut_attached q n x)) (λ x. Stop 10 1 (b ∷ []) x) h
      (λ _ h. law_behind t (cut_counted q k n) (cut_attached q n) (b ∷ []) h s (cut_attached q n s) (attached_law n s))
      (λ _ h. law_broken t (cut_counted q k n) b 1 h s))
      (λ a h.
      law_either t (cut_counted q k n) b s (is_digit b && may_count (suc k) (next n b)) (λ x. behind (b ∷ []) (cut_counted q (suc k) (next n b) x))
      (λ x. Stop 10 1 (b ∷ []) x) h
      (λ _ h. law_behind t (cut_counted q k n) (cut_counted q (suc k) (next n b)) (b ∷ []) h s (cut_counted q (suc k) (next n b) s) i)
      (λ _ h. law_broken t (cut_counted q k n) b 1 h s))

  -- behind digits and the separator the count jumps
  behind_twice : (b : ℕ) (x : Bytes) (r : Cut) → behind (b ∷ []) (behind x r) ≡ behind (b ∷ x) r
  behind_twice b x (Whole g m) = refl
  behind_twice b x (Stop n el u m) = refl

  pub counted_jump : (k n : ℕ) (d y : Bytes) → Free e d → Digits k n d
      → cut_counted q k n (d ++ e ∷ y) ≡ behind (d ++ (e ∷ [])) (cut_attached q (value_from n d) y)
  counted_jump k n [] y f x = rw (eq-eqb e e refl, le-leb 1 n x.some)
  counted_jump k n (b ∷ d) y f x =
      let digit = passes (is_digit b) (first_of (is_digit b) (every is_digit d) x.all) in
      let i =
      counted_jump (suc k) (next n b) d y f.1
      (record { all = second_of (is_digit b) (every is_digit d) x.all; few = omega (arith, x.few); some = x.some }) in
      rw (ne_eqb b e f.0, digit, may_go_on (suc k) (next n b) d (omega (arith, x.few)) x.some)
      (ap (behind (b ∷ [])) i ∙ behind_twice b (d ++ (e ∷ [])) (cut_attached q (value_from n (b ∷ d)) y))

  -- a count, the bytes that it counts, and the terminator
  pub counted_whole : (d p x : Bytes) → Free e d → Digits 0 0 d → value_from 0 d ≡ length p
      → cut_counted q 0 0 (d ++ e ∷ (p ++ t ∷ x)) ≡ Whole (d ++ e ∷ p) x
  counted_whole d p x f c v =
      counted_jump 0 0 d (p ++ t ∷ x) f c
      ∙ rw (v, attached_whole p t x refl) (ap (λ (g : Bytes). Whole g x) (append_snoc d e p))
