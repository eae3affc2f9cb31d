-- The cut of the documents has the two laws. In plain words, of bytes that do not begin like a BIN: a whole segment is what stands before the first
-- terminator, and the only stop is 3, where there is none.
-- Assumes nothing.
use Prim.Native.Nat.{ℕ}
use mathlib.Core.Path.{◌≡◌, refl, sym, ap, subst, ◌∙◌}
use mathlib.Core.Logic.{◌⊎◌, inl, inr}
use mathlib.Core.Bool.{Bool, true, false, cond}
use mathlib.Core.List.{[], ◌∷◌, ◌++◌}
use lib.Dec.{T, eqb, eqb→eq}
use lib.ListN.{take, drop}
use borrow.Author.Tests.{eq-eqb, ne_eqb, eqb-true, eqb-false}
use Rattle.text.specs.Bytes.{Bytes, byte, same}
use Rattle.text.specs.Separators.{Fitted}
use Rattle.text.specs.Bin.{bin_mark, begins_bin}
use Rattle.text.specs.internal.Search.{Free}
use Rattle.text.specs.Cut.{Cut, Whole, Stop, behind, cut_at_terminator, cut_counted, cut_of}
use Rattle.text.specs.declared.separators.Separators.{Separators}
use Rattle.text.proofs.Bools.{first_of, second_of, fails}
use Rattle.text.proofs.Bins.{begins_mark, mark_begins}
use Rattle.text.proofs.Serving.{serves_apart}
use Rattle.text.proofs.CutLaws.{CutLaw}
use Rattle.text.proofs.CountedCut.{law_behind, counted_law}

module _ (q : Separators) where
  -- the two ways of the cut
  pub cut_by_count : (s : Bytes) → begins_bin q.element s ≡ true → cut_of q s ≡ behind (bin_mark q.element) (cut_counted q 0 0 (drop 4 s))
  unfolding cut_of
  cut_by_count s h = rw h

  pub cut_plainly : (s : Bytes) → begins_bin q.element s ≡ false → cut_of q s ≡ cut_at_terminator q s
  unfolding cut_of
  cut_plainly s h = rw h

  -- what begins like a BIN, up to its count
  pub cut_marked : (x : Bytes) → cut_of q (bin_mark q.element ++ x) ≡ behind (bin_mark q.element) (cut_counted q 0 0 x)
  cut_marked x = cut_by_count (bin_mark q.element ++ x) (mark_begins q.element x)

  -- in plain words, one way: a segment without the terminator, and the terminator, are cut off whole
  terminated : (segment more : Bytes) → Free q.terminator segment → cut_at_terminator q (segment ++ q.terminator ∷ more) ≡ Whole segment more
  terminated [] more f = rw (eq-eqb q.terminator q.terminator refl)
  terminated (b ∷ segment) more f = rw (ne_eqb b q.terminator f.0, terminated segment more f.1)

  pub cut_whole : (segment more : Bytes) → begins_bin q.element (segment ++ q.terminator ∷ more) ≡ false → Free q.terminator segment
      → cut_of q (segment ++ q.terminator ∷ more) ≡ Whole segment more
  cut_whole segment more h f = cut_plainly (segment ++ q.terminator ∷ more) h ∙ terminated segment more f

  -- bytes without the terminator are all looked at, and the answer is 3
  unterminated : (s : Bytes) → Free q.terminator s → cut_at_terminator q s ≡ Stop 3 0 s []
  unterminated [] f = refl
  unterminated (b ∷ s) f = rw (ne_eqb b q.terminator f.0, unterminated s f.1)

  pub cut_none : (s : Bytes) → begins_bin q.element s ≡ false → Free q.terminator s → cut_of q s ≡ Stop 3 0 s []
  cut_none s h f = cut_plainly s h ∙ unterminated s f

  -- and the other way: what each cut says of the bytes
  abbrev pub Says : Bytes → Cut → Type 0
  Says s (Whole segment more) = (s ≡ segment ++ q.terminator ∷ more) × Free q.terminator segment
  Says s (Stop number element upto more) = (number ≡ 3) × (element ≡ 0) × (upto ≡ s) × (more ≡ []) × Free q.terminator s

  says_more : (b : ℕ) (s : Bytes) (c : Cut) → (b ≡ q.terminator → ⊥) → Says s c → Says (b ∷ s) (behind (b ∷ []) c)
  says_more b s (Whole segment more) h w = (ap (λ (x : Bytes). b ∷ x) w.0, (h, w.1))
  says_more b s (Stop number element upto more) h w = (w.0, w.1, ap (λ (x : Bytes). b ∷ x) w.2, w.3, (h, w.4))

  says_by : (b : ℕ) (s : Bytes) (t : Bool) → eqb b q.terminator ≡ t → Says s (cut_at_terminator q s)
      → Says (b ∷ s) (cond t (Whole [] s) (behind (b ∷ []) (cut_at_terminator q s)))
  says_by b s true e w = (ap (λ (x : ℕ). x ∷ s) (eqb-true b q.terminator e), tt)
  says_by b s false e w = says_more b s (cut_at_terminator q s) (eqb-false b q.terminator e) w

  pub cut_says : (s : Bytes) → Says s (cut_at_terminator q s)
  cut_says [] = (refl, refl, refl, refl, tt)
  cut_says (b ∷ s) = says_by b s (eqb b q.terminator) refl (cut_says s)

  -- what begins like a BIN is cut by its count, which has the law
  marked_law : (s : Bytes) → T (begins_bin q.element s) → CutLaw q.terminator (cut_of q) s (cut_of q s)
  marked_law s h =
      subst (λ (x : Bytes). CutLaw q.terminator (cut_of q) x (cut_of q x)) (sym (begins_mark q.element s h))
      (rw (cut_marked (drop 4 s))
      (law_behind q.terminator (cut_of q) (cut_counted q 0 0) (bin_mark q.element) cut_marked (drop 4 s) (cut_counted q 0 0 (drop 4 s)) (counted_law q 0 0 (drop 4 s))))

  -- with any separators: a segment and its terminator stand there; a stop is numbered 3 or 10
  abbrev pub Splits : Bytes → Cut → Type 0
  Splits s (Whole segment more) = s ≡ segment ++ q.terminator ∷ more
  Splits s (Stop number element upto more) = (number ≡ 3) ⊎ (number ≡ 10)

  pub cut_splits : (s : Bytes) → Splits s (cut_of q s)
  cut_splits s = by (begins_bin q.element s) refl
    where
      of_law : (c : Cut) → CutLaw q.terminator (cut_of q) s c → Splits s c
      of_law (Whole segment more) w = w.0
      of_law (Stop number element upto more) (inl z) = inl z
      of_law (Stop number element upto more) (inr f) = inr f.is_10

      of_says : (c : Cut) → Says s c → Splits s c
      of_says (Whole segment more) w = w.0
      of_says (Stop number element upto more) w = inl w.0

      by : (b : Bool) → begins_bin q.element s ≡ b → Splits s (cut_of q s)
      by true h = of_law (cut_of q s) (marked_law s (rw h tt))
      by false h = rw (cut_plainly s h) (of_says (cut_at_terminator q s) (cut_says s))

-- the mark holds no terminator, so it stands before one or not at all
module _ (q : Separators) (fit : Fitted q) where
  pub mark_before : (g x y : Bytes) → T (begins_bin q.element (g ++ q.terminator ∷ x)) → T (begins_bin q.element (g ++ y))
  unfolding begins_bin
  mark_before [] x y h =
      absurd
      (serves_apart (byte "B") q.terminator tt fit.terminator_serves
      (sym (eqb→eq q.terminator (byte "B") (first_of (eqb q.terminator (byte "B")) (same (take 3 x) (byte "I" ∷ byte "N" ∷ q.element ∷ [])) h))))
  mark_before (a ∷ []) x y h =
      let h1 = second_of (eqb a (byte "B")) (same (take 3 (q.terminator ∷ x)) (byte "I" ∷ byte "N" ∷ q.element ∷ [])) h in
      absurd
      (serves_apart (byte "I") q.terminator tt fit.terminator_serves
      (sym (eqb→eq q.terminator (byte "I") (first_of (eqb q.terminator (byte "I")) (same (take 2 x) (byte "N" ∷ q.element ∷ [])) h1))))
  mark_before (a ∷ (b ∷ [])) x y h =
      let h1 = second_of (eqb a (byte "B")) (same (take 3 (b ∷ (q.terminator ∷ x))) (byte "I" ∷ byte "N" ∷ q.element ∷ [])) h in
      let h2 = second_of (eqb b (byte "I")) (same (take 2 (q.terminator ∷ x)) (byte "N" ∷ q.element ∷ [])) h1 in
      absurd
      (serves_apart (byte "N") q.terminator tt fit.terminator_serves
      (sym (eqb→eq q.terminator (byte "N") (first_of (eqb q.terminator (byte "N")) (same (take 1 x) (q.element ∷ [])) h2))))
  mark_before (a ∷ (b ∷ (c ∷ []))) x y h =
      let h1 = second_of (eqb a (byte "B")) (same (take 3 (b ∷ (c ∷ (q.terminator ∷ x)))) (byte "I" ∷ byte "N" ∷ q.element ∷ [])) h in
      let h2 = second_of (eqb b (byte "I")) (same (take 2 (c ∷ (q.terminator ∷ x))) (byte "N" ∷ q.element ∷ [])) h1 in
      let h3 = second_of (eqb c (byte "N")) (same (take 1 (q.terminator ∷ x)) (q.element ∷ [])) h2 in
      absurd
      (fit.element_terminator (sym (eqb→eq q.terminator q.element (first_of (eqb q.terminator q.element) (same (take 0 x) []) h3))))
  mark_before (a ∷ (b ∷ (c ∷ (d ∷ g)))) x y h = h

  -- so bytes up to a terminator begin like a BIN or not, whatever follows it
  pub plain_before : (g m x : Bytes) → begins_bin q.element (g ++ q.terminator ∷ m) ≡ false → begins_bin q.element (g ++ q.terminator ∷ x) ≡ false
  plain_before g m x h =
      fails (begins_bin q.element (g ++ q.terminator ∷ x))
      (λ t. subst (λ (b : Bool). T b) h (mark_before g x (q.terminator ∷ m) t))

  -- the two laws
  plain_law : (s : Bytes) (c : Cut) → begins_bin q.element s ≡ false → Says q s c → CutLaw q.terminator (cut_of q) s c
  plain_law s (Whole segment more) h w = (
    w.0,
    λ x. cut_whole q segment x (plain_before segment more x (ap (begins_bin q.element) (sym w.0) ∙ h)) w.1,
  )
  plain_law s (Stop number element upto more) h w = inl w.0

  law_by : (s : Bytes) (begins : Bool) → begins_bin q.element s ≡ begins → CutLaw q.terminator (cut_of q) s (cut_of q s)
  law_by s false h = rw (cut_plainly q s h) (plain_law s (cut_at_terminator q s) h (cut_says q s))
  law_by s true h = marked_law q s (rw h tt)

  pub cut_law : (s : Bytes) → CutLaw q.terminator (cut_of q) s (cut_of q s)
  cut_law s = law_by s (begins_bin q.element s) refl
