-- The cut of bytes that begin like a BIN is what `CutOfBin` says: whole, ended inside one, or broken at the first byte that leaves no beginning.
-- Assumes nothing.
use Prim.Native.Nat.{ℕ, ◌<◌}
use mathlib.Core.Path.{◌≡◌, refl, sym, ap, subst, ◌∙◌}
use mathlib.Core.Logic.{◌⊎◌, inl, inr}
use mathlib.Core.Bool.{Bool, true, false}
use mathlib.Core.List.{[], ◌∷◌, ◌++◌, append_assoc}
use native.Mathlib.Omega.{arith}
use lib.Dec.{T, eqb}
use lib.ListN.{length, drop}
use lib.Seq.{append_snoc}
use borrow.Author.Tests.{eqb-true, eqb-false}
use Rattle.text.specs.Bytes.{Bytes}
use Rattle.text.specs.Separators.{Fitted}
use Rattle.text.specs.Bin.{bin_mark, begins_bin, count_in, attached_in, is_bin}
use Rattle.text.specs.Cut.{Cut, Whole, Stop, behind, cut_attached, cut_counted, cut_of}
use Rattle.text.specs.BinCut.{Beginning, Inside, CutOfBin}
use Rattle.text.specs.internal.Search.{Free}
use Rattle.text.specs.declared.separators.Separators.{Separators}
use Rattle.text.proofs.Bools.{fails}
use Rattle.text.proofs.Bins.{bin_parts, bin_made, begins_mark, bin_begins}
use Rattle.text.proofs.CutLaws.{CutLaw, Faulty}
use Rattle.text.proofs.CountedCut.{counts_digits, digits_counts, counted_jump, counted_whole, attached_whole, attached_broken}
use Rattle.text.proofs.CountedBytes.{Counted, Wanting, Tells, counted_tells}
use Rattle.text.proofs.DocumentCut.{Says, cut_says, cut_plainly, cut_marked, plain_before, cut_law}

module _ (q : Separators) where
  -- a count as the cut finds it, and as a whole BIN has it
  counted_bin : (g : Bytes) → Counted q 0 0 g → is_bin q.element (bin_mark q.element ++ g) ≡ true
  counted_bin g c =
      ap (λ (x : Bytes). is_bin q.element (bin_mark q.element ++ x)) c.is
      ∙ bin_made q.element c.count c.attached c.free
      (digits_counts c.count c.attached c.digits c.value)

  bin_counted : (g : Bytes) → T (is_bin q.element (bin_mark q.element ++ g)) → Counted q 0 0 g
  bin_counted g h =
      let b = bin_parts q.element (bin_mark q.element ++ g) h in
      record {
        count = count_in q.element (bin_mark q.element ++ g);
        attached = attached_in q.element (bin_mark q.element ++ g);
        is = ap (drop 4) b.whole;
        free = b.free;
        digits = counts_digits b.counted;
        value = b.counted.value;
      }

  -- a whole BIN and its terminator are cut off whole
  pub bin_whole : (g x : Bytes) → T (is_bin q.element g) → cut_of q (g ++ q.terminator ∷ x) ≡ Whole g x
  bin_whole g x h =
      let b = bin_parts q.element g h in
      let d = count_in q.element g in
      let p = attached_in q.element g in
      let front : g ++ q.terminator ∷ x ≡ bin_mark q.element ++ (d ++ q.element ∷ (p ++ q.terminator ∷ x)) =
      ap (λ (y : Bytes). y ++ q.terminator ∷ x) b.whole ∙ ap (λ (y : Bytes). bin_mark q.element ++ y) (append_assoc d (q.element ∷ p) (q.terminator ∷ x)) in
      ap (cut_of q) front ∙ cut_marked q (d ++ q.element ∷ (p ++ q.terminator ∷ x))
      ∙ ap (behind (bin_mark q.element)) (counted_whole q d p x b.free (counts_digits b.counted) b.counted.value)
      ∙ ap (λ (y : Bytes). Whole y x) (sym b.whole)

  -- a stop is no segment, and stops at other elements differ
  never_both : {g m u v : Bytes} {n e : ℕ} → Whole g m ≡ Stop n e u v → ⊥
  never_both h = let z : ◌≡◌ {A = ℕ} 0 1 = cc in omega arith

  other_element : {u v u' v' : Bytes} → Stop 10 1 u v ≡ Stop 10 2 u' v' → ⊥
  other_element h = let z : ◌≡◌ {A = ℕ} 1 2 = cc in omega arith

  -- a segment that does not begin like a BIN, whatever follows its terminator
  pub record Plainly (g : Bytes) : Type 0 where
    pub free : Free q.terminator g
    pub begins : (x : Bytes) → begins_bin q.element (g ++ q.terminator ∷ x) ≡ false
    pub no_bin : is_bin q.element g ≡ false

  module _ (fit : Fitted q) where
    -- what can be continued behind the mark can be with it
    inside : (f : Bytes) → Wanting q 0 0 f → Inside q (bin_mark q.element ++ f)
    inside f w = by w.more w.some w.ended
      where
        by : (more : Bytes) → 0 < length more → f ++ more ≡ w.made ++ q.terminator ∷ [] → Inside q (bin_mark q.element ++ f)
        by [] l e = absurd (omega arith)
        by (b ∷ more) l e = (
          b,
          more,
          record {
            segment = bin_mark q.element ++ w.made;
            bin = rw (counted_bin w.made w.counted) tt;
            ended = ap (λ (x : Bytes). bin_mark q.element ++ x) e;
          },
        )

    -- a cut that blames the bytes so far leaves no beginning
    no_beginning : (s : Bytes) (element : ℕ) (u m : Bytes) → (◌≡◌ {A = ℕ} 10 3) ⊎ Faulty (cut_of q) s 10 element u m → Beginning q u → ⊥
    no_beginning s element u m (inl z) b = omega (arith, z)
    no_beginning s element u m (inr f) b =
        let whole : cut_of q (u ++ b.0) ≡ Whole b.1.segment [] = ap (cut_of q) b.1.ended ∙ bin_whole b.1.segment [] b.1.bin in
        never_both (sym whole ∙ f.still b.0)

    -- where the length is at fault, the bytes before are no whole BIN
    not_counted : (f : Bytes) (b : ℕ) (m u v : Bytes) → cut_counted q 0 0 (f ++ b ∷ m) ≡ Stop 10 1 u v → Counted q 0 0 f → ⊥
    not_counted f b m u v e c =
        let jump : cut_counted q 0 0 (f ++ b ∷ m) ≡ behind (c.count ++ (q.element ∷ [])) (cut_attached q (length c.attached) (c.attached ++ b ∷ m)) =
        ap (cut_counted q 0 0) (ap (λ (x : Bytes). x ++ b ∷ m) c.is ∙ append_assoc c.count (q.element ∷ c.attached) (b ∷ m))
        ∙ counted_jump q 0 0 c.count (c.attached ++ b ∷ m) c.free c.digits
        ∙ ap (λ (n : ℕ). behind (c.count ++ (q.element ∷ [])) (cut_attached q n (c.attached ++ b ∷ m))) c.value in
        by (eqb b q.terminator) refl (sym e ∙ jump)
      where
        by : (i : Bool) → eqb b q.terminator ≡ i
            → Stop 10 1 u v ≡ behind (c.count ++ (q.element ∷ [])) (cut_attached q (length c.attached) (c.attached ++ b ∷ m)) → ⊥
        by true h z =
            never_both (sym (z ∙ ap (behind (c.count ++ (q.element ∷ []))) (attached_whole q c.attached b m (eqb-true b q.terminator h))))
        by false h z =
            other_element (z ∙ ap (behind (c.count ++ (q.element ∷ []))) (attached_broken q c.attached b m (eqb-false b q.terminator h)))

    -- from the count to the BIN
    by_count : (s : Bytes) (r : Cut) → cut_counted q 0 0 s ≡ r → Tells q 0 0 s r → CutLaw q.terminator (cut_of q) (bin_mark q.element ++ s) (behind (bin_mark q.element) r)
        → CutOfBin q (bin_mark q.element ++ s) (behind (bin_mark q.element) r)
    by_count s (Whole g m) z t law = (rw (counted_bin g t.0) tt, ap (λ (x : Bytes). bin_mark q.element ++ x) t.1)
    by_count s (Stop number element u m) z (inl t) law =
        inl
        (record {
          number_is = t.number_is;
          element_is = t.element_is;
          all = ap (λ (x : Bytes). bin_mark q.element ++ x) t.all;
          none = t.none;
          inside = inside s t.wanting;
        })
    by_count s (Stop number element u m) z (inr t) law =
        inr
        (record {
          front = bin_mark q.element ++ t.front;
          last = t.last;
          number_is = t.number_is;
          upto_is = ap (λ (x : Bytes). bin_mark q.element ++ x) t.upto_is;
          whole = ap (λ (x : Bytes). bin_mark q.element ++ x) t.whole;
          inside = inside t.front t.wanting;
          broken = no_beginning (bin_mark q.element ++ s) element (bin_mark q.element ++ u) m (rw t.number_is at law);
          element_is = which t.element_is;
        })
      where
        stops : (element ≡ 1) → cut_counted q 0 0 (t.front ++ t.last ∷ m) ≡ Stop 10 1 u m
        stops w =
            ap (cut_counted q 0 0) (sym (t.whole ∙ ap (λ (x : Bytes). x ++ m) t.upto_is ∙ append_snoc t.front t.last m)) ∙ z ∙ (λ i. Stop (t.number_is i) (w i) u m)

        which : (element ≡ 1) ⊎ ((element ≡ 2) × Counted q 0 0 t.front)
            → ((element ≡ 1) × (T (is_bin q.element (bin_mark q.element ++ t.front)) → ⊥))
            ⊎ ((element ≡ 2) × T (is_bin q.element (bin_mark q.element ++ t.front)))
        which (inl w) = inl (w, λ h. not_counted t.front t.last m u m (stops w) (bin_counted t.front h))
        which (inr w) = inr (w.0, rw (counted_bin t.front w.1) tt)

    pub cut_of_bin : (s : Bytes) → T (begins_bin q.element s) → CutOfBin q s (cut_of q s)
    cut_of_bin s h =
        subst (λ (x : Bytes). CutOfBin q x (cut_of q x)) (sym (begins_mark q.element s h))
        (rw (cut_marked q (drop 4 s))
        (by_count (drop 4 s) (cut_counted q 0 0 (drop 4 s)) refl (counted_tells q fit 0 0 (drop 4 s) tt)
        (rw (cut_marked q (drop 4 s)) at (cut_law q fit (bin_mark q.element ++ drop 4 s)))))

    pub plainly : (g m : Bytes) → begins_bin q.element (g ++ q.terminator ∷ m) ≡ false → Free q.terminator g → Plainly g
    plainly g m h f =
        let begins : (x : Bytes) → begins_bin q.element (g ++ q.terminator ∷ x) ≡ false = λ x. plain_before q fit g m x h in
        record {
          free = f;
          begins = begins;
          no_bin = fails (is_bin q.element g)
              (λ b. subst (λ (b : Bool). T b) (sym (bin_begins q.element g (q.terminator ∷ []) b) ∙ begins []) tt);
        }

    -- what is cut off is a whole BIN or such a segment
    pub cut_gives : (s g m : Bytes) → cut_of q s ≡ Whole g m → T (is_bin q.element g) ⊎ Plainly g
    cut_gives s g m e = by (begins_bin q.element s) refl
      where
        by : (b : Bool) → begins_bin q.element s ≡ b → T (is_bin q.element g) ⊎ Plainly g
        by true h = inl (subst (λ (c : Cut). CutOfBin q s c) e (cut_of_bin s (rw h tt))).0
        by false h =
            let w : Says q s (Whole g m) = subst (λ (c : Cut). Says q s c) (sym (cut_plainly q s h) ∙ e) (cut_says q s) in
            inr (plainly g m (ap (begins_bin q.element) (sym w.0) ∙ h) w.1)
