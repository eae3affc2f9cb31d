-- Two cuts that `CutOfBin` allows are equal: of bytes that begin like a BIN it allows the cut that `cut_of` gives, and no other.
-- Assumes nothing.
use Prim.Native.Nat.{ℕ}
use mathlib.Core.Path.{◌≡◌, sym, ap, subst, ◌∙◌}
use mathlib.Core.Logic.{◌⊎◌, inl, inr}
use mathlib.Core.Bool.{Bool}
use mathlib.Core.List.{[], ◌∷◌, ◌++◌, append_assoc, append-nil, cons≢nil}
use native.Mathlib.Omega.{arith}
use lib.Dec.{T}
use lib.ListN.{length, length-append}
use lib.Seq.{append_snoc}
use Rattle.text.specs.Bytes.{Bytes}
use Rattle.text.specs.Separators.{Fitted}
use Rattle.text.specs.Bin.{begins_bin, is_bin}
use Rattle.text.specs.Cut.{Cut, Whole, Stop, cut_of}
use Rattle.text.specs.BinCut.{WholeBin, Inside, BrokenAt, CutOfBin}
use Rattle.text.specs.declared.separators.Separators.{Separators}
use Rattle.text.proofs.Lists.{Fronts, alike, shorter, longer, fronts, same_but_last}
use Rattle.text.proofs.BinCut.{bin_whole, cut_of_bin}

-- the element of a break, by whether a whole BIN stands before it
abbrev ElementBy : Bool → ℕ → Type 0
ElementBy b n = ((n ≡ 1) × (T b → ⊥)) ⊎ ((n ≡ 2) × T b)

same_element : {b b' : Bool} {n n' : ℕ} → b ≡ b' → ElementBy b n → ElementBy b' n' → n ≡ n'
same_element p (inl x) (inl y) = x.0 ∙ sym y.0
same_element p (inl x) (inr y) = absurd (x.1 (subst T (sym p) y.1))
same_element p (inr x) (inl y) = absurd (y.1 (subst T p x.1))
same_element p (inr x) (inr y) = x.0 ∙ sym y.0

module _ (q : Separators) where
  -- what begins bytes that want a byte wants one too
  inside_front : (xs ys : Bytes) → Inside q (xs ++ ys) → Inside q xs
  inside_front xs [] i = rw (append-nil xs) at i
  inside_front xs (y ∷ ys) (b, more, w) = (y, ys ++ b ∷ more, subst (WholeBin q) (append_assoc xs (y ∷ ys) (b ∷ more)) w)

  -- bytes begin with one whole BIN at most
  whole_once : {s : Bytes} (g m g' m' : Bytes) → CutOfBin q s (Whole g m) → CutOfBin q s (Whole g' m') → Whole g m ≡ Whole g' m'
  whole_once g m g' m' (h, e) (h', e') = sym (bin_whole q g m h) ∙ ap (cut_of q) (sym e ∙ e') ∙ bin_whole q g' m' h'

  -- the bytes s begin with u, which is just enough to tell: whatever is shorter wants a byte, and u wants none
  record Enough (s u m : Bytes) : Type 0 where
    pub whole : s ≡ u ++ m
    pub shorter_wants : (xs : Bytes) (b : ℕ) (z : Bytes) → u ≡ xs ++ b ∷ z → Inside q xs
    pub wants_none : Inside q u → ⊥

  -- a whole BIN and its terminator are enough
  enough_whole : (s g m : Bytes) → CutOfBin q s (Whole g m) → Enough s (g ++ q.terminator ∷ []) m
  enough_whole s g m (h, e) = record {
    whole = e ∙ sym (append_snoc g q.terminator m);
    shorter_wants = λ xs b z p. (b, z, record { segment = g; bin = h; ended = sym p });
    wants_none = λ i. no_more i.0 i.1 i.2;
  }
    where
      no_more : (b : ℕ) (z : Bytes) → WholeBin q (g ++ q.terminator ∷ [] ++ b ∷ z) → ⊥
      no_more b z w =
          let same = whole_once g (b ∷ z) w.segment [] (h, append_snoc g q.terminator (b ∷ z)) (w.bin, w.ended) in
          cons≢nil {x = b} {xs = z} cc

  -- and so are bytes that end with the one that breaks
  enough_broken : {s u m : Bytes} {number element : ℕ} → BrokenAt q s number element u m → Enough s u m
  enough_broken t = record {
    whole = t.whole;
    shorter_wants = λ xs b z e. let p = sym t.upto_is ∙ e in by xs b z p (fronts t.front (t.last ∷ []) xs (b ∷ z) p);
    wants_none = λ i. t.broken (i.0 ∷ i.1, i.2);
  }
    where
      by : (xs : Bytes) (b : ℕ) (z : Bytes) → t.front ++ t.last ∷ [] ≡ xs ++ b ∷ z → Fronts t.front (t.last ∷ []) xs (b ∷ z) → Inside q xs
      by xs b z p (alike e f) = subst (Inside q) e t.inside
      by xs b z p (shorter y ys e) = absurd (omega (arith, simp length-append at (ap length p), simp length-append at (ap length e)))
      by xs b z p (longer y ys e) = inside_front xs (y ∷ ys) (subst (Inside q) e t.inside)

  -- bytes that begin with enough do not end inside a BIN
  enough_ends : {s u m : Bytes} → Enough s u m → Inside q s → ⊥
  enough_ends {s} {u} {m} w i = w.wants_none (inside_front u m (subst (Inside q) w.whole i))

  -- and they begin with enough in one way
  enough_once : {s u m u' m' : Bytes} → Enough s u m → Enough s u' m' → (u ≡ u') × (m ≡ m')
  enough_once {s} {u} {m} {u'} {m'} w w' = by (fronts u m u' m' (sym w.whole ∙ w'.whole))
    where
      by : Fronts u m u' m' → (u ≡ u') × (m ≡ m')
      by (alike e f) = (e, f)
      by (shorter b z e) = absurd (w.wants_none (w'.shorter_wants u b z e))
      by (longer b z e) = absurd (w'.wants_none (w.shorter_wants u' b z e))

  -- where a whole BIN is cut off the bytes do not stop
  never_stops : (s g m u v : Bytes) (number element : ℕ) → CutOfBin q s (Whole g m) → CutOfBin q s (Stop number element u v) → ⊥
  never_stops s g m u v number element w (inl t) = enough_ends (enough_whole s g m w) t.inside
  never_stops s g m u v number element w (inr t) =
      t.broken ([], record { segment = g; bin = w.0; ended = append-nil u ∙ sym (enough_once (enough_whole s g m w) (enough_broken t)).0 })

  -- they break in one way
  broken_once : {s u m u' m' : Bytes} {n n' e e' : ℕ} → BrokenAt q s n e u m → BrokenAt q s n' e' u' m' → Stop n e u m ≡ Stop n' e' u' m'
  broken_once t t' =
      let same = enough_once (enough_broken t) (enough_broken t') in
      let before = same_but_last t.front t'.front t.last t'.last (sym t.upto_is ∙ same.0 ∙ t'.upto_is) in
      let element = same_element (ap (is_bin q.element) before) t.element_is t'.element_is in
      λ i. Stop ((t.number_is ∙ sym t'.number_is) i) (element i) (same.0 i) (same.1 i)

  -- two cuts that `CutOfBin` allows are one
  pub bin_cut_once : (s : Bytes) (c c' : Cut) → CutOfBin q s c → CutOfBin q s c' → c ≡ c'
  bin_cut_once s (Whole g m) (Whole g' m') w w' = whole_once g m g' m' w w'
  bin_cut_once s (Whole g m) (Stop n e u v) w w' = absurd (never_stops s g m u v n e w w')
  bin_cut_once s (Stop n e u v) (Whole g m) w w' = absurd (never_stops s g m u v n e w' w)
  bin_cut_once s (Stop n e u v) (Stop n' e' u' v') (inl t) (inl t') = cc (t.number_is, t'.number_is, t.element_is, t'.element_is, t.all, t'.all, t.none, t'.none)
  bin_cut_once s (Stop n e u v) (Stop n' e' u' v') (inl t) (inr t') = absurd (enough_ends (enough_broken t') t.inside)
  bin_cut_once s (Stop n e u v) (Stop n' e' u' v') (inr t) (inl t') = absurd (enough_ends (enough_broken t) t'.inside)
  bin_cut_once s (Stop n e u v) (Stop n' e' u' v') (inr t) (inr t') = broken_once t t'

  -- so the cut that it allows is the one that `cut_of` gives
  pub bin_cut_is : Fitted q → (s : Bytes) → T (begins_bin q.element s) → (c : Cut) → CutOfBin q s c → c ≡ cut_of q s
  bin_cut_is fit s h c w = bin_cut_once s c (cut_of q s) w (cut_of_bin q fit s h)
