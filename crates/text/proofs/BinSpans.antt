-- Where BIN02 starts, and where the elements of a segment stand, of a whole BIN and of any other.
-- Assumes nothing.
use Prim.Native.Nat.{ℕ, zero, suc, ◌+◌, ◌-◌, ◌≤◌, ◌<◌}
use mathlib.Core.Path.{◌≡◌, refl, sym, ap, subst, ◌∙◌}
use mathlib.Core.Bool.{Bool, true, false}
use mathlib.Core.List.{List, [], ◌∷◌, ◌++◌}
use native.Mathlib.Omega.{arith}
use lib.Dec.{T}
use lib.ListN.{length, drop, get_or, length-append}
use borrow.Author.Tests.{ne_eqb, le-ltb}
use Rattle.text.specs.Bytes.{Bytes, bytes, value_of}
use Rattle.text.specs.Pieces.{joined}
use Rattle.text.specs.Bin.{bin_mark, begins_bin, count_in, attached_in, counts, is_bin}
use Rattle.text.specs.View.{elements_of}
use Rattle.text.specs.Lookup.{span, span_among, element_span, attached_from}
use Rattle.text.specs.internal.Count.{told, count_from}
use Rattle.text.specs.internal.Spans.{piece_span, bin_span}
use Rattle.text.specs.declared.separators.Separators.{Separators}
use Rattle.text.specs.declared.bin.Counted.{Counted}
use Rattle.text.specs.declared.bin.Uncounted.{Uncounted}
use Rattle.std.specs.Prelude.{Result, Err}
use Rattle.text.proofs.Bools.{passes, fails}
use Rattle.text.proofs.Bins.{counts_told, counts_passes, bin_parts, begins_mark, marked_counts, count_made}
use Rattle.text.proofs.Pieces.{joined_pieces}
use Rattle.text.proofs.BinView.{elements_bin, elements_plain}
use Rattle.text.proofs.CountedCut.{counts_digits, digits_counts}
use Rattle.text.proofs.Counting.{Found, Finds, count_finds, count_found}
use Rattle.text.proofs.Spans.{Lies, lies_among}

module _ (e : ℕ) (g : Bytes) where
  -- of a whole BIN, and of any other segment
  pub attached_bin : is_bin e g ≡ true → attached_from e g ≡ length (count_in e g) + 5
  unfolding attached_from
  attached_bin h = rw h

  pub attached_plain : is_bin e g ≡ false → attached_from e g ≡ length g
  unfolding attached_from
  attached_plain h = rw h

  -- how long a whole BIN is
  pub bin_long : is_bin e g ≡ true → length g ≡ length (count_in e g) + 5 + length (attached_in e g)
  bin_long h =
      let b = bin_parts e g (rw h tt) in
      ap length b.whole ∙ omega (arith, length-append (count_in e g) (e ∷ attached_in e g))

  -- without the mark it is none
  no_bin : begins_bin e g ≡ false → is_bin e g ≡ false
  unfolding is_bin
  no_bin h = rw h

  pub unmarked : begins_bin e g ≡ false → length g ≡ attached_from e g
  unmarked h = sym (attached_plain (no_bin h))

  module _ (begins : T (begins_bin e g)) (r : Result Counted Uncounted) (is : r ≡ count_from e 0 0 4 (drop 4 g)) where
    -- the count that was found
    pub found : (number end : ℕ) → r ≡ told number end → Found e 0 0 4 (drop 4 g) number end
    found number end z =
        let q : Separators = record { element = e; component = 0; terminator = 0 } in
        subst (λ (x : Result Counted Uncounted). Finds q 0 0 4 (drop 4 g) x) (sym is ∙ z) (count_finds q 0 0 4 (drop 4 g) (omega arith))

    module _ (number end : ℕ) (z : r ≡ told number end) where
      abbrev f : Found e 0 0 4 (drop 4 g) number end
      f = found number end z

      whole : g ≡ bin_mark e ++ (f.count ++ e ∷ f.rest)
      whole = begins_mark e g begins ∙ ap (λ (x : Bytes). bin_mark e ++ x) f.whole

      long : length g ≡ end + 1 + length f.rest
      long = ap length whole ∙ omega (arith, length-append f.count (e ∷ f.rest), f.end_is)

      pub end_inside : end < length g
      end_inside = omega (arith, long)

      counted : is_bin e g ≡ counts f.count f.rest
      counted = marked_counts e g f.count f.rest whole f.free

      -- it ends with the bytes
      pub attached_here : length g - end - 1 ≡ number → end + 1 ≡ attached_from e g
      attached_here h =
          let c = digits_counts f.count f.rest f.digits (sym f.number_is ∙ omega (arith, long)) in
          let n : count_in e g ≡ f.count = ap (count_in e) whole ∙ count_made e f.count f.rest f.free in
          sym (attached_bin (counted ∙ counts_passes f.count f.rest c) ∙ omega (arith, ap length n, f.end_is))

      -- or not
      pub attached_elsewhere : (length g - end - 1 ≡ number → ⊥) → length g ≡ attached_from e g
      attached_elsewhere h =
          sym
          (attached_plain
          (counted
          ∙ fails (counts f.count f.rest)
          (λ t. h (omega (arith, long, (counts_told f.count f.rest t).value, f.number_is)))))

    -- a whole BIN has a count
    uncounted : ((number end : ℕ) → r ≡ told number end → ⊥) → length g ≡ attached_from e g
    uncounted n =
        sym
        (attached_plain
        (fails (is_bin e g)
        (λ t.
        let b = bin_parts e g t in
        let d = count_in e g in
        n (value_of d) (4 + length d) (is ∙ ap (count_from e 0 0 4) (ap (drop 4) b.whole) ∙ count_found e 0 0 4 d (attached_in e g) b.free (counts_digits b.counted)))))

    uncounted_err : (x : Uncounted) → r ≡ Err x → length g ≡ attached_from e g
    uncounted_err x z = uncounted (λ n m w. let x : ◌≡◌ {A = ℕ} 0 1 = cc in omega arith)

  -- what is counted ends with the bytes, or not
  pub attached_counted : (end : ℕ) → begins_bin e g ≡ true → count_from e 0 0 4 (drop 4 g) ≡ told (length g - end - 1) end → end + 1 ≡ attached_from e g
  attached_counted end b z = attached_here (rw b tt) _ refl (length g - end - 1) end z refl

  pub attached_otherwise : (number end : ℕ) → begins_bin e g ≡ true → count_from e 0 0 4 (drop 4 g) ≡ told number end
      → (length g - end - 1 ≡ number → ⊥) → length g ≡ attached_from e g
  attached_otherwise number end b z n = attached_elsewhere (rw b tt) _ refl number end z n

  pub attached_uncounted : (x : Uncounted) → begins_bin e g ≡ true → count_from e 0 0 4 (drop 4 g) ≡ Err x → length g ≡ attached_from e g
  attached_uncounted x b z = uncounted_err (rw b tt) _ refl x z

  pub count_inside : (number end : ℕ) → begins_bin e g ≡ true → count_from e 0 0 4 (drop 4 g) ≡ told number end → end < length g
  count_inside number end b z = end_inside (rw b tt) _ refl number end z

  -- the elements by that place
  pub bin_of : attached_from e g < length g → is_bin e g ≡ true
  bin_of l = by (is_bin e g) refl
    where
      by : (b : Bool) → is_bin e g ≡ b → is_bin e g ≡ true
      by true h = h
      by false h = absurd (omega (arith, attached_plain h))

  pub plain_of : length g ≤ attached_from e g → is_bin e g ≡ false
  plain_of l =
      fails (is_bin e g)
      (λ t.
      let h = passes (is_bin e g) t in
      omega (arith, attached_bin h, bin_long h, (bin_parts e g t).counted.long))

  -- it is a place within the segment, or its end
  pub attached_most : attached_from e g ≤ length g
  attached_most = by (is_bin e g) refl
    where
      by : (b : Bool) → is_bin e g ≡ b → attached_from e g ≤ length g
      by true h = omega (arith, attached_bin h, bin_long h)
      by false h = omega (arith, attached_plain h)

  pub record Attached : Type 0 where
    pub low : 6 ≤ attached_from e g
    pub high : attached_from e g ≤ length g

  pub attached_within : attached_from e g < length g → Attached
  attached_within l =
      let h = bin_of l in
      record { low = omega (arith, attached_bin h, (bin_parts e g (rw h tt)).counted.some); high = omega arith }

  three_spans : (d p : Bytes) (end n : ℕ) → end ≡ length d + 5 + length p
      → span_among e (bytes "BIN" ∷ d ∷ p ∷ []) end n ≡ bin_span (length d + 5) end n
  three_spans d p end zero l = refl
  three_spans d p end (suc zero) l = ap (span 4) (omega arith)
  three_spans d p end (suc (suc zero)) l =
      (λ i. span (start i) (len i))
    where
      start : length (bin_mark e ++ (d ++ (e ∷ []))) ≡ length d + 5
      start = omega (arith, length-append d (e ∷ []))

      len : length p ≡ end - (length d + 5)
      len = omega arith
  three_spans d p end (suc (suc (suc n))) l =
      let m = suc (suc (suc n)) in
      rw (le-ltb m 3 (omega arith), ne_eqb m 0 (λ z. omega arith), ne_eqb m 1 (λ z. omega arith), ne_eqb m 2 (λ z. omega arith))

  pub span_bin : (n : ℕ) → attached_from e g < length g → bin_span (attached_from e g) (length g) n ≡ element_span e g n
  unfolding element_span
  span_bin n l =
      let h = bin_of l in
      sym
      (ap (λ (ps : List Bytes). span_among e ps (length g) n) (elements_bin e g h)
      ∙ three_spans (count_in e g) (attached_in e g) (length g) n (bin_long h)
      ∙ ap (λ (a : ℕ). bin_span a (length g) n) (sym (attached_bin h)))

  pub span_plain : (n : ℕ) → is_bin e g ≡ false → piece_span e g n ≡ element_span e g n
  unfolding element_span piece_span
  span_plain n h = ap (λ (ps : List Bytes). span_among e ps (length g) n) (sym (elements_plain e g h))

  pub span_pieces : (n : ℕ) → length g ≤ attached_from e g → piece_span e g n ≡ element_span e g n
  span_pieces n l = span_plain n (plain_of l)

-- the elements are joined to the segment
pub elements_joined : (e : ℕ) (g : Bytes) → joined e (elements_of e g) ≡ g
elements_joined e g = by (is_bin e g) refl
  where
    by : (b : Bool) → is_bin e g ≡ b → joined e (elements_of e g) ≡ g
    by true h = ap (joined e) (elements_bin e g h) ∙ sym (bin_parts e g (rw h tt)).whole
    by false h = ap (joined e) (elements_plain e g h) ∙ joined_pieces e g

-- so they lie within it
pub lies_element : (e : ℕ) (g : Bytes) (n : ℕ) → Lies g (element_span e g n) (get_or (elements_of e g) n [])
unfolding element_span
lies_element e g n = lies_among e (elements_of e g) g (elements_joined e g) n
