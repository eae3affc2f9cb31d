-- The parts of an element, of a whole BIN and of any other segment: where they stand.
-- Assumes nothing.
use Prim.Native.Nat.{ℕ, zero, suc, ◌+◌, ◌-◌, ◌≤◌, ◌<◌}
use mathlib.Core.Path.{◌≡◌, refl, sym, ap, ◌∙◌}
use mathlib.Core.Bool.{Bool, true, false}
use mathlib.Core.List.{List, [], ◌∷◌}
use native.Mathlib.Omega.{arith}
use lib.ListN.{length, take, drop, get_or, length-take, length-drop, get_or-map}
use borrow.Author.Tests.{le-leb, lt-leb, le-ltb}
use Rattle.text.specs.Bytes.{Bytes}
use Rattle.text.specs.Pieces.{pieces, joined}
use Rattle.text.specs.Bin.{is_bin}
use Rattle.text.specs.View.{Piece, View, view_of, elements_of, bin_elements, element_of}
use Rattle.text.specs.Lookup.{span, span_among, span_within, element_span, part_span, part_of, attached_from}
use Rattle.text.specs.internal.Spans.{piece_span, only_span}
use Rattle.text.specs.declared.lookup.Span.{Span}
use Rattle.text.specs.declared.separators.Separators.{Separators}
use Rattle.text.proofs.Spans.{Lies, lies_among, part_of_part}
use Rattle.text.proofs.Pieces.{joined_pieces}
use Rattle.text.proofs.BinView.{view_bin, view_plain, elements_bin, elements_plain}
use Rattle.text.proofs.BinSpans.{lies_element, bin_of}

-- the bytes of a span that lies within are as many as it says
lies_long : {s piece : Bytes} {p : Span} → Lies s p piece → p.len ≡ length piece
lies_long {s} {piece} {p} l =
    let room = l.inside in
    sym (ap length (sym l.holds) ∙ length-take p.len (drop p.start s) ∙ omega (arith, length-drop p.start s))

-- an element that is one component: all of it, and its end
pub only_whole : (whole : Span) (part : ℕ) → part ≤ 1 → whole ≡ only_span whole part
unfolding only_span
only_whole whole part l = rw (le-leb part 1 l)

pub only_end : (whole : Span) (part start : ℕ) → start ≡ whole.start + whole.len → 1 < part → span start 0 ≡ only_span whole part
unfolding only_span
only_end whole part start e l = rw (e, lt-leb part 1 l)

module _ (q : Separators) (g : Bytes) (n : ℕ) where
  abbrev whole : Span
  whole = element_span q.element g n

  -- the bytes of the element
  abbrev element_text : Bytes
  element_text = get_or (elements_of q.element g) n []

  abbrev components : Piece
  components = element_of (view_of q g) n

  pub element_long : whole.len ≡ length element_text
  element_long = lies_long (lies_element q.element g n)

  -- of a whole BIN it is one component, and in any other segment it is cut
  pub only_component : is_bin q.element g ≡ true → components ≡ element_text ∷ []
  only_component h =
      ap (λ (v : View). element_of v n) (view_bin q g h)
      ∙ get_or-map (λ (p : Bytes). p ∷ []) (bin_elements q.element g) n []
      ∙ ap (λ (ps : List Bytes). get_or ps n [] ∷ []) (sym (elements_bin q.element g h))

  pub cut_components : is_bin q.element g ≡ false → components ≡ pieces q.component element_text
  cut_components h =
      ap (λ (v : View). element_of v n) (view_plain q g h)
      ∙ get_or-map (pieces q.component) (pieces q.element g) n []
      ∙ ap (λ (ps : List Bytes). pieces q.component (get_or ps n [])) (sym (elements_plain q.element g h))

  -- joined they are the element
  pub components_joined : joined q.component components ≡ element_text
  components_joined = by (is_bin q.element g) refl
    where
      by : (b : Bool) → is_bin q.element g ≡ b → joined q.component components ≡ element_text
      by true h = ap (joined q.component) (only_component h)
      by false h = ap (joined q.component) (cut_components h) ∙ joined_pieces q.component element_text

  -- each stands in it where it says
  pub lies_component : (k : ℕ) → Lies element_text (span_among q.component components whole.len k) (get_or components k [])
  lies_component k = rw element_long (lies_among q.component components element_text components_joined k)

  -- the bytes of a part, and they stand in the segment where it says
  abbrev part_text : ℕ → Bytes
  part_text zero = element_text
  part_text (suc k) = get_or components k []

  pub lies_part : (part : ℕ) → Lies g (part_span q g n part) (part_text part)
  unfolding part_span
  lies_part zero = lies_element q.element g n
  lies_part (suc k) =
      let e = lies_element q.element g n in
      let here : take (length element_text) (drop whole.start g) ≡ element_text =
      ap (λ (m : ℕ). take m (drop whole.start g)) (sym element_long) ∙ e.holds in
      let c = lies_component k in
      let inner = span_among q.component components whole.len k in
      record {
        inside = omega (arith, e.inside, c.inside, element_long);
        holds = part_of_part g whole.start element_text inner.start inner.len here c.inside ∙ c.holds;
      }

  -- part 0
  pub span_whole : (part : ℕ) → part ≡ 0 → whole ≡ part_span q g n part
  unfolding part_span
  span_whole part e = rw e

  -- the parts of an element that is one component
  pub span_only : (part : ℕ) → 1 ≤ part → is_bin q.element g ≡ true → only_span whole part ≡ part_span q g n part
  unfolding part_span
  span_only zero l h = absurd (omega arith)
  span_only (suc zero) l h =
      sym (only_whole whole 1 (omega arith)) ∙ rw (only_component h) (λ i. span (from i) (element_long i))
    where
      from : whole.start ≡ whole.start + 0
      from = omega arith
  span_only (suc (suc k)) l h =
      sym (only_end whole (suc (suc k)) (whole.start + whole.len) refl (omega arith)) ∙ rw (only_component h, le-ltb (suc k) 1 (omega arith))

  pub span_attached : (part : ℕ) → 1 ≤ part → attached_from q.element g < length g → only_span whole part ≡ part_span q g n part
  span_attached part l h = span_only part l (bin_of q.element g h)

  -- and of one that is cut
  pub span_pieced : (part : ℕ) → 1 ≤ part → is_bin q.element g ≡ false
      → span_within whole (piece_span q.component (part_of g whole) (part - 1)) ≡ part_span q g n part
  unfolding part_span piece_span
  span_pieced zero l h = absurd (omega arith)
  span_pieced (suc k) l h =
      let back : suc k - 1 ≡ k = omega arith in
      rw ((lies_element q.element g n).holds, back, cut_components h, element_long)
