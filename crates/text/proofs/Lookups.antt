-- The laws of the lookup: the elements joined are the segment and the components joined are the element, a component is one of what part 0 gives,
-- and behind the last there is the empty part at the end.
-- Assumes nothing.
use Prim.Native.Nat.{ℕ, zero, suc, ◌+◌, ◌≤◌, ◌<◌}
use mathlib.Core.Path.{◌≡◌, refl, sym, ap, ◌∙◌}
use mathlib.Core.Bool.{true, false}
use mathlib.Core.List.{List, [], ◌∷◌}
use native.Mathlib.Omega.{arith}
use lib.ListN.{length, get_or}
use borrow.Author.Tests.{le-ltb}
use Rattle.text.specs.Bytes.{Bytes}
use Rattle.text.specs.Pieces.{pieces, joined}
use Rattle.text.specs.Bin.{is_bin}
use Rattle.text.specs.View.{view_of, elements_of, element_of}
use Rattle.text.specs.Lookup.{span, span_within, element_span, part_span, part_of, part_in}
use Rattle.text.specs.internal.Spans.{piece_span}
use Rattle.text.specs.declared.lookup.Span.{Span}
use Rattle.text.specs.declared.separators.Separators.{Separators}
use Rattle.text.proofs.Ends.{last_end, ends_before}
use Rattle.text.proofs.BinSpans.{elements_joined}
use Rattle.text.proofs.Parts.{lies_part, lies_component, element_long, only_component, cut_components, components_joined, span_whole, span_pieced, only_whole, span_only}

-- what is looked up under as many numbers, from the first on
abbrev pub in_order_of : (ℕ → Bytes) → (first count : ℕ) → List Bytes
in_order_of look first zero = []
in_order_of look first (suc count) = look first ∷ in_order_of look (suc first) count

all_in_order : (look : ℕ → Bytes) (first : ℕ) (ps : List Bytes) → ((k : ℕ) → look (first + k) ≡ get_or ps k []) → in_order_of look first (length ps) ≡ ps
all_in_order look first [] is = refl
all_in_order look first (p ∷ ps) is =
    let here : look first ≡ p = ap look (omega arith) ∙ is 0 in
    let behind = all_in_order look (suc first) ps (λ k. ap look (omega arith) ∙ is (suc k)) in
    (λ i. here i ∷ behind i)

-- where a span ends
abbrev pub end_of : Span → ℕ
end_of p = p.start + p.len

-- the one span lies within the other
pub record Within (inner outer : Span) : Type 0 where
  pub from : outer.start ≤ inner.start
  pub to : end_of inner ≤ end_of outer

module _ (q : Separators) (g : Bytes) where
  -- the elements in order, with the element separators between them, are the segment
  pub elements_make_segment : joined q.element (in_order_of (λ (n : ℕ). part_in q g n 0) 0 (length (elements_of q.element g))) ≡ g
  elements_make_segment =
      let element : ℕ → Bytes = λ n. part_in q g n 0 in
      ap (joined q.element) (all_in_order element 0 (elements_of q.element g) (λ k. ap element (omega arith) ∙ (lies_part q g k 0).holds))
      ∙ elements_joined q.element g

  -- the last of them is the first that ends where the segment ends
  pub last_element_ends : (n : ℕ) → suc n ≡ length (elements_of q.element g) → end_of (part_span q g n 0) ≡ length g
  unfolding part_span element_span
  last_element_ends n e =
      last_end q.element (elements_of q.element g) (length g) n (omega arith) e (ap length (elements_joined q.element g))

  pub earlier_element_ends : (n : ℕ) → suc n < length (elements_of q.element g) → end_of (part_span q g n 0) < length g
  unfolding part_span element_span
  earlier_element_ends n l = ends_before q.element (elements_of q.element g) (length g) n l (ap length (elements_joined q.element g))

  module _ (n : ℕ) where
    -- the components in order, with the component separators between them, are the element
    pub components_make_element : joined q.component (in_order_of (part_in q g n) 1 (length (element_of (view_of q g) n))) ≡ part_in q g n 0
    components_make_element =
        ap (joined q.component)
        (all_in_order (part_in q g n) 1 (element_of (view_of q g) n) (λ k. ap (part_in q g n) (omega arith) ∙ (lies_part q g n (suc k)).holds))
        ∙ components_joined q g n ∙ sym (lies_part q g n 0).holds

    -- as long as it
    long : length (joined q.component (element_of (view_of q g) n)) ≡ (element_span q.element g n).len
    long = ap length (components_joined q g n) ∙ sym (element_long q g n)

    -- the last of them is the first that ends where the element ends
    pub last_component_ends : (k : ℕ) → suc k ≡ length (element_of (view_of q g) n) → end_of (part_span q g n (suc k)) ≡ end_of (part_span q g n 0)
    unfolding part_span
    last_component_ends k e =
        omega (arith, last_end q.component (element_of (view_of q g) n) (element_span q.element g n).len k (omega arith) e long)

    pub earlier_component_ends : (k : ℕ) → suc k < length (element_of (view_of q g) n) → end_of (part_span q g n (suc k)) < end_of (part_span q g n 0)
    unfolding part_span
    earlier_component_ends k l = omega (arith, ends_before q.component (element_of (view_of q g) n) (element_span q.element g n).len k l long)

    -- a component is one of what part 0 gives: in a segment that is cut, a piece of that, with its bytes
    pub component_of_element : is_bin q.element g ≡ false → (k : ℕ)
        → part_span q g n (suc k) ≡ span_within (part_span q g n 0) (piece_span q.component (part_in q g n 0) k)
    unfolding part_span
    component_of_element h k =
        let whole = element_span q.element g n in
        sym (span_pieced q g n (suc k) (omega arith) h)
        ∙ ap (λ (m : ℕ). span_within whole (piece_span q.component (part_of g whole) m)) (omega arith)

    pub component_bytes : is_bin q.element g ≡ false → (k : ℕ) → part_in q g n (suc k) ≡ get_or (pieces q.component (part_in q g n 0)) k []
    component_bytes h k =
        (lies_part q g n (suc k)).holds ∙ ap (λ (ps : List Bytes). get_or ps k []) (cut_components q g n h)
        ∙ ap (λ (x : Bytes). get_or (pieces q.component x) k []) (sym (lies_part q g n 0).holds)

    -- of a whole BIN all of it
    pub component_of_bin : is_bin q.element g ≡ true → part_span q g n 1 ≡ part_span q g n 0
    component_of_bin h =
        sym (span_only q g n 1 (omega arith) h) ∙ sym (only_whole (element_span q.element g n) 1 (omega arith)) ∙ span_whole q g n 0 refl

    -- it stands within the element
    pub component_within : (k : ℕ) → Within (part_span q g n (suc k)) (part_span q g n 0)
    unfolding part_span
    component_within k = record { from = omega arith; to = omega (arith, (lies_component q g n k).inside, element_long q g n) }

    -- past the last component: the empty part at the element's end
    pub past_components : (k : ℕ) → length (element_of (view_of q g) n) ≤ k
        → part_span q g n (suc k) ≡ span (end_of (part_span q g n 0)) 0
    unfolding part_span
    past_components k past = rw (le-ltb k (length (element_of (view_of q g) n)) past)

    pub past_bin : is_bin q.element g ≡ true → (k : ℕ) → part_span q g n (suc (suc k)) ≡ span (end_of (part_span q g n 0)) 0
    past_bin h k = past_components (suc k) (rw (only_component q g n h) (omega arith))

    -- past the last element: the empty part at the segment's end
    module _ (past : length (elements_of q.element g) ≤ n) where
      past_whole : part_span q g n 0 ≡ span (length g) 0
      unfolding part_span element_span
      past_whole = rw (le-ltb n (length (elements_of q.element g)) past)

      pub past_elements : (part : ℕ) → part_span q g n part ≡ span (length g) 0
      past_elements zero = past_whole
      past_elements (suc k) =
          let inside = component_within k in
          let at = ap (λ (p : Span). p.start) past_whole in
          let none = ap (λ (p : Span). p.len) past_whole in
          let start : (part_span q g n (suc k)).start ≡ length g = omega (arith, at, none, inside.from, inside.to) in
          let len : (part_span q g n (suc k)).len ≡ 0 = omega (arith, at, none, inside.from, inside.to) in
          (λ i. span (start i) (len i))

-- the terminator has no say
pub terminator_aside : (e c t u : ℕ) (g : Bytes) (n part : ℕ)
    → part_span (record { element = e; component = c; terminator = t }) g n part ≡ part_span (record { element = e; component = c; terminator = u }) g n part
unfolding part_span view_of
terminator_aside e c t u g n zero = refl
terminator_aside e c t u g n (suc k) = refl
