-- A segment written with other separators is as long; and in two that are seen alike, each by its own, every lookup finds the same.
-- Assumes nothing.
use Prim.Native.Nat.{ℕ, zero, suc}
use mathlib.Core.Path.{◌≡◌, refl, sym, ap, ◌∙◌}
use mathlib.Core.Bool.{Bool, true, false}
use mathlib.Core.List.{List, [], ◌∷◌, map, map-id}
use native.Mathlib.Omega.{arith}
use lib.ListN.{length, take, get_or, length-append, length-map}
use Rattle.text.specs.Bytes.{Bytes}
use Rattle.text.specs.Pieces.{pieces, joined, closed}
use Rattle.text.specs.Bin.{is_bin}
use Rattle.text.specs.View.{View, view_of, elements_of, element_of, written}
use Rattle.text.specs.Lookup.{span_among, span_within, element_span, part_span, part_in}
use Rattle.text.specs.declared.separators.Separators.{Separators}
use Rattle.text.proofs.View.{joined_each}
use Rattle.text.proofs.BinView.{view_bin, view_plain, elements_bin, elements_plain, written_view}
use Rattle.text.proofs.Parts.{lies_part, components_joined}

-- pieces as long as others stand where the others stand, whatever byte separates them
module _ {A : Type 0} (s t : ℕ) (f h : A → Bytes) (alike : (x : A) → length (f x) ≡ length (h x)) where
  closed_long : (l : List A) (n : ℕ) → length (closed s (take n (map f l))) ≡ length (closed t (take n (map h l)))
  closed_long l zero = refl
  closed_long [] (suc n) = refl
  closed_long (x ∷ l) (suc n) =
      omega (
        arith,
        length-append (f x) (s ∷ closed s (take n (map f l))),
        length-append (h x) (t ∷ closed t (take n (map h l))),
        alike x,
        closed_long l n,
      )

  joined_long : (l : List A) → length (joined s (map f l)) ≡ length (joined t (map h l))
  joined_long [] = refl
  joined_long (x ∷ []) = alike x
  joined_long (x ∷ (y ∷ l)) =
      omega (
        arith,
        length-append (f x) (s ∷ joined s (map f (y ∷ l))),
        length-append (h x) (t ∷ joined t (map h (y ∷ l))),
        alike x,
        joined_long (y ∷ l),
      )

  piece_long : (l : List A) (n : ℕ) → length (get_or (map f l) n []) ≡ length (get_or (map h l) n [])
  piece_long [] n = refl
  piece_long (x ∷ l) zero = alike x
  piece_long (x ∷ l) (suc n) = piece_long l n

  span_alike : (l : List A) (end n : ℕ) → span_among s (map f l) end n ≡ span_among t (map h l) end n
  span_alike l end n = rw (length-map l f, length-map l h, closed_long l n, piece_long l n)

-- components with other separators between them
component_long : (c d : ℕ) (p : List Bytes) → length (joined c p) ≡ length (joined d p)
component_long c d p =
    let same : Bytes → Bytes = λ b. b in
    ap (λ (l : List Bytes). length (joined c l)) (sym (map-id p)) ∙ joined_long c d same same (λ x. refl) p
    ∙ ap (λ (l : List Bytes). length (joined d l)) (map-id p)

component_alike : (c d : ℕ) (p : List Bytes) (end n : ℕ) → span_among c p end n ≡ span_among d p end n
component_alike c d p end n =
    let same : Bytes → Bytes = λ b. b in
    ap (λ (l : List Bytes). span_among c l end n) (sym (map-id p)) ∙ span_alike c d same same (λ x. refl) p end n
    ∙ ap (λ (l : List Bytes). span_among d l end n) (map-id p)

-- the elements are those of the view
elements_seen : (q : Separators) (g : Bytes) → elements_of q.element g ≡ map (joined q.component) (view_of q g)
elements_seen q g = by (is_bin q.element g) refl
  where
    by : (b : Bool) → is_bin q.element g ≡ b → elements_of q.element g ≡ map (joined q.component) (view_of q g)
    by true h = elements_bin q.element g h ∙ sym (ap (map (joined q.component)) (view_bin q g h))
    by false h =
        elements_plain q.element g h ∙ sym (joined_each q (pieces q.element g)) ∙ sym (ap (map (joined q.component)) (view_plain q g h))

-- a segment written with other separators is as long as it was
pub written_length : (old new : Separators) (g : Bytes) → length (written new (view_of old g)) ≡ length g
written_length old new g =
    joined_long new.element old.element (joined new.component) (joined old.component) (component_long new.component old.component) (view_of old g)
    ∙ ap length (written_view old g)

-- two segments that are seen alike, each by its own separators
module _ (p q : Separators) (f g : Bytes) (alike : view_of p f ≡ view_of q g) where
  -- they are of one length
  pub segment_long : length f ≡ length g
  segment_long = ap length (sym (written_view p f)) ∙ ap (λ (v : View). length (written p v)) alike ∙ written_length q p g

  -- every element stands in the one where it stands in the other,
  pub element_alike : (n : ℕ) → element_span p.element f n ≡ element_span q.element g n
  unfolding element_span
  element_alike n =
      rw (elements_seen p f, elements_seen q g, alike, segment_long)
      (span_alike p.element q.element (joined p.component) (joined q.component) (component_long p.component q.component) (view_of q g) (length g) n)

  -- and every part of it,
  pub part_alike : (n part : ℕ) → part_span p f n part ≡ part_span q g n part
  unfolding part_span
  part_alike n zero = element_alike n
  part_alike n (suc k) =
      rw (element_alike n, alike)
      (ap (span_within (element_span q.element g n))
      (component_alike p.component q.component (element_of (view_of q g) n) (element_span q.element g n).len k))

  -- and each component has the same bytes
  pub bytes_alike : (n k : ℕ) → part_in p f n (suc k) ≡ part_in q g n (suc k)
  bytes_alike n k =
      (lies_part p f n (suc k)).holds ∙ ap (λ (v : View). get_or (element_of v n) k []) alike ∙ sym (lies_part q g n (suc k)).holds

  -- a whole element has the one set's component separators where it has the other's
  pub elements_alike : (n : ℕ) → part_in p f n 0 ≡ joined p.component (element_of (view_of q g) n)
  elements_alike n =
      (lies_part p f n 0).holds ∙ sym (components_joined p f n) ∙ ap (λ (v : View). joined p.component (element_of v n)) alike
