-- The view that a layout describes: its elements, one by one, and how many there are.
-- Assumes nothing.
use Prim.Native.Nat.{ℕ, zero, suc, ◌-◌, ◌≤◌, ◌<◌}
use mathlib.Core.Path.{◌≡◌, refl, sym, ap, ◌∙◌}
use mathlib.Core.Logic.{by_cases}
use mathlib.Core.Bool.{Bool, true, false, not}
use mathlib.Core.List.{List, [], ◌∷◌}
use native.Mathlib.Omega.{arith}
use native.Mathlib.Decide.{dec_lt}
use lib.Dec.{eqb}
use lib.ListN.{length, take, drop, get_or}
use borrow.Author.Tests.{le-leb, lt-leb, lt-ltb, ne_eqb}
use Rattle.text.specs.Bytes.{Bytes}
use Rattle.text.specs.View.{View, empty, present, element_of, element_count}
use Rattle.elements.specs.internal.Layouts.{part_between, piece_in, components_by, up_to, layout_view, element_in, early_element, there_in, components_in}
use Rattle.elements.specs.declared.layout.Layout.{Layout}
use Rattle.elements.proofs.PresentPieces.{some, present_pieces, present_single}

-- a part between two places
module _ (s : Bytes) (from to : ℕ) where
  pub part_inside : from ≤ to → to ≤ length s → take (to - from) (drop from s) ≡ part_between s from to
  part_inside l u = rw (le-leb from to l, le-leb to (length s) u)

-- f at each number below n, and d from there on
up_to_below : {A : Type 0} (n : ℕ) (f : ℕ → A) (d : A) (k : ℕ) → k < n → get_or (up_to n f) k d ≡ f k
up_to_below zero f d k l = absurd (omega arith)
up_to_below (suc n) f d zero l = refl
up_to_below (suc n) f d (suc k) l = up_to_below n (λ (k : ℕ). f (suc k)) d k (omega arith)

up_to_past : {A : Type 0} (n : ℕ) (f : ℕ → A) (d : A) (k : ℕ) → n ≤ k → get_or (up_to n f) k d ≡ d
up_to_past zero f d k l = refl
up_to_past (suc n) f d zero l = absurd (omega arith)
up_to_past (suc n) f d (suc k) l = up_to_past n (λ (k : ℕ). f (suc k)) d k (omega arith)

up_to_length : {A : Type 0} (n : ℕ) (f : ℕ → A) → length (up_to n f) ≡ n
up_to_length zero f = refl
up_to_length (suc n) f = ap suc (up_to_length n (λ (k : ℕ). f (suc k)))

-- components of a part: the part is present exactly if it has a byte
pub components_empty : (single : Bool) (component : ℕ) → components_by single component [] ≡ empty
components_empty true component = refl
components_empty false component = refl

some_count : (p : Bytes) → some p ≡ not (eqb (length p) 0)
some_count [] = refl
some_count (b ∷ p) = rw (ne_eqb (suc (length p)) 0 (omega arith))

pub components_present : (single : Bool) (component : ℕ) (p : Bytes) → present (components_by single component p) ≡ not (eqb (length p) 0)
components_present true component p = present_single p ∙ some_count p
components_present false component p = present_pieces component p ∙ some_count p

module _ (s : Bytes) (starts : List ℕ) (layout : Layout) where
  pub element_past : (k : ℕ) → layout.count < k → [] ≡ element_in s starts layout k
  unfolding element_in
  element_past k l = rw (lt-leb k layout.count l)

  -- the elements up to 31 are found as they are
  pub element_early : (k : ℕ) → k < 32 → early_element s starts layout k ≡ element_in s starts layout k
  element_early k l = rw (lt-ltb k 32 l) refl

  module _ (component : ℕ) where
    abbrev view : View
    view = layout_view s starts layout component

    -- as many elements as it says
    pub view_count : element_count view ≡ layout.count
    unfolding layout_view
    view_count =
        omega (arith, up_to_length (suc layout.count) (λ (k : ℕ). components_by layout.single component (piece_in s starts layout k)))

    -- element k is the components of piece k
    pub view_element : (k : ℕ) → k ≤ layout.count → element_of view k ≡ components_by layout.single component (piece_in s starts layout k)
    unfolding layout_view
    view_element k l =
        up_to_below (suc layout.count) (λ (k : ℕ). components_by layout.single component (piece_in s starts layout k)) empty k (omega arith)

    view_past : (k : ℕ) → layout.count < k → element_of view k ≡ empty
    unfolding layout_view
    view_past k l =
        up_to_past (suc layout.count) (λ (k : ℕ). components_by layout.single component (piece_in s starts layout k)) empty k (omega arith)

    -- as the code finds it
    pub view_at : (k : ℕ) → element_of view k ≡ components_in s starts layout component k
    unfolding components_in element_in
    view_at k =
        by_cases (dec_lt layout.count k) (λ l. view_past k l ∙ rw (lt-leb k layout.count l) (sym (components_empty layout.single component)))
        (λ l. let up : k ≤ layout.count = omega arith in view_element k up ∙ rw (le-leb k layout.count up))

    -- past the last element there is nothing
    pub at_past : (k : ℕ) → layout.count < k → components_in s starts layout component k ≡ empty
    unfolding components_in
    at_past k l = rw (← element_past k l) (components_empty layout.single component)

    pub at_present : (k : ℕ) → present (components_in s starts layout component k) ≡ there_in s starts layout k
    unfolding components_in
    at_present k = components_present layout.single component (element_in s starts layout k)

    pub element_at : (k : ℕ) (p : Bytes) → p ≡ element_in s starts layout k
        → components_by layout.single component p ≡ components_in s starts layout component k
    unfolding components_in
    element_at k p e = ap (components_by layout.single component) e
