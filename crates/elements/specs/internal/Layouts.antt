-- A segment by its layout: where it starts and ends, how many elements it has, whether it has a component separator; and, beside it, where
-- its tag and its first 32 elements start. Any layout describes a view; that of a segment in the bytes describes the segment's own.
-- Assumes nothing.
use Rattle.std.specs.Prelude.{ℕ, zero, suc, ◌-◌, Bool, not, cond, ◌&&◌, List, [], ◌∷◌, eqb, leb, ltb, length, take, drop, get_or}
use Rattle.text.specs.Bytes.{Bytes}
use Rattle.text.specs.Pieces.{pieces}
use Rattle.text.specs.View.{Piece, View}
use Rattle.elements.specs.declared.layout.Layout.{Layout}

-- the bytes from one place up to another; none where there are no such bytes
abbrev pub part_between : Bytes → ℕ → ℕ → Bytes
part_between s from to = cond (leb from to && leb to (length s)) (take (to - from) (drop from s)) []

-- piece k: from its start to one byte before the next piece, and the last to the end
abbrev pub piece_in : Bytes → List ℕ → Layout → ℕ → Bytes
piece_in s starts layout k = part_between s (get_or starts k 0) (cond (ltb k layout.count) (get_or starts (suc k) 0 - 1) layout.end)

-- element k; none past the last
unfoldable pub element_in : Bytes → List ℕ → Layout → ℕ → Bytes
element_in s starts layout k = cond (leb k layout.count) (piece_in s starts layout k) []

-- the same of the elements up to 31, whose ends are known
abbrev pub early_element : Bytes → List ℕ → Layout → ℕ → Bytes
early_element s starts layout k = cond (ltb k 32) (element_in s starts layout k) []

-- whether element k is present
abbrev pub there_in : Bytes → List ℕ → Layout → ℕ → Bool
there_in s starts layout k = not (eqb (length (element_in s starts layout k)) 0)

-- the components of an element; one where the segment has no component separator
abbrev pub components_by : Bool → ℕ → Bytes → Piece
components_by single component p = cond single (p ∷ []) (pieces component p)

unfoldable pub components_in : Bytes → List ℕ → Layout → ℕ → ℕ → Piece
components_in s starts layout component k = components_by layout.single component (element_in s starts layout k)

-- f at 0, 1, .., n - 1
abbrev pub up_to : {A : Type 0} → ℕ → (ℕ → A) → List A
up_to zero f = []
up_to (suc n) f = f 0 ∷ up_to n (λ (k : ℕ). f (suc k))

-- the view that the layout describes: the tag and the elements
unfoldable pub layout_view : Bytes → List ℕ → Layout → ℕ → View
layout_view s starts layout component =
    up_to (suc layout.count) (λ (k : ℕ). components_by layout.single component (piece_in s starts layout k))
