-- A segment as it is seen once the separators are gone: its pieces, each a list of components, each a list of bytes.
-- The first piece is the tag; the others are its elements, from 1 on.
-- Assumes nothing.
use Rattle.std.specs.Prelude.{ℕ, ◌-◌, Bool, true, false, cond, List, [], ◌∷◌, map, length, take, get_or}
use Rattle.text.specs.Bytes.{Bytes, bytes, same}
use Rattle.text.specs.Pieces.{pieces, joined}
use Rattle.text.specs.Bin.{count_in, attached_in, is_bin}
use Rattle.text.specs.declared.separators.Separators.{Separators}

-- a piece, as its components
abbrev pub Piece : Type 0
Piece = List Bytes

-- a segment, as its pieces
abbrev pub View : Type 0
View = List Piece

-- a segment cut at the element separator, and each piece at the component separator
abbrev pub plain_view : Separators → Bytes → View
plain_view q segment = map (pieces q.component) (pieces q.element segment)

-- the tag and the two elements of a whole BIN, as bytes
abbrev pub bin_elements : ℕ → Bytes → List Bytes
bin_elements e segment = bytes "BIN" ∷ count_in e segment ∷ attached_in e segment ∷ []

-- the view of a segment: a whole BIN has these three pieces, of one component each, whatever bytes they hold
unfoldable pub view_of : Separators → Bytes → View
view_of q segment = cond (is_bin q.element segment) (map (λ (p : Bytes). p ∷ []) (bin_elements q.element segment)) (plain_view q segment)

-- the tag and the elements of a segment, as bytes
unfoldable pub elements_of : ℕ → Bytes → List Bytes
elements_of e segment = cond (is_bin e segment) (bin_elements e segment) (pieces e segment)

-- the view written with separators
abbrev pub written : Separators → View → Bytes
written q v = joined q.element (map (joined q.component) v)

-- an empty piece: one component without bytes
abbrev pub empty : Piece
empty = [] ∷ []

-- an element without bytes counts as absent
abbrev pub present : Piece → Bool
present [] = false
present ([] ∷ []) = false
present ([] ∷ (c ∷ cs)) = true
present ((b ∷ bs) ∷ cs) = true

-- element number k, the tag being number 0; past the last it is absent
abbrev pub element_of : View → ℕ → Piece
element_of v k = get_or v k empty

-- how many elements there are, the tag not counted
abbrev pub element_count : View → ℕ
element_count v = length v - 1

-- the tag is `BIN`
abbrev pub names_bin : Piece → Bool
names_bin [] = false
names_bin (t ∷ []) = same t (bytes "BIN")
names_bin (t ∷ (c ∷ cs)) = false

-- the pieces that are looked into: all of them, but of a BIN its tag and its count alone
unfoldable pub inspected : View → View
inspected v = cond (names_bin (element_of v 0)) (take 2 v) v
