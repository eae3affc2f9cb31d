-- The segments of a transaction as views, and what is read off those that came before: their number, the levels they make, the
-- level that the next belongs to, the ST.
-- Assumes nothing.
use Rattle.std.specs.Prelude.{ℕ, suc, Bool, true, false, cond, List, [], ◌∷◌, map, eqb, length}
use Rattle.text.specs.View.{Piece, View, view_of, element_of}
use Rattle.text.specs.Cut.{Placed}
use Rattle.rows.specs.Tags.{tag, tag_number}
use Rattle.levels.specs.Levels.{Claim, claim_of, Level, levels_of}
use Rattle.gate.specs.Profile.{Profile}
use Rattle.gate.specs.declared.how.How.{How}

-- the number of a segment's tag; 34 where its first piece is none of the 34 tags, as is a piece with a component separator
abbrev pub piece_tag : Piece → ℕ
piece_tag [] = 34
piece_tag (t ∷ []) = tag_number t
piece_tag (t ∷ (c ∷ cs)) = 34

unfoldable pub tag_in_of : View → ℕ
tag_in_of v = piece_tag (element_of v 0)

abbrev pub is_hl : View → Bool
is_hl v = eqb (tag_in_of v) (tag "HL")

abbrev pub is_se : View → Bool
is_se v = eqb (tag_in_of v) (tag "SE")

-- the views of segments
abbrev pub seen : How → List Placed → List View
seen how gs = map (λ (g : Placed). view_of how.separators g.segment) gs

-- Segments that came before stand latest first. These and then those
abbrev pub onto : List View → List View → List View
onto h [] = h
onto h (v ∷ vs) = onto (v ∷ h) vs

-- the HL segments among them, each with its segment's number
abbrev pub add_claim : Bool → ℕ → View → List (ℕ × Claim) → List (ℕ × Claim)
add_claim true n v cs = (n, claim_of v) ∷ cs
add_claim false n v cs = cs

abbrev pub claims : List View → List (ℕ × Claim)
claims [] = []
claims (v ∷ h) = add_claim (is_hl v) (suc (length h)) v (claims h)

-- the levels that they make
unfoldable pub levels_in : Profile → List View → List Level
levels_in profile h = levels_of profile.levels (claims h)

-- The level that a segment belongs to, by its number: that of the latest HL up to it, so an HL belongs to itself. Levels are numbered from 1 by their
-- HLs, so the number is how many HLs there are up to it: 0 in the heading, where there is none yet. The SE belongs to none, which is 0 too
abbrev pub belongs_to : List View → View → ℕ
belongs_to h v = cond (is_se v) 0 (length (claims (v ∷ h)))

-- the first segment
abbrev pub opening : List View → View
opening [] = []
opening (v ∷ []) = v
opening (v ∷ (u ∷ h)) = opening (u ∷ h)
