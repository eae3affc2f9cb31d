-- What a lookup finds in a report that was rewritten. Document 02, Item 8.
-- Assumes nothing.
use Rattle.std.specs.Prelude.{ℕ, suc, ◌≡◌, List, [], ◌∷◌}
use Rattle.text.specs.Bytes.{Bytes}
use Rattle.text.specs.Pieces.{joined}
use Rattle.text.specs.View.{view_of, element_of}
use Rattle.text.specs.Cut.{Placed}
use Rattle.text.specs.Lookup.{part_span, part_in}
use Rattle.text.specs.declared.separators.Separators.{Separators}
use Rattle.rows.specs.declared.profile.ProfileName.{ProfileName}
use Rattle.rewriting.specs.Conditions.{SameReport}

-- a segment g and a segment h, each with its own separators, in which every lookup finds the same part
pub record FoundAlike (old : Separators) (g : Bytes) (new : Separators) (h : Bytes) : Type 0 where
  -- at the same place,
  pub place : (number part : ℕ) → part_span new h number part ≡ part_span old g number part
  -- every component with the same bytes,
  pub component : (number k : ℕ) → part_in new h number (suc k) ≡ part_in old g number (suc k)
  -- and a whole element with the new component separators between them
  pub element : (number : ℕ) → part_in new h number 0 ≡ joined new.component (element_of (view_of old g) number)

-- so it is segment by segment, and each stands where the other stands
abbrev pub AllFoundAlike : Separators → List Placed → Separators → List Placed → Type 0
AllFoundAlike old [] new [] = Unit {0}
AllFoundAlike old [] new (h ∷ hs) = ⊥
AllFoundAlike old (g ∷ gs) new [] = ⊥
AllFoundAlike old (g ∷ gs) new (h ∷ hs) = (h.at ≡ g.at) × FoundAlike old g.segment new h.segment × AllFoundAlike old gs new hs

-- the bytes t hold, with the new separators, the report that the bytes s hold with the old ones, and a lookup in either finds the same
pub record LookedUpAlike (profile : ProfileName) (old : Separators) (s : Bytes) (new : Separators) (t : Bytes) : Type 0 where
  pub report : SameReport profile old s new t
  pub alike : AllFoundAlike old report.old_segments new report.new_segments
