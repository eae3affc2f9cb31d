-- Levels: what each HL segment says, and the level that it makes after those before it.
-- Assumes nothing.
use Rattle.std.specs.Prelude.{ℕ, suc, cond, List, [], ◌∷◌, ◌++◌, eqb, length, get_or}
use Rattle.text.specs.Bytes.{Bytes, same}
use Rattle.text.specs.View.{Piece, View, element_of}
use Rattle.levels.specs.Profile.{LevelProfile, code_of}

-- what an HL segment says: its elements 1 to 4, an absent one empty. By rule 10 each has one component
pub record Claim : Type 0 where
  pub id : Bytes
  pub parent : Bytes
  pub code : Bytes
  pub mark : Bytes

-- the text of an element of one component
abbrev pub text_of : Piece → Bytes
text_of p = get_or p 0 []

abbrev pub claim_of : View → Claim
claim_of v = record {
  id = text_of (element_of v 1);
  parent = text_of (element_of v 2);
  code = text_of (element_of v 3);
  mark = text_of (element_of v 4);
}

-- a level: its HL01 and mark, its segment's number, its parent's level number (0 for none), its depth, its code's number
pub record Level : Type 0 where
  pub id : Bytes
  pub mark : Bytes
  pub segment : ℕ
  pub parent : ℕ
  pub depth : ℕ
  pub code : ℕ

-- no level, at depth 0: what has no parent has depth 1
abbrev pub nobody : Level
nobody = record { id = []; mark = []; segment = 0; parent = 0; depth = 0; code = 0 }

-- Levels stand latest first, so the number of a level is how many there are from it on
-- the number of the level with that HL01; 0 where there is none
abbrev pub called : Bytes → List Level → ℕ
called id [] = 0
called id (l ∷ ls) = cond (same l.id id) (suc (length ls)) (called id ls)

-- the level with that number
abbrev pub level_at : ℕ → List Level → Level
level_at n [] = nobody
level_at n (l ∷ ls) = cond (eqb n (suc (length ls))) l (level_at n ls)

-- the parent's level number: of the earlier level that has HL02 as its HL01; 0 where HL02 is absent
abbrev pub parent_of : Claim → List Level → ℕ
parent_of c ls = cond (eqb (length c.parent) 0) 0 (called c.parent ls)

-- the level that the HL segment with that number makes after the levels ls
abbrev pub level_of : LevelProfile → ℕ → Claim → List Level → Level
level_of profile segment c ls = record {
  id = c.id;
  mark = c.mark;
  segment = segment;
  parent = parent_of c ls;
  depth = suc (level_at (parent_of c ls) ls).depth;
  code = code_of profile c.code;
}

-- the levels of HL segments, each with its segment's number, both latest first
abbrev pub levels_of : LevelProfile → List (ℕ × Claim) → List Level
levels_of profile [] = []
levels_of profile (h ∷ hs) = level_of profile h.0 h.1 (levels_of profile hs) ∷ levels_of profile hs

-- the four numbers of a level: its segment, its parent's level or 0, its depth, its code
abbrev pub record_of : Level → List ℕ
record_of l = l.segment ∷ l.parent ∷ l.depth ∷ l.code ∷ []

-- the records in file order
abbrev pub records_of : List Level → List ℕ
records_of [] = []
records_of (l ∷ ls) = records_of ls ++ record_of l
