-- The whole of condition 2, said at once over all segments and a numbering of them, with no order of reading: the rows
-- form a word of the bracketed list within the profile, and every rule of bytes, elements, levels and closing holds.
-- Assumes nothing.
use Rattle.std.specs.Prelude.{ℕ, ◌<◌, ◌≡◌, ◌⊎◌, Bool, true, false, List, [], ◌∷◌, map, T, length, get_or}
use Rattle.text.specs.Bytes.{bytes, value_of}
use Rattle.text.specs.View.{View, element_of}
use Rattle.rows.specs.RowList.{tag_of}
use Rattle.rows.specs.RowSets.{WordOver}
use Rattle.elements.specs.Checks.{Keeps}
use Rattle.elements.specs.Rules.{byte_checks, end_checks, ruled_checks}
use Rattle.levels.specs.Profile.{LevelProfile, code_of, may_stand_alone, may_be_marked, may_hang}
use Rattle.levels.specs.Levels.{Claim, claim_of, text_of}
use Rattle.gate.specs.Profile.{Profile}
use Rattle.gate.specs.Segments.{tag_in_of, is_hl}

-- P of each segment
abbrev pub Each : (View → Type 0) → List View → Type 0
Each P [] = Unit {0}
Each P (v ∷ vs) = P v × Each P vs

-- the HL segments, in file order
abbrev pub put_if : Bool → Claim → List Claim → List Claim
put_if true c cs = c ∷ cs
put_if false c cs = cs

abbrev pub hls : List View → List Claim
hls [] = []
hls (v ∷ vs) = put_if (is_hl v) (claim_of v) (hls vs)

-- HL number i, counted from 0; past the last one that says nothing
abbrev pub hl_at : List Claim → ℕ → Claim
hl_at cs i = get_or cs i (record { id = []; parent = []; code = []; mark = [] })

-- level j hangs under the earlier level i, and may: it names it, the pair of codes is permitted, and the parent is
-- not marked 0
pub record Under (profile : LevelProfile) (cs : List Claim) (i j : ℕ) : Type 0 where
  pub earlier : i < j
  pub named : (hl_at cs i).id ≡ (hl_at cs j).parent
  pub pair : T (may_hang profile (code_of profile (hl_at cs i).code) (code_of profile (hl_at cs j).code))
  pub open_to_children : (hl_at cs i).mark ≡ bytes "0" → ⊥

-- the rules of levels, over all HL segments
pub record LevelsMeet (profile : LevelProfile) (cs : List Claim) : Type 0 where
  -- its HL01 is no earlier level's
  pub distinct : (i j : ℕ) → i < j → j < length cs → (hl_at cs i).id ≡ (hl_at cs j).id → ⊥
  -- a code of the list
  pub coded : (j : ℕ) → j < length cs → code_of profile (hl_at cs j).code ≡ 0 → ⊥
  -- without HL02 its code may stand alone
  pub alone : (j : ℕ) → j < length cs → (hl_at cs j).parent ≡ [] → T (may_stand_alone profile (code_of profile (hl_at cs j).code))
  -- with HL02 it hangs under an earlier level, as it may
  pub parented : (j : ℕ) → j < length cs → ((hl_at cs j).parent ≡ [] → ⊥) → (i : ℕ) × Under profile cs i j
  -- its mark is none, 0, or, of a code that may be marked, 1
  pub marked : (j : ℕ) → j < length cs
      → ((hl_at cs j).mark ≡ []) ⊎ (((hl_at cs j).mark ≡ bytes "0") ⊎ (((hl_at cs j).mark ≡ bytes "1") × T (may_be_marked profile (code_of profile (hl_at cs j).code))))
  -- a level marked 1 has a child
  pub filled : (i : ℕ) → i < length cs → (hl_at cs i).mark ≡ bytes "1"
      → (j : ℕ) × (j < length cs) × ((hl_at cs j).parent ≡ [] → ⊥) × ((hl_at cs i).id ≡ (hl_at cs j).parent)

-- the first segment, and the last
abbrev pub first_of : List View → View
first_of [] = []
first_of (v ∷ vs) = v

abbrev pub last_from : View → List View → View
last_from u [] = u
last_from u (v ∷ vs) = last_from v vs

-- the segments, numbered by these rows, meet every rule
pub record Meets (profile : Profile) (vs : List View) (rows : List ℕ) : Type 0 where
  -- loop rules: the rows are a word of the bracketed list, with rows of the profile alone
  pub word : WordOver profile.rows rows
  -- the numbering: each row has its segment's tag
  pub tags : map tag_of rows ≡ map tag_in_of vs
  -- byte rules: every byte that is looked into is data or a separator; there is an element, and no last element or last component is empty
  pub bytes : Each (λ v. Keeps (byte_checks v)) vs
  pub ends : Each (λ v. Keeps (end_checks v)) vs
  -- element rules
  pub elements : Each (λ v. Keeps (ruled_checks profile.elements (tag_in_of v) v)) vs
  -- level rules
  pub levels : LevelsMeet profile.levels (hls vs)
  -- closing rules: SE01 is the number of segments, SE02 equals ST02
  pub count : value_of (text_of (element_of (last_from [] vs) 1)) ≡ length vs
  pub control : text_of (element_of (last_from [] vs) 2) ≡ text_of (element_of (first_of vs) 2)
