-- What a profile says of levels: the codes, which may stand without a parent, which may be marked 1, and which may hang under which.
-- Assumes nothing.
use Rattle.std.specs.Prelude.{ℕ, Bool, cond, ◌&&◌, List, [], ◌∷◌, eqb}
use Prim.Native.String.{String}
use Rattle.text.specs.Bytes.{Bytes, bytes, any, among, same}
use Rattle.rows.specs.declared.profile.ProfileName.{ProfileName}
use Rattle.rows.specs.declared.profile.ProfileName.TheVariants.{Report, Reply}

pub record LevelProfile : Type 0 where
  -- the codes that it knows
  pub codes : List ℕ
  -- of these those that may stand without a parent
  pub alone : List ℕ
  -- those that may be marked 1
  pub marked : List ℕ
  -- the permitted pairs, parent and child
  pub pairs : List (ℕ × ℕ)

-- the codes with their numbers: 1 report, 2 item, 3 component, 4 product characteristic, 5 serial number, 6 response
abbrev pub six_codes : List (Bytes × ℕ)
six_codes = (bytes "RP", 1) ∷ (bytes "I", 2) ∷ (bytes "F", 3) ∷ (bytes "PC", 4) ∷ (bytes "SN", 5) ∷ (bytes "RB", 6) ∷ []

-- the number of a code among codes; 0 for bytes that are no code
abbrev pub code_among : List (Bytes × ℕ) → Bytes → ℕ
code_among [] text = 0
code_among (x ∷ xs) text = cond (same x.0 text) x.1 (code_among xs text)

abbrev pub code : String → ℕ
code text = code_among six_codes (bytes text)

abbrev pub pair : String → String → ℕ × ℕ
pair parent child = (code parent, code child)

-- nonconformance reports
abbrev pub nonconformance : LevelProfile
nonconformance = record {
  codes = code "RP" ∷ code "I" ∷ code "F" ∷ code "PC" ∷ code "SN" ∷ [];
  -- which levels may stand without a parent: RP and I
  alone = code "RP" ∷ code "I" ∷ [];
  -- which levels may promise a child: all but PC and SN
  marked = code "RP" ∷ code "I" ∷ code "F" ∷ [];
  -- which level may hang under which
  pairs = pair "RP" "I" ∷ pair "I" "F" ∷ pair "I" "PC" ∷ pair "F" "PC" ∷ pair "I" "SN" ∷ pair "F" "SN" ∷ [];
}

-- storage-quality replies: no level asks for a parent, and since HL02 and HL04 are absent none has one and none is marked
abbrev pub storage_reply : LevelProfile
storage_reply = record {
  codes = code "I" ∷ code "RB" ∷ code "RP" ∷ [];
  alone = code "I" ∷ code "RB" ∷ code "RP" ∷ [];
  marked = [];
  pairs = [];
}

-- what the profile of that name says of levels
abbrev pub level_profile : ProfileName → LevelProfile
level_profile Report = nonconformance
level_profile Reply = storage_reply

-- the number of a code that the profile knows; 0 where it is unknown
abbrev pub if_known : LevelProfile → ℕ → ℕ
if_known profile c = cond (among profile.codes c) c 0

unfoldable pub code_of : LevelProfile → Bytes → ℕ
code_of profile text = if_known profile (code_among six_codes text)

unfoldable pub may_stand_alone : LevelProfile → ℕ → Bool
may_stand_alone profile c = among profile.alone c

unfoldable pub may_be_marked : LevelProfile → ℕ → Bool
may_be_marked profile c = among profile.marked c

unfoldable pub may_hang : LevelProfile → ℕ → ℕ → Bool
may_hang profile parent child = any (λ (p : ℕ × ℕ). eqb p.0 parent && eqb p.1 child) profile.pairs
