-- The element rules of document 01 as data: the types, lengths and marks of each ruled segment's elements, and its notes.
-- Assumes nothing.
use Rattle.std.specs.Prelude.{ℕ, zero, suc, ◌+◌, Bool, true, false, List, [], ◌∷◌, ◌++◌}
use Rattle.rows.specs.Tags.{tag}
use Rattle.rows.specs.declared.profile.ProfileName.{ProfileName}
use Rattle.rows.specs.declared.profile.ProfileName.TheVariants.{Report, Reply}
use Rattle.types.specs.declared.kind.Kind.{Kind}
use Rattle.types.specs.declared.kind.Kind.TheVariants.{AN, ID, Set842, N0, R, DT, TM}

-- one value: its type, its least and its most length
pub record Value : Type 0 where
  pub kind : Kind
  pub least : ℕ
  pub most : ℕ

-- an element is one value, or a composite of components, the first of which is mandatory
pub data Shape : Type 0 where
  Simple : Value → Shape
  Composite : List Value → Shape

-- an element: whether it is mandatory, and its shape
pub record Element : Type 0 where
  pub must : Bool
  pub shape : Shape

-- P asks for all of its elements or none, R for one or more, C for the rest where the first is there
pub data Note : Type 0 where
  Paired : List ℕ → Note
  Required : List ℕ → Note
  Conditional : ℕ → List ℕ → Note

-- the rules of a segment: its elements from 1 on, and its notes in order
pub record Rules : Type 0 where
  pub elements : List Element
  pub notes : List Note

abbrev pub value : Kind → ℕ → ℕ → Value
value kind least most = record { kind = kind; least = least; most = most }

-- a mandatory element; one that may be absent
abbrev pub must : Kind → ℕ → ℕ → Element
must kind least most = record { must = true; shape = Simple (value kind least most) }

abbrev pub may : Kind → ℕ → ℕ → Element
may kind least most = record { must = false; shape = Simple (value kind least most) }

-- a list n times over
abbrev pub times : {A : Type 0} → ℕ → List A → List A
times zero l = []
times (suc n) l = l ++ times n l

-- the notes P of n pairs of neighbours, from element a on
abbrev pub pairs_from : ℕ → ℕ → List Note
pairs_from a zero = []
pairs_from a (suc n) = Paired (a ∷ (a + 1) ∷ []) ∷ pairs_from (a + 2) n

-- ST: 1 ID 3/3 mandatory, equal to `842`; 2 AN 4/9 mandatory
abbrev pub rules_st : Rules
rules_st = record { elements = must Set842 3 3 ∷ must AN 4 9 ∷ []; notes = [] }

-- N1: R0203, P0304
abbrev pub rules_n1 : Rules
rules_n1 = record {
  elements = must ID 2 3 ∷ may AN 1 60 ∷ may ID 1 2 ∷ may AN 2 80 ∷ may ID 2 2 ∷ may ID 2 3 ∷ [];
  notes = Required (2 ∷ 3 ∷ []) ∷ Paired (3 ∷ 4 ∷ []) ∷ [];
}

-- DTM: R020305, C0403, P0506
abbrev pub rules_dtm : Rules
rules_dtm = record {
  elements = must ID 3 3 ∷ may DT 8 8 ∷ may TM 4 8 ∷ may ID 2 2 ∷ may ID 2 3 ∷ may AN 1 35 ∷ [];
  notes = Required (2 ∷ 3 ∷ 5 ∷ []) ∷ Conditional 4 (3 ∷ []) ∷ Paired (5 ∷ 6 ∷ []) ∷ [];
}

-- HL: no notes
abbrev pub rules_hl : Rules
rules_hl = record { elements = must AN 1 12 ∷ may AN 1 12 ∷ must ID 1 2 ∷ may ID 1 1 ∷ []; notes = [] }

-- LIN: 1 AN 1/20; then fifteen pairs, ID 2/2 and AN 1/48, up to element 31; 2 and 3 mandatory; P0405, P0607, .. P3031
abbrev pub rules_lin : Rules
rules_lin = record {
  elements = may AN 1 20 ∷ must ID 2 2 ∷ must AN 1 48 ∷ times 14 (may ID 2 2 ∷ may AN 1 48 ∷ []);
  notes = pairs_from 4 14;
}

-- NTE: no notes
abbrev pub rules_nte : Rules
rules_nte = record { elements = may ID 3 3 ∷ must AN 1 80 ∷ []; notes = [] }

-- NCA05's fifteen components: five times ID 2/2, R 1/15, R 1/10
abbrev pub first_unit : Value
first_unit = value ID 2 2

abbrev pub unit_values : List Value
unit_values = times 5 (first_unit ∷ value R 1 15 ∷ value R 1 10 ∷ [])

abbrev pub units : Element
units = record { must = false; shape = Composite unit_values }

-- NCA: R0203, P0405
abbrev pub rules_nca : Rules
rules_nca = record {
  elements = may AN 1 20 ∷ may ID 1 2 ∷ may AN 1 80 ∷ may R 1 15 ∷ units ∷ [];
  notes = Required (2 ∷ 3 ∷ []) ∷ Paired (4 ∷ 5 ∷ []) ∷ [];
}

-- SE: 1 N0 1/10 mandatory; 2 AN 4/9 mandatory
abbrev pub rules_se : Rules
rules_se = record { elements = must N0 1 10 ∷ must AN 4 9 ∷ []; notes = [] }

-- what a profile says of elements
pub record ElementProfile : Type 0 where
  -- the ruled segments by their tags; every other segment is plain
  pub ruled : List (ℕ × Rules)
  -- the elements of ruled segments that must be absent, each by its tag and its number
  pub unused : List (ℕ × ℕ)

-- both profiles rule the same segments,
abbrev pub ruled_segments : List (ℕ × Rules)
ruled_segments =
    (tag "ST", rules_st) ∷ (tag "N1", rules_n1) ∷ (tag "DTM", rules_dtm) ∷ (tag "HL", rules_hl) ∷ (tag "LIN", rules_lin)
    ∷ (tag "NTE", rules_nte) ∷ (tag "NCA", rules_nca) ∷ (tag "SE", rules_se) ∷ []

-- and in a storage-quality reply HL02 and HL04 are absent
abbrev pub unused_by : ProfileName → List (ℕ × ℕ)
unused_by Report = []
unused_by Reply = (tag "HL", 2) ∷ (tag "HL", 4) ∷ []

-- what the profile of that name says of elements
abbrev pub element_profile : ProfileName → ElementProfile
element_profile profile = record { ruled = ruled_segments; unused = unused_by profile }
