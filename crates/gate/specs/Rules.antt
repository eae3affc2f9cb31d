-- The rules that a segment is tested by, in the order of document 01's table of answers, after the segments h before it (latest first) and
-- their rows w.
-- Assumes nothing.
use Rattle.std.specs.Prelude.{ℕ, suc, ◌≡◌, ◌⊎◌, cond, List, [], ◌∷◌, ◌++◌, T, ltb, eqb, length}
use Rattle.text.specs.Bytes.{same, value_of}
use Rattle.text.specs.View.{View, element_of}
use Rattle.rows.specs.Following.{Fits}
use Rattle.elements.specs.Checks.{Check, check, Keeps}
use Rattle.elements.specs.Rules.{byte_checks, end_checks, ruled_checks}
use Rattle.elements.specs.declared.verdict.Reason.{Reason}
use Rattle.elements.specs.declared.verdict.Reason.TheVariants.{UnknownTag, NoRow, BadMark, BadClose, ForeignRow}
use Rattle.levels.specs.Levels.{claim_of, text_of}
use Rattle.levels.specs.Rules.{level_checks, filled}
use Rattle.gate.specs.Profile.{Profile}
use Rattle.gate.specs.Segments.{tag_in_of, is_hl, is_se, levels_in, opening}

-- 4: the tag is none of the 34
unfoldable pub tag_checks : View → List Check
tag_checks v = check UnknownTag 0 (ltb (tag_in_of v) 34) ∷ []

-- 12, 13, 14, 15 of an HL
unfoldable pub hl_checks : Profile → List View → View → List Check
hl_checks profile h v = cond (is_hl v) (level_checks profile.levels (levels_in profile h) (claim_of v)) []

-- 16 and 15 of an SE: SE01, taken as a number, counts all segments with the SE; SE02 is the ST's ST02; every level marked 1 has a child
abbrev pub closing_checks : Profile → List View → View → List Check
closing_checks profile h v =
    check BadClose 1 (eqb (value_of (text_of (element_of v 1))) (suc (length h)))
    ∷ check BadClose 2 (same (text_of (element_of v 2)) (text_of (element_of (opening h) 2)))
    ∷ check BadMark 0 (filled (levels_in profile h))
    ∷ []

unfoldable pub se_checks : Profile → List View → View → List Check
se_checks profile h v = cond (is_se v) (closing_checks profile h v) []

-- A rule: a test, or that a row fits
pub record Rule : Type 1 where
  pub reason : Reason
  pub element : ℕ
  pub Holds : Type 0

abbrev pub as_rules : List Check → List Rule
as_rules [] = []
as_rules (c ∷ cs) = record { reason = c.reason; element = c.element; Holds = T c.holds } ∷ as_rules cs

-- the profile admits the row
abbrev pub Admitted : Profile → ℕ → Type 0
Admitted profile row = T (profile.rows row)

-- 7 asks that some row with this tag goes on from the rows so far, whatever the profile; 24, that the profile admits it
abbrev pub row_rules : Profile → List ℕ → View → List Rule
row_rules profile w v =
    record { reason = NoRow; element = 0; Holds = (r : ℕ) × Fits w (tag_in_of v) r }
    ∷ record { reason = ForeignRow; element = 0; Holds = (r : ℕ) × Fits w (tag_in_of v) r × Admitted profile r }
    ∷ []

-- 5, 4, 6 before a row is looked for
abbrev pub early : View → List Check
early v = byte_checks v ++ tag_checks v ++ end_checks v

-- 9, 8, 10, 11, 12, 13, 14, 16, 15 after it
abbrev pub late : Profile → List View → View → List Check
late profile h v = ruled_checks profile.elements (tag_in_of v) v ++ hl_checks profile h v ++ se_checks profile h v

-- all rules of a segment, in order
abbrev pub rules : Profile → List ℕ → List View → View → List Rule
rules profile w h v = as_rules (early v) ++ row_rules profile w v ++ as_rules (late profile h v)

-- the first rule that does not hold has this reason and element
abbrev pub FirstBroken : List Rule → Reason → ℕ → Type 0
FirstBroken [] reason element = ⊥
FirstBroken (r ∷ rs) reason element =
    ((r.Holds → ⊥) × (reason ≡ r.reason) × (element ≡ r.element)) ⊎ (r.Holds × FirstBroken rs reason element)

-- what a segment keeps by itself and after those before it, the row aside
pub record Kept (profile : Profile) (h : List View) (v : View) : Type 0 where
  pub bytes : Keeps (byte_checks v)
  pub ends : Keeps (end_checks v)
  pub elements : Keeps (ruled_checks profile.elements (tag_in_of v) v)
  pub level : Keeps (hl_checks profile h v)
  pub closing : Keeps (se_checks profile h v)

-- every rule holds of the segment, and this is the row that fits it
pub record Sound (profile : Profile) (w : List ℕ) (h : List View) (v : View) (row : ℕ) : Type 0 where
  pub kept : Kept profile h v
  pub fits : Fits w (tag_in_of v) row
  pub admitted : Admitted profile row

-- each of the segments keeps P after those before it
abbrev pub From : (List View → View → Type 0) → List View → List View → Type 0
From P h [] = Unit {0}
From P h (v ∷ vs) = P h v × From P (v ∷ h) vs
