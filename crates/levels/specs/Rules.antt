-- What entitles a level to its parent: the rules behind answers 12, 13, 14 and 15, in document 01's order.
-- Assumes nothing.
use Rattle.std.specs.Prelude.{ℕ, suc, Bool, true, cond, not, ◌&&◌, ◌||◌, List, [], ◌∷◌, leb, eqb, length}
use Rattle.text.specs.Bytes.{Bytes, bytes, any, same}
use Rattle.elements.specs.Checks.{Check, check}
use Rattle.levels.specs.Profile.{LevelProfile, code_of, may_stand_alone, may_be_marked, may_hang}
use Rattle.levels.specs.Levels.{Claim, Level, called, level_at, parent_of}
use Rattle.elements.specs.declared.verdict.Reason.TheVariants.{RepeatedName, UnknownParent, BadCode, BadMark}

-- an empty element is absent
abbrev pub absent : Bytes → Bool
absent s = eqb (length s) 0

-- a mark is absent, `0`, or `1` of a code that may be marked so
abbrev pub mark_fits : LevelProfile → ℕ → Bytes → Bool
mark_fits profile code mark = absent mark || same mark (bytes "0") || (same mark (bytes "1") && may_be_marked profile code)

-- 14 and 15 of a level without a parent, by its code's number and its mark
abbrev pub root_checks : LevelProfile → ℕ → Bytes → List Check
root_checks profile code mark =
    -- 14: the code is unknown, or the level may not stand without a parent
    check BadCode 3 (leb 1 code && may_stand_alone profile code)
    -- 15: its own mark is unfit
    ∷ check BadMark 4 (mark_fits profile code mark)
    ∷ []

-- 14 and 15 of a level under a parent of the code `parent`, which is marked 0 (`shut`) or is not
abbrev pub child_checks : LevelProfile → ℕ → Bool → ℕ → Bytes → List Check
child_checks profile parent shut code mark =
    -- 14: the code is unknown
    check BadCode 3 (leb 1 code)
    -- 14: the pair is not permitted
    ∷ check BadCode 2 (may_hang profile parent code)
    -- 15: the parent is marked 0
    ∷ check BadMark 2 (not shut)
    -- 15: its own mark is unfit
    ∷ check BadMark 4 (mark_fits profile code mark)
    ∷ []

-- the tests of an HL after the levels ls
abbrev pub level_checks : LevelProfile → List Level → Claim → List Check
level_checks profile ls c =
    -- 12: HL01 was used before
    check RepeatedName 1 (eqb (called c.id ls) 0)
    -- 13: HL02 names no earlier level
    ∷ check UnknownParent 2 (absent c.parent || leb 1 (called c.parent ls))
    -- 14 and 15: where HL02 is absent those of a level without a parent, else those of a level under the one that HL02 names
    ∷ cond (absent c.parent) (root_checks profile (code_of profile c.code) c.mark)
    (child_checks profile (level_at (parent_of c ls) ls).code (same (level_at (parent_of c ls) ls).mark (bytes "0")) (code_of profile c.code) c.mark)

-- what SE asks of the levels ls, which are some of `all`: each that is marked 1 has a child among all levels
abbrev pub filled_from : List Level → List Level → Bool
filled_from all [] = true
filled_from all (l ∷ ls) = (not (same l.mark (bytes "1")) || any (λ (child : Level). eqb child.parent (suc (length ls))) all) && filled_from all ls

-- 15 at SE: every level marked 1 has a child
unfoldable pub filled : List Level → Bool
filled ls = filled_from ls ls
