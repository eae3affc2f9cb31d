-- What is found of a ruled segment before its notes, from the segment's rules and its elements.
-- Assumes nothing.
use Rattle.std.specs.Prelude.{ℕ, Bool, not, ◌&&◌, List, ◌++◌, length}
use Rattle.text.specs.View.{Piece}
use Rattle.rows.specs.declared.profile.ProfileName.{ProfileName}
use Rattle.elements.specs.Data.{Rules, element_profile}
use Rattle.elements.specs.Checks.{Check, Verdict, each, first_broken}
use Rattle.elements.specs.Rules.{few_by, is_unused}
use Rattle.elements.specs.internal.Verdicts.{rules_of, complete_at_of, suits_at_of}
use Rattle.elements.specs.declared.verdict.Reason.TheVariants.{Missing, TooMany, Unfit}

-- 9 of the elements from 1 to `count` that must be absent, where `there` tells which are present
abbrev pub unused_verdict : (unused there : ℕ → Bool) → ℕ → Verdict
unused_verdict unused there count = first_broken (each TooMany 1 count (λ (k : ℕ). not (unused k && there k)))

-- 9 of any others from 1 to `count`
abbrev pub many_verdict : Rules → (ℕ → Piece) → ℕ → Verdict
many_verdict rules at count = first_broken (each TooMany 1 count (λ (k : ℕ). few_by rules k (at k)))

-- 9, 8 and 10 of a segment with `count` elements, where any may be present
abbrev pub early_checks : Rules → (ℕ → Piece) → ℕ → List Check
early_checks rules at count =
    each TooMany 1 count (λ (k : ℕ). few_by rules k (at k))
    ++ (each Missing 1 (length rules.elements) (complete_at_of rules at) ++ each Unfit 1 (length rules.elements) (suits_at_of rules at))

unfoldable pub early_verdict : Rules → (ℕ → Piece) → ℕ → Verdict
early_verdict rules at count = first_broken (early_checks rules at count)

-- and by the profile, which may want some of them absent
unfoldable pub early_by : ProfileName → ℕ → (there : ℕ → Bool) → (ℕ → Piece) → ℕ → Verdict
early_by profile tag there at count =
    first_broken (each TooMany 1 count (λ (k : ℕ). not (is_unused (element_profile profile) tag k && there k)) ++ early_checks (rules_of tag) at count)
