-- What the functions that judge a ruled segment find, rule by rule, from the segment's tag and its elements.
-- Assumes nothing.
use Rattle.std.specs.Prelude.{ℕ, suc, ◌≤◌, ◌<◌, ◌≡◌, Bool, true, cond, List, [], ◌∷◌, ◌++◌, eqb}
use Rattle.text.specs.View.{Piece}
use Rattle.elements.specs.Data.{Simple, Composite, Element, Rules, value, first_unit, unit_values, ruled_segments}
use Rattle.elements.specs.Checks.{Verdict, each, first_broken}
use Rattle.elements.specs.Rules.{rule_of, complete_by, suits_by}
use Rattle.elements.specs.declared.rules.Rule.{Rule}
use Rattle.elements.specs.declared.verdict.Reason.TheVariants.{Missing, Unfit}

-- the element that a rule of the code describes
abbrev pub element_by : Rule → Element
element_by r = record { must = r.must; shape = cond r.composite (Composite unit_values) (Simple (value r.kind r.least r.most)) }

-- the rule describes the element; of the composite it has the first component
pub record Renders (e : Element) (r : Rule) : Type 0 where
  pub same : element_by r ≡ e
  pub first : r.composite ≡ true → value r.kind r.least r.most ≡ first_unit

-- the rules of a tag among those of a profile; a plain segment has none
abbrev pub rules_among : List (ℕ × Rules) → ℕ → Rules
rules_among [] tag = record { elements = []; notes = [] }
rules_among (x ∷ xs) tag = cond (eqb x.0 tag) x.1 (rules_among xs tag)

unfoldable pub rules_of : ℕ → Rules
rules_of tag = rules_among ruled_segments tag

-- the last mandatory element, from 1; 0 where none is
abbrev pub last_must : List Element → ℕ
last_must [] = 0
last_must (x ∷ xs) = cond (eqb (last_must xs) 0) (cond x.must 1 0) (suc (last_must xs))

-- 8 and 10 of the elements from 1 to `upto`
unfoldable pub complete_at_of : Rules → (ℕ → Piece) → ℕ → Bool
complete_at_of rules at k = complete_by (rule_of rules k) (at k)

unfoldable pub suits_at_of : Rules → (ℕ → Piece) → ℕ → Bool
suits_at_of rules at k = suits_by (rule_of rules k) (at k)

abbrev pub elements_verdict : Rules → (ℕ → Piece) → ℕ → Verdict
elements_verdict rules at upto = first_broken (each Missing 1 upto (complete_at_of rules at) ++ each Unfit 1 upto (suits_at_of rules at))

-- r is the last element to look at: no further than the last with a rule, and as far as the last that is there or has to be
pub record Reached (count needed last r : ℕ) : Type 0 where
  pub near : needed ≤ last → r ≤ last
  pub enough : needed ≤ last → needed ≤ r
  pub far : r < last → count ≤ r
