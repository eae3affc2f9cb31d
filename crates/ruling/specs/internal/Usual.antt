-- Segments of one component an element whose elements pass their quick tests.
-- Assumes nothing.
use Rattle.std.specs.Prelude.{ℕ, zero, suc, ◌≤◌, ◌≡◌, Bool, true, false, List, [], ◌∷◌, length}
use Rattle.text.specs.Bytes.{Bytes}
use Rattle.types.specs.declared.kind.Kind.{Kind}
use Rattle.rows.specs.declared.profile.ProfileName.{ProfileName}
use Rattle.elements.specs.Data.{Simple, Element, value, element_profile}
use Rattle.elements.specs.Rules.{rule_of, is_unused, complete_by, suits_by}
use Rattle.elements.specs.internal.Layouts.{element_in}
use Rattle.elements.specs.internal.Verdicts.{rules_of, last_must}
use Rattle.elements.specs.declared.layout.Layout.{Layout}

-- the rule of an element of one value
abbrev pub simple : Bool → Kind → ℕ → ℕ → Element
simple needed kind least most = record { must = needed; shape = Simple (value kind least most) }

-- an element of one component is complete, and suits its rule
pub record Suits (e : Element) (p : Bytes) : Type 0 where
  pub complete : complete_by e (p ∷ []) ≡ true
  pub suited : suits_by e (p ∷ []) ≡ true

-- element k does
abbrev pub SuitsAt : Bytes → List ℕ → Layout → (tag k : ℕ) → Type 0
SuitsAt s starts layout tag k = Suits (rule_of (rules_of tag) k) (element_in s starts layout k)

-- the first n numbers have the property
abbrev pub FromOne : (ℕ → Type 0) → ℕ → Type 0
FromOne P zero = Unit {0}
FromOne P (suc n) = FromOne P n × P (suc n)

-- the profile wants no element of the segment with that tag absent
abbrev pub AllUsed : ProfileName → ℕ → Type 0
AllUsed profile tag = (k : ℕ) → is_unused (element_profile profile) tag k ≡ false

-- the elements up to one that reaches the last that is there and the last that has to be
pub record Suiting (s : Bytes) (starts : List ℕ) (layout : Layout) (tag : ℕ) : Type 0 where
  pub upto : ℕ
  pub far : layout.count ≤ upto
  pub enough : last_must (rules_of tag).elements ≤ upto
  pub near : upto ≤ length (rules_of tag).elements
  pub some : 1 ≤ upto
  pub suit : FromOne (SuitsAt s starts layout tag) upto
