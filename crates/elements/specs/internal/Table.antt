-- The code's table of rules: those of every ruled segment but LIN, one after the other, and where each segment's stand in it.
-- Assumes nothing.
use Rattle.std.specs.Prelude.{ℕ, ◌+◌, Bool, true, false, cond, List, [], ◌∷◌, ◌++◌, map, eqb, length}
use Rattle.rows.specs.Tags.{tag}
use Rattle.types.specs.declared.kind.Kind.TheVariants.{AN}
use Rattle.elements.specs.Data.{Shape, Simple, Composite, Element, Rules, ruled_segments}
use Rattle.elements.specs.internal.Verdicts.{rules_of, last_must}
use Rattle.elements.specs.declared.rules.Rule.{Rule}
use Rattle.elements.specs.declared.rules.Entry.{Entry}
use Rattle.elements.specs.declared.rules.Extent.{Extent}

-- an entry of the table, and the rule with its fields
abbrev pub no_entry : Entry
no_entry = (false, false, AN, 0, 0)

abbrev pub rule_by : Entry → Rule
rule_by e = record { must = e.0; composite = e.1; kind = e.2; least = e.3; most = e.4 }

-- an element as an entry; of a composite the first component
abbrev pub entry_with : Bool → Shape → Entry
entry_with needed (Simple x) = (needed, false, x.kind, x.least, x.most)
entry_with needed (Composite []) = (needed, true, AN, 0, 0)
entry_with needed (Composite (x ∷ xs)) = (needed, true, x.kind, x.least, x.most)

abbrev pub entry_of : Element → Entry
entry_of e = entry_with e.must e.shape

-- the elements of a segment that stand in the table: LIN's rules are computed
abbrev pub tabled : ℕ × Rules → List Element
tabled x = cond (eqb x.0 (tag "LIN")) [] x.1.elements

abbrev pub table_among : List (ℕ × Rules) → List Element
table_among [] = []
table_among (x ∷ xs) = tabled x ++ table_among xs

unfoldable pub rule_table : List Entry
rule_table = map entry_of (table_among ruled_segments)

-- where the rules of a tag start in it
abbrev pub first_among : List (ℕ × Rules) → ℕ → ℕ
first_among [] t = 0
first_among (x ∷ xs) t = cond (eqb x.0 t) 0 (length (tabled x) + first_among xs t)

-- the rules of a tag: where they start, how many elements have one, and the last that is mandatory
unfoldable pub extent_of : ℕ → Extent
extent_of t = record {
  first = first_among ruled_segments t;
  last = length (rules_of t).elements;
  needed = last_must (rules_of t).elements;
}
