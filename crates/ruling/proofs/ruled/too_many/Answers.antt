-- `too_many` meets its contract: element 5, an element past the last, or neither.
-- Assumes nothing.
use Prim.Native.Nat.{ℕ}
use mathlib.Core.Path.{◌≡◌, sym, ◌∙◌}
use mathlib.Core.Bool.{true}
use Rattle.text.specs.View.{Piece}
use Rattle.elements.specs.Rules.{rule_of, few_components}
use Rattle.elements.specs.internal.Layouts.{components_in}
use Rattle.elements.specs.internal.Verdicts.{rules_of}
use Rattle.ruling.proofs.TooMany.{too_many_five, too_many_past, few_all}
use Rattle.elements.proofs.ByLayout.{at_past}
use Rattle.ruling.proofs.ruled.too_many.Goals as goal
use Rattle.ruling.proofs.ruled.too_many.Goals.{Else-not-is_few, Start}

abbrev at : Start → ℕ → Piece
at c = components_in c.args.parts.bytes.now c.args.parts.starts.now c.args.parts.layout c.args.component

few : (c : Else-not-is_few) → few_components (rule_of (rules_of c.args.tag) 5).shape (components_in c.args.parts.bytes.now c.args.parts.starts.now c.args.parts.layout c.args.component 5) ≡ true
few c = sym c.is_few.ensures ∙ c.if-not-is_few.false

pub returns-then-not-is_few : goal.returns-then-not-is_few
returns-then-not-is_few c =
    rw c.at_element.ensures
    (too_many_five c.args.tag c.args.parts.layout.count (at (goal.at.returns-then-not-is_few c).Start) (λ l. at_past _ _ _ _ 5 l)
    (sym c.is_few.ensures ∙ c.if-not-is_few.true))

pub returns-then-last-parts : goal.returns-then-last-parts
returns-then-last-parts c =
    rw c.at_element-then-last-parts.ensures
    (too_many_past c.args.tag c.args.parts.layout.count (at (goal.at.returns-then-last-parts c).Start) (few (goal.at.returns-then-last-parts c).Else-not-is_few) _ c.last_ruled-last.ensures c.if-last-parts.true)

pub returns : goal.returns
returns c =
    few_all c.args.tag c.args.parts.layout.count (at (goal.at.returns c).Start) (few (goal.at.returns c).Else-not-is_few) (rw c.last_ruled-last.ensures at c.if-last-parts.false)
