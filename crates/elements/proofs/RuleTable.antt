-- The rules in the code against the data: the table by one computation over all tags and element numbers, LIN's by one over its elements.
-- Assumes nothing.
use Prim.Native.Nat.{ℕ, suc, ◌+◌, ◌-◌, ◌%◌, ◌≤◌, ◌<◌}
use mathlib.Core.Path.{◌≡◌, refl, sym, ap, ◌∙◌}
use mathlib.Core.Bool.{Bool, true, false, cond, ◌||◌, true≢false}
use mathlib.Core.List.{List, [], ◌∷◌}
use native.Mathlib.Omega.{arith}
use lib.Dec.{eqb, ltb}
use lib.ListN.{length, get_or, length-append}
use borrow.Author.Tests.{eqb-true, eqb-false, eq-eqb, ne_eqb, ltb-true, ltb-false, lt-ltb}
use Rattle.rows.specs.Tags.{tag_number, tag}
use Rattle.types.specs.declared.kind.Kind.{Kind}
use Rattle.types.specs.declared.kind.Kind.TheVariants.{AN, ID}
use Rattle.elements.specs.Data.{Value, Element, Rules, value, may, first_unit, rules_lin, ruled_segments}
use Rattle.elements.specs.Rules.{unruled, rule_of}
use Rattle.elements.specs.internal.Layouts.{up_to}
use Rattle.elements.specs.internal.Verdicts.{element_by, Renders, rules_of}
use Rattle.elements.specs.internal.Table.{no_entry, rule_table, rule_by, tabled, table_among, first_among, extent_of}
use Rattle.elements.specs.declared.rules.Rule.{Rule}
use Rattle.elements.specs.declared.rules.Entry.{Entry}
use Rattle.elements.specs.declared.rules.Extent.{Extent}
use Rattle.elements.proofs.RuleNumbers.{rules_LIN, rule_past, agree_below}
use Rattle.elements.proofs.EveryTag.{last_small, ruled_known}

-- one of two tests passes, or neither does
none_of : (a b : Bool) → a || b ≡ false → (a ≡ false) × (b ≡ false)
none_of true b e = absurd (true≢false e)
none_of false b e = (refl, e)

-- a number without a rule: 0, or past the last
renders_none : (rules : Rules) (k : ℕ) → eqb k 0 || ltb (length rules.elements) k ≡ true → Renders (rule_of rules k) (rule_by no_entry)
renders_none rules k e = by_zero (eqb k 0) refl e
  where
    by_zero : (t : Bool) → eqb k 0 ≡ t → t || ltb (length rules.elements) k ≡ true → Renders (rule_of rules k) (rule_by no_entry)
    by_zero true z e = rw (eqb-true k 0 z) (record { same = refl; first = λ f. absurd (true≢false (sym f)) })
    by_zero false z e = record {
      same = rule_past rules k (ltb-true (length rules.elements) k e);
      first = λ f. absurd (true≢false (sym f));
    }

pub outside_renders : (t k : ℕ) (x : Extent) (r : Rule) → x ≡ extent_of t → eqb k 0 || ltb x.last k ≡ true → r ≡ rule_by no_entry
    → Renders (rule_of (rules_of t) k) r
unfolding extent_of
outside_renders t k x r e o f = rw f (renders_none (rules_of t) k (rw e at o))

-- the table has 27 entries, and each segment's start is among them or at their end
pub table_length : length rule_table ≡ 27
unfolding rule_table tag_number
table_length = refl

first_among_lem : (xs : List (ℕ × Rules)) (t : ℕ) → first_among xs t ≤ length (table_among xs)
first_among_lem [] t = omega arith
first_among_lem (x ∷ xs) t = by_test (eqb x.0 t) (omega (arith, length-append (tabled x) (table_among xs), first_among_lem xs t))
  where
    by_test : (b : Bool) → length (tabled x) + first_among xs t ≤ length (table_among (x ∷ xs))
        → cond b 0 (length (tabled x) + first_among xs t) ≤ length (table_among (x ∷ xs))
    by_test true l = omega arith
    by_test false l = l

first_small : (t : ℕ) → (extent_of t).first ≤ 27
unfolding extent_of tag_number
first_small t = first_among_lem ruled_segments t

-- the rule of element k + 1 by the table, with the first component of a composite, and what the data say
abbrev rendered : ℕ → ℕ → Element × Value
rendered t k =
    let r = rule_by (get_or rule_table ((extent_of t).first + k) no_entry) in
    (element_by r, cond r.composite (value r.kind r.least r.most) first_unit)

abbrev wanted : ℕ → ℕ → Element × Value
wanted t k = (get_or (rules_of t).elements k unruled, first_unit)

abbrev in_table : (ℕ → ℕ → Element × Value) → ℕ → ℕ → Element × Value
in_table f t k = cond (eqb t (tag "LIN")) (unruled, first_unit) (cond (ltb k (extent_of t).last) (f t k) (unruled, first_unit))

table_is_data : up_to 34 (λ (t : ℕ). up_to 31 (in_table rendered t)) ≡ up_to 34 (λ (t : ℕ). up_to 31 (in_table wanted t))
unfolding rule_table extent_of rules_of tag_number
table_is_data = refl

by_pair : {r : Rule} {e : Element}
    → ◌≡◌ {A = Element × Value} (element_by r, cond r.composite (value r.kind r.least r.most) first_unit) (e, first_unit) → Renders e r
by_pair {r} p = record {
  same = ap (λ (x : Element × Value). x.0) p;
  first = λ c. rw c at (ap (λ (x : Element × Value). x.1) p);
}

at_number : (rules : Rules) {i k : ℕ} {r : Rule} → suc i ≡ k → Renders (get_or rules.elements i unruled) r → Renders (rule_of rules k) r
at_number rules e renders = rw (← e) renders

-- an element with a rule
module _ (t k : ℕ) (x : Extent) (e : x ≡ extent_of t) (inside : eqb k 0 || ltb x.last k ≡ false) where
  some : 1 ≤ k
  some = let other = eqb-false k 0 (none_of (eqb k 0) (ltb x.last k) inside).0 in omega (arith, other)

  near : k ≤ x.last
  near = ltb-false x.last k (none_of (eqb k 0) (ltb x.last k) inside).1

  last_is : x.last ≡ length (rules_of t).elements
  unfolding extent_of
  last_is = ap (λ (x : Extent). x.last) e

  pub place_small : x.first + k ≤ 58
  place_small = omega (arith, near, last_is, last_small t, first_small t, ap (λ (x : Extent). x.first) e)

  pub place_some : 1 ≤ x.first + k
  place_some = omega (arith, some)

  -- its rule stands in the table
  pub table_renders : (t ≡ tag "LIN" → ⊥) → (entry : Entry) (r : Rule) → entry ≡ get_or rule_table (x.first + k - 1) no_entry → r ≡ rule_by entry
      → Renders (rule_of (rules_of t) k) r
  table_renders n entry r p q =
      let below : t < 34 = ruled_known t (omega (arith, some, near, last_is)) in
      let step : suc (k - 1) ≡ k = omega (arith, some) in
      let last : k - 1 < (extent_of t).last = omega (arith, some, near, ap (λ (x : Extent). x.last) e) in
      let place : x.first + k - 1 ≡ (extent_of t).first + (k - 1) = omega (arith, some, ap (λ (x : Extent). x.first) e) in
      let row = agree_below 34 [] (λ (t : ℕ). up_to 31 (in_table rendered t)) (λ (t : ℕ). up_to 31 (in_table wanted t)) table_is_data t below in
      let found =
      agree_below 31 (unruled, first_unit) (in_table rendered t) (in_table wanted t) row (k - 1) (omega (arith, some, near, last_is, last_small t)) in
      rw (q ∙ ap rule_by (p ∙ ap (λ (n : ℕ). get_or rule_table n no_entry) place))
      (at_number (rules_of t) step (by_pair (rw (ne_eqb t (tag "LIN") n, lt-ltb (k - 1) (extent_of t).last last) at found)))

-- LIN's rules by the element's number, and what the data say
abbrev item : ℕ → Element
item k =
    cond (eqb k 0) unruled
    (cond (eqb k 1) (may AN 1 20)
    (cond (eqb (k % 2) 0) (element_by (rule_by (eqb k 2, false, ID, 2, 2))) (element_by (rule_by (eqb k 3, false, AN, 1, 48)))))

by_simple : (needed : Bool) (kind : Kind) (least most : ℕ) (e : Element) (r : Rule) → r ≡ rule_by (needed, false, kind, least, most)
    → element_by (rule_by (needed, false, kind, least, most)) ≡ e → Renders e r
by_simple needed kind least most e r q p = rw q (record { same = p; first = λ c. absurd (true≢false (sym c)) })

pub item_none : (k : ℕ) (r : Rule) → eqb k 0 || ltb 31 k ≡ true → r ≡ rule_by no_entry → Renders (rule_of (rules_of (tag "LIN")) k) r
item_none k r o q = rw (rules_LIN, q) (renders_none rules_lin k o)

module _ (k : ℕ) (r : Rule) (inside : eqb k 0 || ltb 31 k ≡ false) where
  item_is : item k ≡ rule_of (rules_of (tag "LIN")) k
  item_is =
      rw rules_LIN
      (agree_below 32 unruled item (rule_of rules_lin) refl k (omega (arith, ltb-false 31 k (none_of (eqb k 0) (ltb 31 k) inside).1)))

  pub item_first : k ≡ 1 → r ≡ rule_by (false, false, AN, 1, 20) → Renders (rule_of (rules_of (tag "LIN")) k) r
  item_first one q = by_simple false AN 1 20 _ r q (rw (eq-eqb k 1 one, (none_of (eqb k 0) (ltb 31 k) inside).0) at item_is)

  module _ (n : k ≡ 1 → ⊥) where
    pub item_even : k % 2 ≡ 0 → r ≡ rule_by (eqb k 2, false, ID, 2, 2) → Renders (rule_of (rules_of (tag "LIN")) k) r
    item_even even q =
        by_simple (eqb k 2) ID 2 2 _ r q
        (rw ((none_of (eqb k 0) (ltb 31 k) inside).0, ne_eqb k 1 n, eq-eqb (k % 2) 0 even) at item_is)

    pub item_odd : (k % 2 ≡ 0 → ⊥) → r ≡ rule_by (eqb k 3, false, AN, 1, 48) → Renders (rule_of (rules_of (tag "LIN")) k) r
    item_odd odd q =
        by_simple (eqb k 3) AN 1 48 _ r q
        (rw ((none_of (eqb k 0) (ltb 31 k) inside).0, ne_eqb k 1 n, ne_eqb (k % 2) 0 odd) at item_is)
