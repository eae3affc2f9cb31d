-- Answer 9: too many elements, or too many components in NCA05.
-- Assumes nothing.
use Prim.Native.Nat.{ℕ, zero, suc, ◌+◌, ◌≤◌, ◌<◌}
use mathlib.Core.Path.{◌≡◌, refl, sym, ap, ◌∙◌}
use mathlib.Core.Logic.{by_cases}
use mathlib.Core.Bool.{Bool, true, false, ◌&&◌, true≢false}
use native.Mathlib.Omega.{arith}
use native.Mathlib.Decide.{dec_lt}
use lib.Dec.{leb, eqb}
use lib.ListN.{length}
use borrow.Author.Tests.{eqb-true, eqb-false, leb-true, le-leb, lt-leb}
use Rattle.text.specs.View.{Piece, empty}
use Rattle.text.proofs.Tests.{and_first}
use Rattle.rows.specs.Tags.{tag}
use Rattle.elements.specs.Checks.{each, first_broken, Holds, broken}
use Rattle.elements.specs.Data.{Element}
use Rattle.elements.specs.Rules.{rule_of, few_components, few_by}
use Rattle.elements.specs.internal.Verdicts.{rules_of}
use Rattle.elements.proofs.FirstBroken.{each_holds, each_broken, holds_each}
use Rattle.elements.proofs.EveryTag.{few_but_five, few_empty}
use Rattle.elements.proofs.RuleNumbers.{rule_past, rules_NCA}
use Rattle.elements.specs.declared.verdict.Reason.TheVariants.{TooMany}

-- NCA05's components, counted by the code
pub few_fifth : (t : ℕ) (p : Piece) → t ≡ tag "NCA" → leb (length p) 15 ≡ few_components (rule_of (rules_of t) 5).shape p
few_fifth t p e = rw (e, rules_NCA)

-- 9: NCA05 has too many components, or there is an element past the last
module _ (tag count : ℕ) (at : ℕ → Piece) where
  abbrev few : ℕ → Bool
  few k = few_by (rules_of tag) k (at k)

  abbrev last : ℕ
  last = length (rules_of tag).elements

  pub too_many_five : (count < 5 → at 5 ≡ empty) → few_components (rule_of (rules_of tag) 5).shape (at 5) ≡ false
      → broken TooMany 5 ≡ first_broken (each TooMany 1 count few)
  too_many_five past e =
      sym (each_broken TooMany 1 count 5 few (λ j l m. before j m) (omega arith) (omega (arith, there)) (rw e (last_false (leb 5 last))))
    where
      last_false : (t : Bool) → t && false ≡ false
      last_false true = refl
      last_false false = refl

      there : 5 ≤ count
      there =
          by_cases (dec_lt count 5)
          (λ l. absurd (true≢false (sym (few_empty tag) ∙ ap (few_components (rule_of (rules_of tag) 5).shape) (sym (past l)) ∙ e))) (λ l. omega arith)

      ruled : 5 ≤ last
      ruled =
          by_cases (dec_lt last 5)
          (λ l. absurd (true≢false (ap (λ (r : Element). few_components r.shape (at 5)) (rule_past (rules_of tag) 5 l) ∙ e))) (λ l. omega arith)

      before : (j : ℕ) → j < 5 → few j ≡ true
      before j m = rw (le-leb j last (omega (arith, ruled))) (few_but_five tag j (at j) (λ z. omega arith))

  module _ (five : few_components (rule_of (rules_of tag) 5).shape (at 5) ≡ true) where
    few_each : (j : ℕ) → few_components (rule_of (rules_of tag) j).shape (at j) ≡ true
    few_each j = by_test (eqb j 5) refl
      where
        by_test : (t : Bool) → eqb j 5 ≡ t → few_components (rule_of (rules_of tag) j).shape (at j) ≡ true
        by_test true e = rw (eqb-true j 5 e) five
        by_test false e = few_but_five tag j (at j) (eqb-false j 5 e)

    past_last : last < count → broken TooMany (last + 1) ≡ first_broken (each TooMany 1 count few)
    past_last l =
        sym
        (each_broken TooMany 1 count (last + 1) few (λ j p m. rw (le-leb j last (omega arith)) (few_each j)) (omega arith) (omega arith)
        (rw (lt-leb (last + 1) last (omega arith))))

    pub too_many_past : (n : ℕ) → n ≡ last → n < count → broken TooMany (n + 1) ≡ first_broken (each TooMany 1 count few)
    too_many_past n e l = rw e (past_last (rw e at l))

    pub few_all : count ≤ last → Holds ≡ first_broken (each TooMany 1 count few)
    few_all l = sym (each_holds TooMany 1 count few (λ j p m. rw (le-leb j last (omega arith)) (few_each j)))

-- where 9 is silent there are no more elements than rules
pub few_count : (tag count : ℕ) (at : ℕ → Piece) → first_broken (each TooMany 1 count (λ (k : ℕ). few_by (rules_of tag) k (at k))) ≡ Holds
    → count ≤ length (rules_of tag).elements
few_count tag zero at e = omega arith
few_count tag (suc count) at e =
    leb-true (suc count) (length (rules_of tag).elements)
    (and_first (leb (suc count) (length (rules_of tag).elements)) (few_components (rule_of (rules_of tag) (suc count)).shape (at (suc count)))
    (holds_each TooMany 1 (suc count) (λ (k : ℕ). few_by (rules_of tag) k (at k)) e (suc count) (omega arith) (omega arith)))
