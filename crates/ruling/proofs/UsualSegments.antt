-- A usual segment: where each element passes its quick test or may be absent, 9, 8 and 10 are silent.
-- Assumes nothing.
use Prim.Native.Nat.{ℕ, zero, suc, ◌+◌, ◌≤◌, ◌<◌}
use mathlib.Core.Path.{◌≡◌, refl, sym, ap, ◌∙◌}
use mathlib.Core.Logic.{by_cases}
use mathlib.Core.Bool.{Bool, true, false, not, ◌&&◌, ◌||◌}
use mathlib.Core.List.{List, [], ◌∷◌}
use native.Mathlib.Omega.{arith}
use native.Mathlib.Decide.{dec_lt}
use lib.Dec.{leb}
use lib.ListN.{length}
use borrow.Author.Tests.{le-leb, leb-true, ne_eqb}
use Rattle.text.specs.Bytes.{Bytes}
use Rattle.text.specs.View.{Piece, empty}
use Rattle.text.proofs.Tests.{and_first, and_second}
use Rattle.types.specs.Types.{fits}
use Rattle.types.specs.internal.Quick.{fits_quickly}
use Rattle.types.specs.declared.kind.Kind.{Kind}
use Rattle.types.proofs.QuickFits.{quickly_fits}
use Rattle.elements.specs.Data.{Shape, Simple, Composite, first_unit, units}
use Rattle.elements.specs.Checks.{each, first_broken, Verdict, Holds}
use Rattle.elements.specs.Rules.{rule_of, few_components}
use Rattle.elements.specs.internal.Layouts.{element_in, components_in}
use Rattle.elements.specs.internal.Verdicts.{rules_of, last_must, complete_at_of, suits_at_of, elements_verdict}
use Rattle.ruling.specs.internal.Early.{many_verdict, early_verdict}
use Rattle.ruling.specs.internal.Usual.{simple, Suits, SuitsAt, FromOne, Suiting}
use Rattle.elements.specs.declared.layout.Layout.{Layout}
use Rattle.elements.proofs.FirstBroken.{and_then, broken_append, each_holds}
use Rattle.elements.proofs.EveryTag.{few_empty}
use Rattle.ruling.proofs.TooMany.{few_all}
use Rattle.ruling.proofs.EarlyRules.{early_elements}
use Rattle.elements.specs.declared.verdict.Reason.TheVariants.{Missing, Unfit}

-- what a quick test passes suits its rule; nothing suits a rule that does not ask for it
asked : (m : Bool) → (not m || true) && true ≡ true
asked true = refl
asked false = refl

module _ (needed : Bool) (kind : Kind) (least most : ℕ) where
  pub fits_suits : (p : Bytes) → (length p ≡ 0 → ⊥) → fits kind least most p ≡ true → Suits (simple needed kind least most) p
  fits_suits [] n e = absurd (n refl)
  fits_suits (b ∷ p) n e = record { complete = asked needed; suited = e }

  pub absent_suits : (p : Bytes) → length p ≡ 0 → not needed ≡ true → Suits (simple needed kind least most) p
  absent_suits [] l e = record { complete = rw e; suited = refl }
  absent_suits (b ∷ p) l e = absurd (omega arith)

  pub quick_suits : (p : Bytes) (x : Bool) → (length p ≡ 0 → ⊥) → x ≡ fits_quickly kind least most p → x ≡ true
      → Suits (simple needed kind least most) p
  quick_suits p x n e t = fits_suits p n (quickly_fits kind least most p (sym e ∙ t))

pub no_unit : (p : Bytes) → length p ≡ 0 → Suits units p
no_unit [] l = record { complete = refl; suited = refl }
no_unit (b ∷ p) l = absurd (omega arith)

pub one_unit : (p : Bytes) (x : Bool) → (length p ≡ 0 → ⊥) → x ≡ fits_quickly first_unit.kind first_unit.least first_unit.most p → x ≡ true
    → Suits units p
one_unit [] x n e t = absurd (n refl)
one_unit (b ∷ p) x n e t =
    let unit = quickly_fits first_unit.kind first_unit.least first_unit.most (b ∷ p) (sym e ∙ t) in
    record { complete = le-leb 1 (suc (length p)) (omega arith); suited = rw (ne_eqb (suc (length p)) 0 (omega arith), unit) }

-- one more of the first numbers
pub one_more : (P : ℕ → Type 0) (n : ℕ) (x y : Bool) → (x ≡ true → FromOne P n) → (y ≡ true → P (suc n)) → x && y ≡ true → FromOne P (suc n)
one_more P n x y f g e = (f (and_first x y e), g (and_second x y e))

from_one : (P : ℕ → Type 0) (n : ℕ) → FromOne P n → (k : ℕ) → 1 ≤ k → k ≤ n → P k
from_one P zero f k l u = absurd (omega arith)
from_one P (suc n) f k l u =
    by_cases (dec_lt k (suc n)) (λ less. from_one P n f.0 k l (omega arith)) (λ more. let same : suc n ≡ k = omega arith in rw same at f.1)

-- the elements up to one that the rules reach, where there are no more
pub suiting : (s : Bytes) (starts : List ℕ) (layout : Layout) (tag upto : ℕ) (b : Bool)
    → leb (last_must (rules_of tag).elements) upto && leb upto (length (rules_of tag).elements) && leb 1 upto ≡ true
    → (b ≡ true → FromOne (SuitsAt s starts layout tag) upto) → leb layout.count upto && b ≡ true → Suiting s starts layout tag
suiting s starts layout tag upto b reaches suit e =
    let needed = leb (last_must (rules_of tag).elements) upto in
    let ruled = leb upto (length (rules_of tag).elements) in
    let both = and_first (needed && ruled) (leb 1 upto) reaches in
    record {
      upto = upto;
      far = leb-true layout.count upto (and_first (leb layout.count upto) b e);
      enough = leb-true (last_must (rules_of tag).elements) upto (and_first needed ruled both);
      near = leb-true upto (length (rules_of tag).elements) (and_second needed ruled both);
      some = leb-true 1 upto (and_second (needed && ruled) (leb 1 upto) reaches);
      suit = suit (and_second (leb layout.count upto) b e);
    }

-- one component is never too many
few_one : (tag : ℕ) (p : Bytes) → few_components (rule_of (rules_of tag) 5).shape (p ∷ []) ≡ true
few_one tag p = by_shape (rule_of (rules_of tag) 5).shape (few_empty tag)
  where
    by_shape : (shape : Shape) → few_components shape empty ≡ true → few_components shape (p ∷ []) ≡ true
    by_shape (Simple x) e = refl
    by_shape (Composite xs) e = e

module _ (s : Bytes) (starts : List ℕ) (layout : Layout) (tag : ℕ) (w : Suiting s starts layout tag) (single : layout.single ≡ true)
    (component : ℕ) where
  abbrev at : ℕ → Piece
  at = components_in s starts layout component

  alone : (k : ℕ) → element_in s starts layout k ∷ [] ≡ at k
  unfolding components_in
  alone k = rw single

  few : Holds ≡ many_verdict (rules_of tag) at layout.count
  few = few_all tag layout.count at (rw (← alone 5) (few_one tag (element_in s starts layout 5))) (omega (arith, w.far, w.near))

  each_suits : (k : ℕ) → 1 ≤ k → k < 1 + w.upto → SuitsAt s starts layout tag k
  each_suits k l u = from_one (SuitsAt s starts layout tag) w.upto w.suit k l (omega arith)

  complete : (k : ℕ) → 1 ≤ k → k < 1 + w.upto → complete_at_of (rules_of tag) at k ≡ true
  unfolding complete_at_of
  complete k l u = rw (← alone k) (each_suits k l u).complete

  suited : (k : ℕ) → 1 ≤ k → k < 1 + w.upto → suits_at_of (rules_of tag) at k ≡ true
  unfolding suits_at_of
  suited k l u = rw (← alone k) (each_suits k l u).suited

  elements : elements_verdict (rules_of tag) at w.upto ≡ Holds
  elements =
      broken_append (each Missing 1 w.upto (complete_at_of (rules_of tag) at)) (each Unfit 1 w.upto (suits_at_of (rules_of tag) at))
      ∙ ap (λ (v : Verdict). and_then v (first_broken (each Unfit 1 w.upto (suits_at_of (rules_of tag) at))))
      (each_holds Missing 1 w.upto (complete_at_of (rules_of tag) at) complete)
      ∙ each_holds Unfit 1 w.upto (suits_at_of (rules_of tag) at) suited

  -- so the three rules are silent
  pub usual_silent : Holds ≡ early_verdict (rules_of tag) at layout.count
  usual_silent = sym elements ∙ early_elements s starts layout component tag w.upto few w.far w.enough w.near
