-- The pass over the elements: too many of them, the first that is incomplete, the first that does not suit.
-- Assumes nothing.
use Prim.Native.Nat.{ℕ, ◌+◌, ◌≤◌, ◌<◌}
use mathlib.Core.Path.{◌≡◌, refl, sym, ap, ap₂, ◌∙◌}
use mathlib.Core.Logic.{by_cases}
use mathlib.Core.Bool.{Bool, true, false, true≢false}
use mathlib.Core.List.{◌++◌}
use native.Mathlib.Omega.{arith}
use native.Mathlib.Decide.{dec_lt}
use lib.ListN.{length}
use Rattle.std.specs.Prelude.{Option, Some, None}
use Rattle.std.specs.Option.{is_some}
use Rattle.text.specs.View.{Piece, empty}
use Rattle.rows.specs.Tags.{tag}
use Rattle.elements.specs.Checks.{each, first_broken, Verdict, Holds, broken}
use Rattle.elements.specs.Data.{Shape, Simple, Composite, Rules}
use Rattle.elements.specs.Rules.{rule_of, headed, complete_by, suits_by}
use Rattle.elements.specs.internal.Verdicts.{element_by, rules_of, last_must, complete_at_of, suits_at_of, elements_verdict}
use Rattle.elements.specs.declared.rules.Rule.{Rule}
use Rattle.elements.proofs.FirstBroken.{and_then, broken_append, each_holds, each_broken, each_upto}
use Rattle.elements.proofs.EveryTag.{unneeded}
use Rattle.elements.specs.declared.verdict.Reason.TheVariants.{Missing, Unfit}

-- the element is behind none that does not suit
abbrev pub Before : Option ℕ → ℕ → Type 0
Before None j = Unit {0}
Before (Some n) j = j < n

-- an element below k that fails the test, if any
abbrev pub Fails : (ℕ → Bool) → ℕ → Option ℕ → Type 0
Fails u k None = Unit {0}
Fails u k (Some n) = (u n ≡ false) × (1 ≤ n) × (n < k)

-- two tests of each element, t before u: those below k pass t, and `unfit` is the first of them that fails u, if any
pub record Judged (t u : ℕ → Bool) (k : ℕ) (unfit : Option ℕ) : Type 0 where
  pub start : 1 ≤ k
  pub complete : (j : ℕ) → 1 ≤ j → j < k → t j ≡ true
  pub suited : (j : ℕ) → 1 ≤ j → j < k → Before unfit j → u j ≡ true
  pub found : Fails u k unfit

-- what holds below k and at k holds below k + 1
below_next : (P : ℕ → Type 0) (k : ℕ) → ((j : ℕ) → 1 ≤ j → j < k → P j) → P k → (j : ℕ) → 1 ≤ j → j < k + 1 → P j
below_next P k below here j l m =
    by_cases (dec_lt j k) (λ less. below j l less) (λ not-less. let same : k ≡ j = omega arith in rw same at here)

-- the first that does not suit
pub judged_first : {t u : ℕ → Bool} {k : ℕ} → Judged t u k None → t k ≡ true → u k ≡ false → Judged t u (k + 1) (Some k)
judged_first {t} {u} {k} w c e = record {
  start = omega (arith, w.start);
  complete = below_next (λ (j : ℕ). t j ≡ true) k w.complete c;
  suited = λ j l m o. w.suited j l o tt;
  found = (e, w.start, omega arith);
}

-- one that suits
pub judged_suited : {t u : ℕ → Bool} {k : ℕ} → Judged t u k None → t k ≡ true → u k ≡ true → Judged t u (k + 1) None
judged_suited {t} {u} {k} w c e = record {
  start = omega (arith, w.start);
  complete = below_next (λ (j : ℕ). t j ≡ true) k w.complete c;
  suited = below_next (λ (j : ℕ). Unit {0} → u j ≡ true) k w.suited (λ o. e);
  found = tt;
}

-- one behind the first that does not
pub judged_behind : {t u : ℕ → Bool} {k n : ℕ} → Judged t u k (Some n) → t k ≡ true → Judged t u (k + 1) (Some n)
judged_behind {t} {u} {k} {n} w c = record {
  start = omega (arith, w.start);
  complete = below_next (λ (j : ℕ). t j ≡ true) k w.complete c;
  suited = below_next (λ (j : ℕ). j < n → u j ≡ true) k w.suited (λ o. absurd (omega (arith, w.found.2)));
  found = (w.found.0, w.found.1, omega (arith, w.found.2));
}

-- as the code tests it: only where none has failed yet
pub judged_on : {t u : ℕ → Bool} {k : ℕ} (unfit : Option ℕ) → is_some unfit ≡ false → Judged t u k unfit → t k ≡ true → u k ≡ false
    → Judged t u (k + 1) (Some k)
judged_on None q w c e = judged_first w c e
judged_on (Some n) q w c e = absurd (true≢false q)

pub judged_on_suited : {t u : ℕ → Bool} {k : ℕ} (unfit : Option ℕ) → is_some unfit ≡ false → Judged t u k unfit → t k ≡ true → u k ≡ true
    → Judged t u (k + 1) unfit
judged_on_suited None q w c e = judged_suited w c e
judged_on_suited (Some n) q w c e = absurd (true≢false q)

pub judged_on_behind : {t u : ℕ → Bool} {k : ℕ} (unfit : Option ℕ) → is_some unfit ≡ true → Judged t u k unfit → t k ≡ true
    → Judged t u (k + 1) unfit
judged_on_behind None q w c = absurd (true≢false (sym q))
judged_on_behind (Some n) q w c = judged_behind w c

module _ (t u : ℕ → Bool) (upto : ℕ) where
  abbrev both : Verdict
  both = first_broken (each Missing 1 upto t ++ each Unfit 1 upto u)

  -- an element that is incomplete decides
  pub judged_missing : {k : ℕ} {unfit : Option ℕ} → Judged t u k unfit → k ≤ upto → t k ≡ false → broken Missing k ≡ both
  judged_missing {k} w l e =
      sym
      (broken_append (each Missing 1 upto t) (each Unfit 1 upto u)
      ∙ ap (λ (v : Verdict). and_then v (first_broken (each Unfit 1 upto u))) (each_broken Missing 1 upto k t w.complete w.start (omega arith) e))

  all_there : {k : ℕ} {unfit : Option ℕ} → Judged t u k unfit → upto < k → both ≡ first_broken (each Unfit 1 upto u)
  all_there w over =
      broken_append (each Missing 1 upto t) (each Unfit 1 upto u)
      ∙ ap (λ (v : Verdict). and_then v (first_broken (each Unfit 1 upto u))) (each_holds Missing 1 upto t (λ j l m. w.complete j l (omega arith)))

  pub judged_unfit : {k n : ℕ} → Judged t u k (Some n) → upto < k → k ≤ upto + 1 → broken Unfit n ≡ both
  judged_unfit {k} {n} w over near =
      sym
      (all_there w over
      ∙ each_broken Unfit 1 upto n u (λ j l m. w.suited j l (omega (arith, w.found.2)) m) w.found.1 (omega (arith, w.found.2)) w.found.0)

  pub judged_all : {k : ℕ} → Judged t u k None → upto < k → Holds ≡ both
  judged_all w over = sym (all_there w over ∙ each_holds Unfit 1 upto u (λ j l m. w.suited j l (omega arith) tt))

-- what the code finds of element k
module _ (rules : Rules) (at : ℕ → Piece) (k : ℕ) (rule : Rule) (p : Piece) (e : element_by rule ≡ rule_of rules k) (f : p ≡ at k) where
  pub complete_at : complete_by (element_by rule) p ≡ complete_at_of rules at k
  unfolding complete_at_of
  complete_at = ap₂ complete_by e f

  pub suits_at : suits_by (element_by rule) p ≡ suits_at_of rules at k
  unfolding suits_at_of
  suits_at = ap₂ suits_by e f

-- past the last element that is there or has to be, all is well
module _ (tag count upto : ℕ) (at : ℕ → Piece) (past : (k : ℕ) → count < k → at k ≡ empty) (far : count ≤ upto) where
  pub suits_past : (k : ℕ) → upto < k → suits_at_of (rules_of tag) at k ≡ true
  unfolding suits_at_of
  suits_past k l = rw (past k (omega arith))

  pub complete_past : last_must (rules_of tag).elements ≤ upto → (k : ℕ) → upto < k → complete_at_of (rules_of tag) at k ≡ true
  unfolding complete_at_of
  complete_past enough k l =
      rw (past k (omega arith), unneeded tag k (omega arith)) (absent (rule_of (rules_of tag) k).shape)
    where
      absent : (shape : Shape) → headed shape empty ≡ true
      absent (Simple x) = refl
      absent (Composite xs) = refl

  pub elements_upto : last_must (rules_of tag).elements ≤ upto → upto ≤ length (rules_of tag).elements
      → elements_verdict (rules_of tag) at (length (rules_of tag).elements) ≡ elements_verdict (rules_of tag) at upto
  elements_upto enough near =
      let last = length (rules_of tag).elements in
      let t = complete_at_of (rules_of tag) at in
      let u = suits_at_of (rules_of tag) at in
      broken_append (each Missing 1 last t) (each Unfit 1 last u)
      ∙ ap₂ and_then (each_upto Missing 1 upto last t near (λ k l m. complete_past enough k (omega arith)))
      (each_upto Unfit 1 upto last u near (λ k l m. suits_past k (omega arith)))
      ∙ sym (broken_append (each Missing 1 upto t) (each Unfit 1 upto u))

-- the pass ends there, or at the last element with a rule
pub elements_reached : (tag count upto : ℕ) (at : ℕ → Piece) → ((k : ℕ) → count < k → at k ≡ empty)
    → (upto < length (rules_of tag).elements → count ≤ upto) → last_must (rules_of tag).elements ≤ upto → upto ≤ length (rules_of tag).elements
    → elements_verdict (rules_of tag) at upto ≡ elements_verdict (rules_of tag) at (length (rules_of tag).elements)
elements_reached tag count upto at past far enough near =
    by_cases (dec_lt upto (length (rules_of tag).elements)) (λ l. sym (elements_upto tag count upto at past (far l) enough near))
    (λ l. let same : upto ≡ length (rules_of tag).elements = omega arith in ap (elements_verdict (rules_of tag) at) same)
