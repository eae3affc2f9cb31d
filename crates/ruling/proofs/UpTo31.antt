-- The tests of a ruled segment depend on nothing past its element 31: the longest rule has 31 elements.
-- Assumes nothing.
use Prim.Native.Nat.{ℕ, ◌≤◌}
use mathlib.Core.Path.{◌≡◌, refl, sym, ap, ap₂, ◌∙◌}
use mathlib.Core.Logic.{by_cases}
use mathlib.Core.Bool.{Bool, true, not, ◌&&◌, ◌||◌}
use mathlib.Core.List.{List, [], ◌∷◌, ◌++◌}
use native.Mathlib.Omega.{arith}
use native.Mathlib.Decide.{dec_lt}
use lib.Dec.{leb}
use lib.ListN.{length}
use borrow.Author.Tests.{leb-true, lt-leb}
use Rattle.text.specs.Bytes.{every, any}
use Rattle.text.specs.View.{Piece, View, present, element_of, element_count}
use Rattle.text.proofs.Tests.{and_first, and_second}
use Rattle.elements.specs.Checks.{Check, check, each, first_broken}
use Rattle.elements.specs.Data.{Note, Paired, Required, Conditional, Rules, element_profile}
use Rattle.rows.specs.declared.profile.ProfileName.{ProfileName}
use Rattle.elements.specs.Rules.{is_unused, absent_if, rule_of, note_holds, named_first, too_many_checks, missing_checks, unfit_checks, note_checks, checks_by, ruled_checks, few_by, complete_by, suits_by, present_at}
use Rattle.elements.specs.internal.Verdicts.{rules_of}
use Rattle.elements.proofs.FirstBroken.{each_same}
use Rattle.elements.proofs.EveryTag.{last_small, note_within, notes_small, ruled_by, ruled_none}
use Rattle.elements.specs.declared.verdict.Reason.TheVariants.{Missing, TooMany, Unfit, BrokenNote}

-- two tests that agree up to 31 agree on lists of such numbers
module _ (f g : ℕ → Bool) (same : (k : ℕ) → k ≤ 31 → f k ≡ g k) where
  every_same : (ks : List ℕ) → every (λ (k : ℕ). leb k 31) ks ≡ true → every f ks ≡ every g ks
  every_same [] e = refl
  every_same (k ∷ ks) e =
      ap₂ ◌&&◌ (same k (leb-true k 31 (and_first (leb k 31) (every (λ (k : ℕ). leb k 31) ks) e)))
      (every_same ks (and_second (leb k 31) (every (λ (k : ℕ). leb k 31) ks) e))

  any_same : (ks : List ℕ) → every (λ (k : ℕ). leb k 31) ks ≡ true → any f ks ≡ any g ks
  any_same [] e = refl
  any_same (k ∷ ks) e =
      ap₂ ◌||◌ (same k (leb-true k 31 (and_first (leb k 31) (every (λ (k : ℕ). leb k 31) ks) e)))
      (any_same ks (and_second (leb k 31) (every (λ (k : ℕ). leb k 31) ks) e))

  note_same : (n : Note) → note_within n ≡ true → note_holds f n ≡ note_holds g n
  note_same (Paired ks) e = ap₂ (λ (a b : Bool). a || not b) (every_same ks e) (any_same ks e)
  note_same (Required ks) e = any_same ks e
  note_same (Conditional k ks) e =
      ap₂ (λ (a b : Bool). not a || b) (same k (leb-true k 31 (and_first (leb k 31) (every (λ (k : ℕ). leb k 31) ks) e)))
      (every_same ks (and_second (leb k 31) (every (λ (k : ℕ). leb k 31) ks) e))

module _ (v w : View) (count : element_count v ≡ element_count w) (same : (k : ℕ) → k ≤ 31 → element_of v k ≡ element_of w k) where
  notes_same : (ns : List Note) → every note_within ns ≡ true → note_checks ns (present_at v) ≡ note_checks ns (present_at w)
  notes_same [] e = refl
  notes_same (n ∷ ns) e =
      ap₂ (λ (t : Bool) (l : List Check). check BrokenNote (named_first n) t ∷ l)
      (note_same (present_at v) (present_at w) (λ k l. ap present (same k l)) n
      (and_first (note_within n) (every note_within ns) e))
      (notes_same ns (and_second (note_within n) (every note_within ns) e))

  module _ (rules : Rules) (unused : ℕ → Bool) (few : length rules.elements ≤ 31) where
    abbrev few_at : View → ℕ → Bool
    few_at x k = few_by rules k (element_of x k) && absent_if (unused k) (element_of x k)

    few_same : (k : ℕ) → few_at v k ≡ few_at w k
    few_same k =
        by_cases (dec_lt 31 k) (λ l. rw (lt-leb k (length rules.elements) (omega arith)))
        (λ l. ap (λ (p : Piece). few_by rules k p && absent_if (unused k) p) (same k (omega arith)))

    many_same : too_many_checks rules unused v ≡ too_many_checks rules unused w
    many_same =
        ap (λ (n : ℕ). each TooMany 1 n (few_at v)) count
        ∙ each_same TooMany 1 (element_count w) (few_at v) (few_at w) (λ k l u. few_same k)

    missing_same : missing_checks rules v ≡ missing_checks rules w
    missing_same =
        each_same Missing 1 (length rules.elements) (λ (k : ℕ). complete_by (rule_of rules k) (element_of v k))
        (λ (k : ℕ). complete_by (rule_of rules k) (element_of w k)) (λ k l u. ap (complete_by (rule_of rules k)) (same k (omega arith)))

    unfit_same : unfit_checks rules v ≡ unfit_checks rules w
    unfit_same =
        each_same Unfit 1 (length rules.elements) (λ (k : ℕ). suits_by (rule_of rules k) (element_of v k))
        (λ (k : ℕ). suits_by (rule_of rules k) (element_of w k)) (λ k l u. ap (suits_by (rule_of rules k)) (same k (omega arith)))

    checks_same : every note_within rules.notes ≡ true → checks_by rules unused v ≡ checks_by rules unused w
    checks_same e =
        ap₂ ◌++◌ (ap₂ ◌++◌ (ap₂ ◌++◌ many_same missing_same) unfit_same) (notes_same rules.notes e)

  -- the same tests, and so the same verdict
  pub checks_agree : (profile : ProfileName) (tag : ℕ) → ruled_checks (element_profile profile) tag v ≡ ruled_checks (element_profile profile) tag w
  checks_agree profile tag =
      by_cases (dec_lt 0 (length (rules_of tag).elements))
      (λ l. ruled_by profile tag v (λ z. omega arith)
      ∙ checks_same (rules_of tag) (is_unused (element_profile profile) tag) (last_small tag) (notes_small tag)
      ∙ sym (ruled_by profile tag w (λ z. omega arith)))
      (λ l. let none : length (rules_of tag).elements ≡ 0 = omega arith in ruled_none profile tag v none ∙ sym (ruled_none profile tag w none))

  pub ruled_agree : (profile : ProfileName) (tag : ℕ)
      → first_broken (ruled_checks (element_profile profile) tag v) ≡ first_broken (ruled_checks (element_profile profile) tag w)
  ruled_agree profile tag = ap first_broken (checks_agree profile tag)
