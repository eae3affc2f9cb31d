-- 9, 8 and 10 of a ruled segment, put together in their order from what the code finds of the elements.
-- Assumes nothing.
use Prim.Native.Nat.{ℕ, ◌≤◌}
use mathlib.Core.Path.{◌≡◌, sym, ap, ap₂, ◌∙◌}
use mathlib.Core.Bool.{Bool, not, ◌&&◌}
use mathlib.Core.List.{List, ◌++◌}
use native.Mathlib.Omega.{arith}
use lib.ListN.{length}
use Rattle.text.specs.Bytes.{Bytes}
use Rattle.text.specs.View.{Piece}
use Rattle.rows.specs.declared.profile.ProfileName.{ProfileName}
use Rattle.elements.specs.Data.{element_profile}
use Rattle.std.specs.Prelude.{Err}
use Rattle.elements.specs.Checks.{each, Verdict, Holds, broken}
use Rattle.elements.specs.Rules.{few_by, is_unused}
use Rattle.elements.specs.internal.Layouts.{components_in}
use Rattle.elements.specs.internal.Verdicts.{rules_of, last_must, complete_at_of, suits_at_of, elements_verdict}
use Rattle.ruling.specs.internal.Early.{unused_verdict, many_verdict, early_checks, early_verdict, early_by}
use Rattle.elements.specs.declared.layout.Layout.{Layout}
use Rattle.elements.proofs.FirstBroken.{and_then, broken_append, first_holds}
use Rattle.elements.proofs.ByLayout.{at_past}
use Rattle.elements.proofs.ElementPass.{elements_upto}
use Rattle.ruling.proofs.TooMany.{few_count}
use Rattle.elements.specs.declared.verdict.Reason.{Reason}
use Rattle.elements.specs.declared.verdict.Reason.TheVariants.{Missing, TooMany, Unfit}

module _ (s : Bytes) (starts : List ℕ) (layout : Layout) (component tag : ℕ) where
  abbrev at : ℕ → Piece
  at = components_in s starts layout component

  abbrev nine : Verdict
  nine = many_verdict (rules_of tag) at layout.count

  abbrev eight_ten : Verdict
  eight_ten = elements_verdict (rules_of tag) at (length (rules_of tag).elements)

  abbrev early : Verdict
  early = early_verdict (rules_of tag) at layout.count

  pub early_is : early ≡ and_then nine eight_ten
  unfolding early_verdict
  early_is =
      broken_append (each TooMany 1 layout.count (λ (k : ℕ). few_by (rules_of tag) k (at k)))
      (each Missing 1 (length (rules_of tag).elements) (complete_at_of (rules_of tag) at) ++ each Unfit 1 (length (rules_of tag).elements) (suits_at_of (rules_of tag) at))

  -- 9 decides among them, or is silent and leaves it to 8 and 10
  pub early_many : (n : Reason) (e : ℕ) → broken n e ≡ nine → broken n e ≡ early
  early_many n e q = sym (early_is ∙ ap (λ (v : Verdict). and_then v eight_ten) (sym q))

  pub early_rest : Holds ≡ nine → eight_ten ≡ early
  early_rest q = sym (early_is ∙ ap (λ (v : Verdict). and_then v eight_ten) (sym q))

  -- of the elements up to one that reaches far enough
  pub early_elements : (upto : ℕ) → Holds ≡ nine → layout.count ≤ upto → last_must (rules_of tag).elements ≤ upto
      → upto ≤ length (rules_of tag).elements → elements_verdict (rules_of tag) at upto ≡ early
  early_elements upto few far enough near =
      sym
      (early_is ∙ ap₂ and_then (sym few) (elements_upto tag layout.count upto at (at_past s starts layout component) far enough near))

  -- where they are silent, there are no more elements than rules
  pub early_few : Holds ≡ early → layout.count ≤ length (rules_of tag).elements
  early_few q = few_count tag layout.count at (first_holds nine eight_ten (sym early_is ∙ sym q))

  -- by the profile: an element that must be absent decides, or they are silent and leave it to the others
  module _ (profile : ProfileName) (there : ℕ → Bool) where
    abbrev unwanted : Verdict
    unwanted = unused_verdict (is_unused (element_profile profile) tag) there layout.count

    pub by_profile : early_by profile tag there at layout.count ≡ and_then unwanted early
    unfolding early_by early_verdict
    by_profile =
        broken_append (each TooMany 1 layout.count (λ (k : ℕ). not (is_unused (element_profile profile) tag k && there k))) (early_checks (rules_of tag) at layout.count)

    pub unwanted_decides : (n : Reason) (e : ℕ) → broken n e ≡ unwanted → broken n e ≡ early_by profile tag there at layout.count
    unwanted_decides n e q = sym (by_profile ∙ ap (λ (v : Verdict). and_then v early) (sym q))

    pub others_decide : Holds ≡ unwanted → early ≡ early_by profile tag there at layout.count
    others_decide q = sym (by_profile ∙ ap (λ (v : Verdict). and_then v early) (sym q))

    -- silent by the profile, they are silent
    pub silent_others : Holds ≡ early_by profile tag there at layout.count → Holds ≡ early
    silent_others q = sym (second_holds unwanted early (sym by_profile ∙ sym q))
      where
        second_holds : (v w : Verdict) → and_then v w ≡ Holds → w ≡ Holds
        second_holds Holds w e = e
        second_holds (Err f) w e = absurd (let z : ◌≡◌ {A = ℕ} 0 1 = cc in omega arith)
