-- The tests of a ruled segment, put together in their order from what the code finds of the elements.
-- Assumes nothing.
use Prim.Native.Nat.{ℕ, ◌<◌}
use mathlib.Core.Path.{◌≡◌, refl, sym, ap, ap₂, ◌∙◌}
use mathlib.Core.Bool.{Bool, true, false, not, ◌&&◌, true≢false}
use mathlib.Core.List.{List, ◌++◌}
use lib.Dec.{T, eqb}
use lib.ListN.{length}
use Rattle.text.specs.Bytes.{Bytes}
use Rattle.text.specs.View.{Piece, View, present, element_of}
use Rattle.std.specs.Prelude.{Err}
use Rattle.elements.specs.Checks.{Check, each, first_broken, Verdict, Holds, broken}
use Rattle.elements.specs.Data.{Note, Rules, element_profile}
use Rattle.rows.specs.declared.profile.ProfileName.{ProfileName}
use Rattle.elements.specs.Rules.{is_unused, absent_if, too_many_checks, missing_checks, unfit_checks, note_checks, checks_by, ruled_checks, few_by, present_at}
use Rattle.elements.specs.internal.Layouts.{layout_view, there_in, components_in}
use Rattle.elements.specs.internal.Verdicts.{rules_of, complete_at_of, suits_at_of, elements_verdict}
use Rattle.ruling.specs.internal.Early.{unused_verdict, early_by}
use Rattle.elements.specs.declared.layout.Layout.{Layout}
use Rattle.elements.proofs.FirstBroken.{and_then, broken_append, then_assoc, each_same, each_decides, each_under, each_silent}
use Rattle.elements.proofs.ByLayout.{element_past, view_count, view_at, at_present}
use Rattle.elements.proofs.EveryTag.{ruled_by, ruled_none}
use Rattle.ruling.proofs.EarlyRules.{early_is, unwanted_decides, others_decide}
use Rattle.ruling.proofs.UnusedElements.{few_so_far}
use Rattle.elements.specs.declared.verdict.Reason.{Reason}
use Rattle.elements.specs.declared.verdict.Reason.TheVariants.{Missing, TooMany, Unfit}

module _ (s : Bytes) (starts : List ℕ) (layout : Layout) where
  abbrev there : ℕ → Bool
  there = there_in s starts layout

  -- past the last element there is nothing
  pub there_past : (k : ℕ) → layout.count < k → there k ≡ false
  there_past k l = ap (λ (p : Bytes). not (eqb (length p) 0)) (sym (element_past s starts layout k l))

  module _ (component : ℕ) where
    abbrev at : ℕ → Piece
    at = components_in s starts layout component

    abbrev view : View
    view = layout_view s starts layout component

    elements_are : element_of view ≡ at
    elements_are = λ i k. view_at s starts layout component k i

    presence_is : present_at view ≡ there
    presence_is = λ i k. (ap present (view_at s starts layout component k) ∙ at_present s starts layout component k) i

    -- 9, 8, 10 and 11 over the view are those over the elements
    many_found : (rules : Rules) (unused : ℕ → Bool)
        → too_many_checks rules unused view ≡ each TooMany 1 layout.count (λ (k : ℕ). few_by rules k (at k) && absent_if (unused k) (at k))
    many_found rules unused =
        ap₂ (λ (n : ℕ) (f : ℕ → Piece). each TooMany 1 n (λ (k : ℕ). few_by rules k (f k) && absent_if (unused k) (f k))) (view_count s starts layout component)
        elements_are

    missing_found : (rules : Rules) → missing_checks rules view ≡ each Missing 1 (length rules.elements) (complete_at_of rules at)
    unfolding complete_at_of
    missing_found rules = ap (λ (f : ℕ → Piece). each Missing 1 (length rules.elements) (complete_at_of rules f)) elements_are

    unfit_found : (rules : Rules) → unfit_checks rules view ≡ each Unfit 1 (length rules.elements) (suits_at_of rules at)
    unfolding suits_at_of
    unfit_found rules = ap (λ (f : ℕ → Piece). each Unfit 1 (length rules.elements) (suits_at_of rules f)) elements_are

    notes_found : (ns : List Note) → note_checks ns (present_at view) ≡ note_checks ns there
    notes_found ns = ap (note_checks ns) presence_is

    -- grouped as the code tests them
    checks_found : (rules : Rules) (unused : ℕ → Bool)
        → first_broken (checks_by rules unused view)
        ≡ and_then (first_broken (each TooMany 1 layout.count (λ (k : ℕ). few_by rules k (at k) && absent_if (unused k) (at k))))
        (and_then (elements_verdict rules at (length rules.elements)) (first_broken (note_checks rules.notes there)))
    checks_found rules unused =
        let many = too_many_checks rules unused view in
        let missing = missing_checks rules view in
        let unfit = unfit_checks rules view in
        let notes = note_checks rules.notes (present_at view) in
        let a = first_broken many in
        let b = first_broken missing in
        let c = first_broken unfit in
        let d = first_broken notes in
        broken_append (many ++ missing ++ unfit) notes
        ∙ ap (λ (v : Verdict). and_then v d)
        (broken_append (many ++ missing) unfit ∙ ap (λ (v : Verdict). and_then v c) (broken_append many missing) ∙ then_assoc a b c)
        ∙ then_assoc a (and_then b c) d
        ∙ ap₂ (λ (v w : Verdict). and_then v (and_then w d)) (ap first_broken (many_found rules unused))
        (sym (broken_append missing unfit)
        ∙ ap₂ (λ (x y : List Check). first_broken (x ++ y)) (missing_found rules) (unfit_found rules))
        ∙ ap (λ (x : List Check). and_then (first_broken (each TooMany 1 layout.count (λ (k : ℕ). few_by rules k (at k) && absent_if (unused k) (at k))))
        (and_then (elements_verdict rules at (length rules.elements)) (first_broken x)))
        (notes_found rules.notes)

    module _ (profile : ProfileName) (tag : ℕ) where
      abbrev whole : Verdict
      whole = first_broken (ruled_checks (element_profile profile) tag view)

      abbrev unused : ℕ → Bool
      unused = is_unused (element_profile profile) tag

      abbrev few : ℕ → Bool
      few k = few_by (rules_of tag) k (at k)

      -- 9 for any reason, of an element that must be absent, and for the other reasons
      abbrev nine : Verdict
      nine = first_broken (each TooMany 1 layout.count (λ (k : ℕ). few k && absent_if (unused k) (at k)))

      abbrev unwanted : Verdict
      unwanted = unused_verdict unused there layout.count

      abbrev many : Verdict
      many = first_broken (each TooMany 1 layout.count few)

      -- a plain segment
      pub decide_plain : length (rules_of tag).elements ≡ 0 → Holds ≡ whole
      decide_plain e = sym (ap first_broken (ruled_none profile tag view e))

      abbrev eight_ten : Verdict
      eight_ten = elements_verdict (rules_of tag) at (length (rules_of tag).elements)

      abbrev notes : Verdict
      notes = first_broken (note_checks (rules_of tag).notes there)

      -- an element is as absent by its components as it is by the layout
      unwanted_is : first_broken (each TooMany 1 layout.count (λ (k : ℕ). absent_if (unused k) (at k))) ≡ unwanted
      unwanted_is =
          ap first_broken
          (each_same TooMany 1 layout.count (λ (k : ℕ). absent_if (unused k) (at k)) (λ (k : ℕ). not (unused k && there k))
          (λ k l u. ap (λ (t : Bool). not (unused k && t)) (at_present s starts layout component k)))

      -- such an element decides over the other reasons for 9
      nine_unwanted : (n : Reason) (e : ℕ) → broken n e ≡ unwanted → nine ≡ broken n e
      nine_unwanted n e q =
          let d = unwanted_is ∙ sym q in
          let f = each_decides TooMany 1 layout.count (λ (k : ℕ). absent_if (unused k) (at k)) n e d in
          each_under TooMany 1 layout.count few (λ (k : ℕ). absent_if (unused k) (at k)) n e d
          (λ j l u. few_so_far profile tag e (unwanted_so (unused e) (present (at e)) f.1) j (at j) u)
        where
          unwanted_so : (a b : Bool) → not (a && b) ≡ false → T a
          unwanted_so true b x = tt
          unwanted_so false b x = absurd (true≢false x)

      -- where there is none, those decide
      nine_many : Holds ≡ unwanted → nine ≡ many
      nine_many q = each_silent TooMany 1 layout.count few (λ (k : ℕ). absent_if (unused k) (at k)) (unwanted_is ∙ sym q)

      module _ (ruled : length (rules_of tag).elements ≡ 0 → ⊥) where
        grouped : whole ≡ and_then nine (and_then eight_ten notes)
        grouped = ap first_broken (ruled_by profile tag view ruled) ∙ checks_found (rules_of tag) unused

        -- 9 by the profile, 8 and 10, then 11
        early_notes : whole ≡ and_then (early_by profile tag there at layout.count) notes
        early_notes = by unwanted refl
          where
            by : (u : Verdict) → unwanted ≡ u → whole ≡ and_then (early_by profile tag there at layout.count) notes
            by (Err f) q =
                grouped ∙ ap (λ (v : Verdict). and_then v (and_then eight_ten notes)) (nine_unwanted f.reason f.element (sym q))
                ∙ ap (λ (v : Verdict). and_then v notes) (unwanted_decides s starts layout component tag profile there f.reason f.element (sym q))
            by Holds q =
                grouped ∙ ap (λ (v : Verdict). and_then v (and_then eight_ten notes)) (nine_many (sym q)) ∙ sym (then_assoc many eight_ten notes)
                ∙ ap (λ (v : Verdict). and_then v notes)
                (sym (early_is s starts layout component tag) ∙ others_decide s starts layout component tag profile there (sym q))

        -- 9, 8 or 10 decides; where all three are silent, 11 does
        pub decide_early : (n : Reason) (e : ℕ) → broken n e ≡ early_by profile tag there at layout.count → broken n e ≡ whole
        decide_early n e q = sym (early_notes ∙ ap (λ (v : Verdict). and_then v notes) (sym q))

        pub decide_notes : Holds ≡ early_by profile tag there at layout.count → notes ≡ whole
        decide_notes q = sym (early_notes ∙ ap (λ (v : Verdict). and_then v notes) (sym q))
