-- What an SE is compared with: its number as it was worked out, and the control number of the ST, found by the segment table.
-- Assumes nothing.
use Prim.Native.Nat.{ℕ, ◌≤◌, ◌<◌}
use mathlib.Core.Path.{◌≡◌, refl, sym, ap, subst, ◌∙◌}
use mathlib.Core.Bool.{Bool, not, ◌&&◌, ◌||◌}
use mathlib.Core.List.{List, [], ◌∷◌, ◌++◌, head-eq_of_cons-eq}
use native.Mathlib.Omega.{arith}
use lib.Dec.{T}
use lib.ListN.{length, take, get_or, length-append}
use lib.Seq.{take-append_seam}
use borrow.Author.Tests.{le-ltb}
use Rattle.text.specs.Bytes.{Bytes, between, every, value_of}
use Rattle.text.specs.Separators.{is_digit}
use Rattle.text.specs.View.{View, view_of, present, element_of}
use Rattle.text.specs.Cut.{Cut, Placed}
use Rattle.text.specs.declared.separators.Separators.{Separators}
use Rattle.text.proofs.Bools.{first_of, passes}
use Rattle.text.proofs.BinView.{elements_plain}
use Rattle.text.proofs.DocumentCut.{Splits, cut_splits}
use Rattle.rows.specs.Tags.{tag, tag_number}
use Rattle.rows.specs.Rows.{list842}
use Rattle.rows.specs.RowList.{tag_of, row_at}
use Rattle.rows.proofs.Viability.{viable_iff}
use Rattle.types.specs.Types.{number_of, fits}
use Rattle.elements.specs.Data.{value, rules_se, element_profile}
use Rattle.elements.specs.Checks.{Keeps}
use Rattle.elements.specs.Rules.{rule_of, headed, fits_simple, too_many_checks, missing_checks, unfit_checks, note_checks, checks_by, ruled_checks, present_at}
use Rattle.types.specs.declared.kind.Kind.TheVariants.{N0}
use Rattle.levels.specs.Widths.{segment_width}
use Rattle.levels.specs.Levels.{text_of}
use Rattle.rows.specs.declared.profile.ProfileName.{ProfileName}
use Rattle.gate.specs.Segments.{tag_in_of, seen, onto, opening}
use Rattle.gate.specs.Records.{Tables}
use Rattle.reading.specs.internal.Standing.{Standing}
use Rattle.reading.specs.internal.Judgements.{opening_control}
use Rattle.gate.specs.declared.how.How.{How}
use Rattle.gate.proofs.reading.Laws.{keeps_split, opening_onto, keeps_at}
use Rattle.gate.proofs.reading.ElementTexts.{other_tag, st_no_bin, ruled_simple, unused_in, se_rules, st_control}
use Rattle.reading.specs.declared.judging.State.{State}
use Rattle.elements.specs.declared.verdict.Reason.TheVariants.{Missing}

-- row 1 is ST's
tag_1 : tag_of 1 ≡ tag "ST"
unfolding tag_of row_at list842 tag_number
tag_1 = refl

-- the ST's control number, where a segment was passed
pub control_of_first : (how : How) (before : Tables) (s : Bytes) (segments levels lasts : List ℕ) (at : ℕ) (state : State)
    (gs : List Placed) (rows : List ℕ) → 0 < state.count → Standing how before s segments levels lasts at state gs rows
    → opening_control s how.separators.element segments ≡ text_of (element_of (opening (onto [] (seen how gs))) 2)
unfolding opening_control
control_of_first how before s segments levels lasts at state [] rows some st = absurd (omega (arith, st.count_is))
control_of_first how before s segments levels lasts at state (g ∷ gs) [] some st = absurd (omega (arith, st.rows_are))
control_of_first how before s segments levels lasts at state (g ∷ gs) (r ∷ rows) some st =
    let q = how.separators in
    let l = st.passed.leads in
    let w : s ≡ g.segment ++ q.terminator ∷ l.0 = subst (λ (c : Cut). Splits q s c) l.1 (cut_splits q s) in
    let long : get_or segments 1 0 ≡ length g.segment = ap (λ (t : List ℕ). get_or t 1 0) st.segments_are in
    let wide : segment_width ≤ length segments = rw st.segments_are (omega arith) in
    let inside : length g.segment ≤ length s = omega (arith, ap length w ∙ length-append g.segment (q.terminator ∷ l.0)) in
    let front : take (length g.segment) s ≡ g.segment = ap (take (length g.segment)) w ∙ take-append_seam g.segment (q.terminator ∷ l.0) in
    let first : r ≡ 1 = ((viable_iff r rows).0 st.passed.viable).0 in
    let st-tag : tag_in_of (view_of q g.segment) ≡ tag "ST" = sym (head-eq_of_cons-eq st.passed.tags) ∙ ap tag_of first ∙ tag_1 in
    let v = view_of q g.segment in
    let text = st_control how.profile q g.segment st.passed.kept.0.elements st-tag in
    let plain = elements_plain q.element g.segment (other_tag q g.segment (λ z. st_no_bin (sym st-tag ∙ z))) in
    let o : opening (onto [] (seen how (g ∷ gs))) ≡ v = opening_onto v [] (seen how gs) in
    rw (le-ltb (length segments) segment_width wide, long, le-ltb (length s) (length g.segment) inside, front, o, plain) (sym text)

-- SE01 is one to ten digits, so its number is worked out
first_there : (unused : ℕ → Bool) (v : View) → Keeps (checks_by rules_se unused v) → T (present (element_of v 1))
first_there unused v k =
    let a = (keeps_split (too_many_checks rules_se unused v ++ missing_checks rules_se v ++ unfit_checks rules_se v) (note_checks rules_se.notes (present_at v)) k).0 in
    let b = (keeps_split (too_many_checks rules_se unused v ++ missing_checks rules_se v) (unfit_checks rules_se v) a).0 in
    let c = (keeps_split (too_many_checks rules_se unused v) (missing_checks rules_se v) b).1 in
    let d =
    keeps_at Missing 1 2 (λ (k : ℕ). (not (rule_of rules_se k).must || present (element_of v k)) && headed (rule_of rules_se k).shape (element_of v k)) c 1 (omega arith)
    (omega arith) in
    first_of (present (element_of v 1)) (headed (rule_of rules_se 1).shape (element_of v 1)) d

fits_number : (s : Bytes) → T (fits N0 1 10 s) → number_of s ≡ value_of s
unfolding fits number_of
fits_number s t = rw (passes (between 1 10 (length s) && every is_digit s) t)

pub counted_number : (name : ProfileName) (q : Separators) (g : Bytes) → Keeps (ruled_checks (element_profile name) (tag_in_of (view_of q g)) (view_of q g))
    → tag_in_of (view_of q g) ≡ tag "SE" → number_of (text_of (element_of (view_of q g) 1)) ≡ value_of (text_of (element_of (view_of q g) 1))
counted_number name q g ruled e =
    let v = view_of q g in
    let k : Keeps (checks_by rules_se (unused_in name "SE") v) = rw (e, se_rules) at ruled in
    by (element_of v 1) (first_there (unused_in name "SE") v k) (ruled_simple rules_se (unused_in name "SE") v (value N0 1 10) 1 (omega arith) (omega arith) refl k)
  where
    by : (p : List Bytes) → T (present p) → T (not (present p) || fits_simple (value N0 1 10) p) → number_of (text_of p) ≡ value_of (text_of p)
    by [] t u = absurd t
    by ([] ∷ []) t u = absurd t
    by ((b ∷ s) ∷ []) t u = fits_number (b ∷ s) u
    by ([] ∷ (c ∷ cs)) t u = absurd u
    by ((b ∷ s) ∷ (c ∷ cs)) t u = absurd u
