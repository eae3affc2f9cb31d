-- An HL segment in the bytes: its HL01, by which it is found later, and that its level lies no deeper than 4.
-- Assumes nothing.
use Prim.Native.Nat.{ℕ, ◌≤◌, ◌<◌}
use mathlib.Core.Path.{◌≡◌, refl, sym, ap, ◌∙◌}
use mathlib.Core.Bool.{Bool, false, not, ◌&&◌, ◌||◌}
use mathlib.Core.List.{List, [], ◌∷◌, ◌++◌}
use native.Mathlib.Omega.{arith}
use lib.Dec.{T}
use lib.ListN.{length, take, drop, get_or, get_or-eq_default}
use lib.Seq.{take-append_seam}
use Rattle.text.specs.Bytes.{Bytes}
use Rattle.text.specs.Pieces.{pieces}
use Rattle.text.specs.Bin.{is_bin}
use Rattle.text.specs.View.{View, view_of, present, element_of}
use Rattle.text.specs.declared.separators.Separators.{Separators}
use Rattle.text.proofs.Bools.{first_of}
use Rattle.text.proofs.BinView.{view_plain, elements_plain}
use Rattle.text.specs.Separators.{Fitted}
use Rattle.rows.specs.Tags.{tag, tags, tag_number}
use Rattle.rows.proofs.TagList.{tag_of_number}
use Rattle.elements.specs.Data.{rules_hl, element_profile}
use Rattle.elements.specs.Checks.{Keeps}
use Rattle.elements.specs.Rules.{rule_of, headed, too_many_checks, missing_checks, unfit_checks, note_checks, checks_by, ruled_checks, present_at}
use Rattle.levels.specs.Levels.{Claim, claim_of}
use Rattle.levels.specs.internal.Everyone.{Everyone}
use Rattle.levels.proofs.Depth.{Within4, depth_at_most_4}
use Rattle.rows.specs.declared.profile.ProfileName.{ProfileName}
use Rattle.gate.specs.Profile.{profile_named}
use Rattle.gate.specs.Segments.{tag_in_of, onto, claims, levels_in}
use Rattle.gate.specs.Rules.{Kept, From}
use Rattle.gate.proofs.reading.Laws.{keeps_split, keeps_at}
use Rattle.gate.proofs.reading.ElementTexts.{element_piece, other_tag, hl_no_bin, tag_of_view, unused_in, hl_rules, hl_claim}
use Rattle.gate.proofs.whole.AllLevels.{Leveled, from_kept}
use Rattle.finding.specs.internal.TablesHold.{HlBytes}
use Rattle.elements.specs.declared.verdict.Reason.TheVariants.{Missing}

-- the third element of an HL is there
third_present : (unused : ℕ → Bool) (v : View) → Keeps (checks_by rules_hl unused v) → T (present (element_of v 3))
third_present unused v k =
    let a = (keeps_split (too_many_checks rules_hl unused v ++ missing_checks rules_hl v ++ unfit_checks rules_hl v) (note_checks rules_hl.notes (present_at v)) k).0 in
    let b = (keeps_split (too_many_checks rules_hl unused v ++ missing_checks rules_hl v) (unfit_checks rules_hl v) a).0 in
    let c = (keeps_split (too_many_checks rules_hl unused v) (missing_checks rules_hl v) b).1 in
    let d =
    keeps_at Missing 1 4 (λ (k : ℕ). (not (rule_of rules_hl k).must || present (element_of v k)) && headed (rule_of rules_hl k).shape (element_of v k)) c 3 (omega arith)
    (omega arith) in
    first_of (present (element_of v 3)) (headed (rule_of rules_hl 3).shape (element_of v 3)) d

-- so it has a tag and three elements at least
four_pieces : (q : Separators) (g : Bytes) → is_bin q.element g ≡ false → T (present (element_of (view_of q g) 3)) → 3 < length (pieces q.element g)
four_pieces q g n t =
    let absent : length (pieces q.element g) ≤ 3 → ⊥ = λ l.
    let e : element_of (view_of q g) 3 ≡ [] ∷ [] =
    ap (λ (v : View). element_of v 3) (view_plain q g n) ∙ element_piece q g 3 ∙ ap (pieces q.component) (get_or-eq_default (pieces q.element g) [] {n = 3} l) in
    rw e at t in
    omega (arith, absent)

-- the tag is HL, of two letters
hl_number : tag "HL" < 34
unfolding tag_number
hl_number = omega arith

hl_letters : length (get_or tags (tag "HL") []) ≡ 2
unfolding tag_number
hl_letters = refl

hl_tag_long : (t : Bytes) → tag_number t ≡ tag "HL" → length t ≡ 2
hl_tag_long t e =
    let h : tag_number t < 34 = rw e hl_number in
    let f : get_or tags (tag "HL") [] ≡ t = sym (ap (λ (k : ℕ). get_or tags k []) e) ∙ tag_of_number t h in
    sym (ap length f) ∙ hl_letters

-- the bytes of an HL segment tell its HL01
pub hl_written : (name : ProfileName) (q : Separators) → Fitted q → (s : Bytes) (at : ℕ) (g more : Bytes) → drop at s ≡ g ++ q.terminator ∷ more
    → Keeps (ruled_checks (element_profile name) (tag_in_of (view_of q g)) (view_of q g)) → tag_in_of (view_of q g) ≡ tag "HL"
    → HlBytes s q.element at (length g) (claim_of (view_of q g)).id
hl_written name q fit s at g more w k e =
    let seg : take (length g) (drop at s) ≡ g = ap (take (length g)) w ∙ take-append_seam g (q.terminator ∷ more) in
    let rules : Keeps (checks_by rules_hl (unused_in name "HL") (view_of q g)) = rw (e, hl_rules) at k in
    let n = other_tag q g (λ z. hl_no_bin (sym e ∙ z)) in
    let four = four_pieces q g n (third_present (unused_in name "HL") (view_of q g) rules) in
    let claim = hl_claim name q g k e in
    record {
      tag = rw seg (hl_tag_long (get_or (pieces q.element g) 0 []) (ap (λ (ps : List Bytes). tag_number (get_or ps 0 [])) (sym (elements_plain q.element g n)) ∙ sym (tag_of_view q fit g) ∙ e));
      some = rw seg (omega arith);
      id_is = rw seg (sym (ap (λ (c : Claim). c.id) claim));
    }

module _ (name : ProfileName) where
  -- each segment that keeps its rules keeps those of levels
  leveled : (h vs : List View) → From (Kept (profile_named name)) h vs → From (Leveled (profile_named name)) h vs
  leveled h [] f = tt
  leveled h (v ∷ vs) f = (f.0.level, leveled (v ∷ h) vs f.1)

  -- so every level of segments that keep their rules has a depth of 1 to 4
  pub depths : (vs : List View) → From (Kept (profile_named name)) [] vs → Everyone Within4 (levels_in (profile_named name) (onto [] vs))
  unfolding levels_in
  depths vs f = depth_at_most_4 name (claims (onto [] vs)) (from_kept (profile_named name) [] vs tt (leveled [] vs f))
