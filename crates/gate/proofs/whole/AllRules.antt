-- Condition 2 said at once over all segments is condition 2 as a reader meets it, each segment after those before it.
-- Assumes nothing.
use Prim.Native.Nat.{ℕ, suc, ◌<◌}
use mathlib.Core.Path.{◌≡◌, sym, ap, ◌∙◌}
use mathlib.Core.List.{List, [], ◌∷◌}
use native.Mathlib.Omega.{arith}
use lib.Dec.{T, eqb→eq}
use lib.ListN.{length}
use Rattle.text.specs.Bytes.{Bytes, value_of}
use Rattle.text.specs.View.{View, element_of}
use Rattle.text.proofs.Bools.{equal_eqb}
use Rattle.text.proofs.Sames.{same_equal, equal_same}
use Rattle.elements.specs.Checks.{Keeps}
use Rattle.elements.specs.Rules.{byte_checks, end_checks, ruled_checks}
use Rattle.levels.specs.Levels.{text_of, levels_of}
use Rattle.levels.specs.Rules.{filled}
use Rattle.gate.specs.Profile.{Profile}
use Rattle.gate.specs.Segments.{tag_in_of, onto, claims, levels_in, opening}
use Rattle.gate.specs.Rules.{closing_checks, Kept, From}
use Rattle.gate.specs.Meets.{Each, hls, first_of, last_from, Meets}
use Rattle.gate.proofs.reading.Laws.{MeetsFrom}
use Rattle.gate.proofs.whole.AllLevels.{divided, levels_meet, meet_kept, meet_filled, Leveled, from_kept, kept_from}
use Rattle.gate.proofs.whole.Closing.{Closes, word_closes, before, before_count, before_first, before_claims, Closed, from_closing, closing_from}

-- there are as many claims as HL segments
pub claims_count : (vs : List View) → length (claims (onto [] vs)) ≡ length (hls vs)
claims_count vs = omega (arith, (divided vs).count)

module _ (profile : Profile) where
  -- what segments keep, rule by rule
  record Parts (h vs : List View) : Type 0 where
    bytes : Each (λ v. Keeps (byte_checks v)) vs
    ends : Each (λ v. Keeps (end_checks v)) vs
    elements : Each (λ v. Keeps (ruled_checks profile.elements (tag_in_of v) v)) vs
    level : From (Leveled profile) h vs
    closing : From (Closed profile) h vs

  -- where each segment keeps its rules each rule is kept by all
  kept_parts : (h vs : List View) → From (Kept profile) h vs → Parts h vs
  kept_parts h [] f = record { bytes = tt; ends = tt; elements = tt; level = tt; closing = tt }
  kept_parts h (v ∷ vs) (k, f) =
      let i = kept_parts (v ∷ h) vs f in
      record {
        bytes = (k.bytes, i.bytes);
        ends = (k.ends, i.ends);
        elements = (k.elements, i.elements);
        level = (k.level, i.level);
        closing = (k.closing, i.closing);
      }

  -- and back
  parts_kept : (h vs : List View) → Parts h vs → From (Kept profile) h vs
  parts_kept h [] p = tt
  parts_kept h (v ∷ vs) p = (
    record {
      bytes = p.bytes.0;
      ends = p.ends.0;
      elements = p.elements.0;
      level = p.level.0;
      closing = p.closing.0;
    },
    parts_kept (v ∷ h) vs (record {
      bytes = p.bytes.1;
      ends = p.ends.1;
      elements = p.elements.1;
      level = p.level.1;
      closing = p.closing.1;
    }),
  )

  -- the closing rules over all segments, with the test of marks
  record ClosesWell (vs : List View) : Type 0 where
    count : value_of (text_of (element_of (last_from [] vs) 1)) ≡ length vs
    control : text_of (element_of (last_from [] vs) 2) ≡ text_of (element_of (first_of vs) 2)
    marks : T (filled (levels_of profile.levels (claims (onto [] vs))))

  module _ (vs : List View) (c : Closes vs) (long : 1 < length vs) where
    -- SE01 as a number
    abbrev counted : ℕ
    counted = value_of (text_of (element_of (last_from [] vs) 1))

    -- the control number of an ST or an SE
    abbrev control_of : View → Bytes
    control_of v = text_of (element_of v 2)

    -- the tests of the last segment after those before it say them
    keeps_ends : Keeps (closing_checks profile (before [] vs) (last_from [] vs)) → ClosesWell vs
    unfolding levels_in
    keeps_ends (count, (control, (marks, _))) = record {
      count = eqb→eq counted (suc (length (before [] vs))) count ∙ before_count vs long;
      control = same_equal (control_of (last_from [] vs)) (control_of (opening (before [] vs))) control ∙ ap control_of (before_first vs long);
      marks = rw (before_claims [] vs c) at marks;
    }

    -- and back
    ends_keeps : ClosesWell vs → Keeps (closing_checks profile (before [] vs) (last_from [] vs))
    unfolding levels_in
    ends_keeps e =
        let count = equal_eqb counted (suc (length (before [] vs))) (e.count ∙ sym (before_count vs long)) in
        let first = ap control_of (before_first vs long) in
        let control = equal_same (control_of (last_from [] vs)) (control_of (opening (before [] vs))) (e.control ∙ sym first) in
        (count, (control, (rw (before_claims [] vs c) e.marks, tt)))

  -- a transaction that meets every rule at once keeps them segment by segment
  pub meets_from : (vs : List View) (rows : List ℕ) → Meets profile vs rows → MeetsFrom profile vs rows
  meets_from vs rows m =
      let closes = word_closes vs rows m.word.word m.tags in
      let kept = meet_kept profile.levels (hls vs) (claims (onto [] vs)) (divided vs).tells (claims_count vs) m.levels in
      let marks = meet_filled profile.levels (hls vs) (claims (onto [] vs)) (divided vs).tells (claims_count vs) m.levels in
      let ends : ClosesWell vs = record { count = m.count; control = m.control; marks = marks } in
      record {
        word = m.word.word;
        admitted = m.word.admitted;
        tags = m.tags;
        kept = parts_kept [] vs (record {
          bytes = m.bytes;
          ends = m.ends;
          elements = m.elements;
          level = (kept_from profile [] vs kept).1;
          closing = closing_from profile [] vs closes.0 (ends_keeps vs closes.0 closes.1 ends);
        });
      }

  -- and back
  pub from_meets : (vs : List View) (rows : List ℕ) → MeetsFrom profile vs rows → Meets profile vs rows
  from_meets vs rows m =
      let closes = word_closes vs rows m.word m.tags in
      let parts = kept_parts [] vs m.kept in
      let ends = keeps_ends vs closes.0 closes.1 (from_closing profile [] vs closes.0 parts.closing) in
      record {
        word = record { word = m.word; admitted = m.admitted };
        tags = m.tags;
        bytes = parts.bytes;
        ends = parts.ends;
        elements = parts.elements;
        levels =
            levels_meet profile.levels (hls vs) (claims (onto [] vs)) (divided vs).tells (claims_count vs)
            (from_kept profile [] vs tt parts.level) ends.marks;
        count = ends.count;
        control = ends.control;
      }
