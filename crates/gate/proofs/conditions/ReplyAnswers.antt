-- What a reply is refused for: never 13 or 15, since it names no parent and has no mark, and 14 for its code alone.
-- Assumes nothing.
use Prim.Native.Nat.{ℕ, ◌≤◌}
use mathlib.Core.Path.{◌≡◌, refl}
use mathlib.Core.Logic.{⊎_elim, inl, inr}
use mathlib.Core.List.{List, [], ◌++◌, append_assoc}
use native.Mathlib.Omega.{arith}
use Rattle.text.specs.Bytes.{Bytes}
use Rattle.text.specs.View.{View, view_of}
use Rattle.text.specs.declared.lines.LineEnds.{LineEnds}
use Rattle.text.specs.declared.separators.Separators.{Separators}
use Rattle.rows.specs.declared.profile.ProfileName.TheVariants.{Reply}
use Rattle.elements.specs.Data.{element_profile}
use Rattle.elements.specs.Checks.{Check, Keeps}
use Rattle.elements.specs.Rules.{ruled_checks}
use Rattle.elements.specs.Reasons.{number_of}
use Rattle.elements.specs.declared.verdict.Reason.{Reason}
use Rattle.levels.specs.Profile.{storage_reply}
use Rattle.levels.specs.Levels.{Claim, claim_of, Level}
use Rattle.levels.specs.Rules.{level_checks}
use Rattle.levels.specs.internal.Everyone.{Everyone}
use Rattle.gate.specs.Profile.{Profile, profile_named}
use Rattle.gate.specs.Segments.{tag_in_of, is_hl, is_se, seen, onto}
use Rattle.gate.specs.Answers.{refused}
use Rattle.gate.specs.Rules.{as_rules, hl_checks, se_checks, closing_checks, row_rules, late, rules, FirstBroken}
use Rattle.gate.specs.Records.{Tables}
use Rattle.gate.specs.Reads.{Reads}
use Rattle.gate.proofs.reading.Laws.{as_rules_append}
use Rattle.gate.proofs.reading.Moved.{reading}
use Rattle.gate.proofs.reading.Blaming.{AllSay, either, first_says, list_says, early_says, ruled_says, rules_say, refusal_says}
use Rattle.gate.proofs.continuing.AddedSegments.{levels}
use Rattle.gate.proofs.conditions.ReplyLevels.{Bare, hl_bare, StandsAlone, kept_alone, alone_filled}

pub record OfReply (number element : ℕ) : Type 0 where
  pub no_parent : number ≡ 13 → ⊥
  pub no_mark : number ≡ 15 → ⊥
  pub code_alone : number ≡ 14 → element ≡ 3

-- every other number is given
below : (n e : ℕ) → n ≤ 12 → OfReply n e
below n e l = record { no_parent = λ z. omega arith; no_mark = λ z. omega arith; code_alone = λ z. absurd (omega arith) }

above : (n e : ℕ) → 16 ≤ n → OfReply n e
above n e l = record { no_parent = λ z. omega arith; no_mark = λ z. omega arith; code_alone = λ z. absurd (omega arith) }

unknown_code : OfReply 14 3
unknown_code = record { no_parent = λ z. omega arith; no_mark = λ z. omega arith; code_alone = λ z. refl }

-- 12 to 15 of an HL without HL02 and HL04
bare_says : (ls : List Level) (c : Claim) → Bare c → AllSay OfReply (level_checks storage_reply ls c)
bare_says ls c b = rw (b.no_parent, b.no_mark) (inl (below 12 1 (omega arith)), (inr tt, (inl unknown_code, (inr tt, tt))))

module _ (w : List ℕ) (h : List View) (v : View) (alone : Everyone StandsAlone (levels Reply h)) where
  abbrev profile : Profile
  profile = profile_named Reply

  abbrev ruled : List Check
  ruled = ruled_checks (element_profile Reply) (tag_in_of v) v

  hl_says : Keeps ruled → AllSay OfReply (hl_checks profile h v)
  unfolding hl_checks
  hl_says k = either OfReply (is_hl v) (level_checks storage_reply (levels Reply h) (claim_of v)) (λ is. bare_says (levels Reply h) (claim_of v) (hl_bare v is k))

  se_says : AllSay OfReply (se_checks profile h v)
  unfolding se_checks
  se_says =
      either OfReply (is_se v) (closing_checks profile h v)
      (λ is. (inl (above 16 1 (omega arith)), (inl (above 16 2 (omega arith)), (inr (alone_filled (levels Reply h) alone), tt))))

  late_says : (n : Reason) (e : ℕ) → FirstBroken (as_rules (late profile h v)) n e → OfReply (number_of n) e
  late_says n e f =
      let hl = hl_checks profile h v in
      let se = se_checks profile h v in
      first_says OfReply ruled (as_rules hl ++ as_rules se) n e (ruled_says OfReply (λ n e l u. below n e (omega arith)) (element_profile Reply) (tag_in_of v) v)
      (λ k. first_says OfReply hl (as_rules se) n e (hl_says k) (λ j. list_says OfReply se n e se_says))
      (rw (as_rules_append (ruled ++ hl) se, as_rules_append ruled hl, append_assoc) at f)

  row_says : (n : Reason) (e : ℕ) → FirstBroken (row_rules profile w v ++ as_rules (late profile h v)) n e → OfReply (number_of n) e
  row_says n e (inl f) = rw f.1 (below 7 e (omega arith))
  row_says n e (inr (x, inl f)) = rw f.1 (above 24 e (omega arith))
  row_says n e (inr (x, inr f)) = late_says n e f.1

  broken_says : (n : Reason) (e : ℕ) → FirstBroken (rules profile w h v) n e → OfReply (number_of n) e
  broken_says n e f = rules_say OfReply profile w h v n e (early_says OfReply (λ n e l u. below n e (omega arith)) v) (row_says n e) f

-- a refusal of a reply, by either choice of line ends
pub reply_answers : (q : Separators) (lines : LineEnds) (s : Bytes) (before : Tables) (n : Reason) (k b e : ℕ) (after : Tables)
    → Reads (reading Reply q lines) s before (refused n k b e) after → OfReply (number_of n) e
reply_answers q lines s before n k b e after x =
    let how = reading Reply q lines in
    refusal_says OfReply how s before (record {
      unfit = below 1 0 (omega arith);
      too_long = below 2 0 (omega arith);
      cut = λ n e c. ⊎_elim (λ z. below n e (omega (arith, z))) (λ z. below n e (omega (arith, z))) c;
      broken = λ gs rows end rest g n e p f.
          broken_says rows (onto [] (seen how gs)) (view_of q g) (kept_alone (seen how gs) p.kept) n e f;
      no_room = above 17 0 (omega arith);
    }) n k b e after x
