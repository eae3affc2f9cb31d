-- No level of a reply hangs under another or is marked: HL02 and HL04 are absent, and each level has parent 0 and depth 1.
-- Assumes nothing.
use Prim.Native.Nat.{ℕ, ◌≤◌}
use mathlib.Core.Path.{◌≡◌, refl, ap, subst}
use mathlib.Core.Logic.{by_cases}
use mathlib.Core.Bool.{Bool, true, false, not, ◌&&◌}
use mathlib.Core.List.{List, [], ◌∷◌, ◌++◌}
use native.Mathlib.Omega.{arith}
use native.Mathlib.Decide.{dec_lt}
use lib.Dec.{T}
use lib.ListN.{length, get_or-eq_default}
use borrow.Author.Tests.{eqb-true}
use Rattle.text.specs.View.{Piece, View, empty, present, element_of, element_count}
use Rattle.text.proofs.Bools.{second_of}
use Rattle.rows.specs.Tags.{tag, tag_number}
use Rattle.rows.specs.declared.profile.ProfileName.TheVariants.{Reply}
use Rattle.elements.specs.Data.{rules_hl, element_profile}
use Rattle.elements.specs.Checks.{Keeps}
use Rattle.elements.specs.Rules.{few_by, absent_if, too_many_checks, missing_checks, unfit_checks, note_checks, present_at, ruled_checks}
use Rattle.elements.specs.declared.verdict.Reason.TheVariants.{TooMany}
use Rattle.levels.specs.Profile.{storage_reply}
use Rattle.levels.specs.Levels.{Claim, text_of, claim_of, Level, level_of}
use Rattle.levels.specs.Rules.{filled_from, filled}
use Rattle.levels.specs.internal.Everyone.{Everyone}
use Rattle.levels.proofs.CalledLevel.{level_nobody}
use Rattle.gate.specs.Profile.{profile_named}
use Rattle.gate.specs.Segments.{tag_in_of, is_hl, onto, levels_in}
use Rattle.gate.specs.Rules.{Kept, From}
use Rattle.gate.specs.Meets.{Meets}
use Rattle.gate.proofs.reading.Laws.{keeps_split, keeps_at}
use Rattle.gate.proofs.reading.ElementTexts.{unused_in, hl_rules}
use Rattle.gate.proofs.whole.AllRules.{meets_from}
use Rattle.gate.proofs.continuing.AddedSegments.{levels}
use Rattle.gate.proofs.continuing.LevelNames.{levels_hl, levels_other}

-- an element that is not present has no text
no_text : (p : Piece) → T (not (present p)) → text_of p ≡ []
no_text [] t = refl
no_text ([] ∷ []) t = refl
no_text ([] ∷ (c ∷ cs)) t = absurd t
no_text ((b ∷ bs) ∷ cs) t = absurd t

-- an element of an HL that must be absent has none
unused_text : (v : View) → Keeps (ruled_checks (element_profile Reply) (tag "HL") v) → (k : ℕ) → 1 ≤ k → unused_in Reply "HL" k ≡ true
    → text_of (element_of v k) ≡ []
unused_text v r k l u =
    let unused = unused_in Reply "HL" in
    let many = too_many_checks rules_hl unused v in
    let a = (keeps_split (many ++ missing_checks rules_hl v ++ unfit_checks rules_hl v) (note_checks rules_hl.notes (present_at v)) (rw (hl_rules Reply v) at r)).0 in
    let b = (keeps_split (many ++ missing_checks rules_hl v) (unfit_checks rules_hl v) a).0 in
    let c = (keeps_split many (missing_checks rules_hl v) b).0 in
    by_cases (dec_lt k (length v))
    (λ h.
    let few = few_by rules_hl k (element_of v k) in
    let t =
    keeps_at TooMany 1 (element_count v) (λ (k : ℕ). few_by rules_hl k (element_of v k) && absent_if (unused k) (element_of v k)) c k l (omega arith) in
    no_text (element_of v k) (rw u at (second_of few (absent_if (unused k) (element_of v k)) t)))
    (λ h. ap text_of (get_or-eq_default v empty {n = k} (omega arith)))

-- so HL02 and HL04 are absent
pub record Bare (c : Claim) : Type 0 where
  pub no_parent : c.parent ≡ []
  pub no_mark : c.mark ≡ []

pub hl_bare : (v : View) → is_hl v ≡ true → Keeps (ruled_checks (element_profile Reply) (tag_in_of v) v) → Bare (claim_of v)
unfolding tag_number
hl_bare v is r =
    let k = subst (λ (t : ℕ). Keeps (ruled_checks (element_profile Reply) t v)) (eqb-true (tag_in_of v) (tag "HL") is) r in
    record { no_parent = unused_text v k 2 (omega arith) refl; no_mark = unused_text v k 4 (omega arith) refl }

-- what is so of the level that it makes
pub record StandsAlone (l : Level) : Type 0 where
  pub parentless : l.parent ≡ 0
  pub on_top : l.depth ≡ 1
  pub unmarked : l.mark ≡ []

stands_alone : (segment : ℕ) (c : Claim) (ls : List Level) → Bare c → StandsAlone (level_of storage_reply segment c ls)
stands_alone segment c ls b =
    record { parentless = rw b.no_parent; on_top = rw (b.no_parent, level_nobody ls); unmarked = b.no_mark }

-- and of all levels, one after the other
all_alone : (h vs : List View) → Everyone StandsAlone (levels Reply h) → From (Kept (profile_named Reply)) h vs
    → Everyone StandsAlone (levels Reply (onto h vs))
all_alone h [] e f = e
all_alone h (v ∷ vs) e f = all_alone (v ∷ h) vs (by (is_hl v) refl) f.1
  where
    by : (b : Bool) → is_hl v ≡ b → Everyone StandsAlone (levels Reply (v ∷ h))
    by true is = rw (levels_hl Reply h v is) (stands_alone _ (claim_of v) (levels Reply h) (hl_bare v is f.0.elements), e)
    by false is = rw (levels_other Reply h v is) e

pub kept_alone : (vs : List View) → From (Kept (profile_named Reply)) [] vs → Everyone StandsAlone (levels Reply (onto [] vs))
unfolding levels_in
kept_alone vs f = all_alone [] vs tt f

-- the levels of a transaction that meets every rule of a reply
pub reply_stands_alone : (vs : List View) (rows : List ℕ) → Meets (profile_named Reply) vs rows
    → Everyone StandsAlone (levels_in (profile_named Reply) (onto [] vs))
reply_stands_alone vs rows m = kept_alone vs (meets_from (profile_named Reply) vs rows m).kept

-- where no level is marked none waits for a child
pub alone_filled : (ls : List Level) → Everyone StandsAlone ls → T (filled ls)
unfolding filled
alone_filled ls a = from ls a
  where
    from : (rest : List Level) → Everyone StandsAlone rest → T (filled_from ls rest)
    from [] a = tt
    from (l ∷ rest) a = rw a.0.unmarked (from rest a.1)
