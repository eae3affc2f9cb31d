-- Every answer is one of the list: an acceptance, or a refusal numbered 1 to 17, of a reply 24 too.
-- Assumes nothing.
use Prim.Native.Nat.{ℕ, ◌≤◌}
use mathlib.Core.Path.{◌≡◌, refl, ap}
use mathlib.Core.Logic.{◌⊎◌, ⊎_elim, inl, inr}
use mathlib.Core.Bool.{Bool, true, false, cond}
use mathlib.Core.List.{List, [], ◌++◌}
use native.Mathlib.Omega.{arith}
use Rattle.std.proofs.Common.{Ok, Err}
use Rattle.text.specs.Bytes.{Bytes, bytes, same}
use Rattle.text.specs.View.{View, view_of}
use Rattle.rows.specs.declared.profile.ProfileName.{ProfileName}
use Rattle.rows.specs.declared.profile.ProfileName.TheVariants.{Report, Reply}
use Rattle.elements.specs.Rules.{ruled_checks}
use Rattle.elements.specs.Reasons.{number_of}
use Rattle.elements.specs.declared.verdict.Reason.{Reason}
use Rattle.levels.specs.Profile.{code_of}
use Rattle.levels.specs.Levels.{claim_of, Level, level_at, parent_of}
use Rattle.levels.specs.Rules.{level_checks, absent, root_checks, child_checks}
use Rattle.gate.specs.Profile.{Profile, profile_named}
use Rattle.gate.specs.Segments.{is_hl, is_se, levels_in, tag_in_of, seen, onto}
use Rattle.gate.specs.Answers.{Answer, RowNotInProfile, Listed}
use Rattle.gate.specs.Rules.{as_rules, hl_checks, se_checks, closing_checks, Admitted, row_rules, late, rules, FirstBroken}
use Rattle.gate.specs.Records.{Tables}
use Rattle.gate.specs.Reads.{Reads}
use Rattle.gate.specs.declared.how.How.{How}
use Rattle.gate.proofs.reading.Blaming.{AllSay, both, either, list_says, early_says, ruled_says, rules_say, refusal_says}

-- what the list says of a refusal's number, whatever its element
abbrev Numbered : ProfileName → ℕ → ℕ → Type 0
Numbered name n e = (1 ≤ n) × ((n ≤ 17) ⊎ RowNotInProfile name n)

tested : (name : ProfileName) (n e : ℕ) → 1 ≤ n → n ≤ 17 → Numbered name n e
tested name n e l h = (l, inl h)

-- a report admits every row
not_admitted : (name : ProfileName) (r : ℕ) → (Admitted (profile_named name) r → ⊥) → name ≡ Reply
not_admitted Report r never = absurd (never tt)
not_admitted Reply r never = refl

module _ (name : ProfileName) (w : List ℕ) (h : List View) (v : View) where
  abbrev profile : Profile
  profile = profile_named name

  abbrev Tells : (n e : ℕ) → Type 0
  Tells = Numbered name

  -- 14 and 15 of a level
  levels_say : (orphan : Bool) (code : ℕ) (mark : Bytes) (parent : ℕ) (shut : Bool)
      → AllSay Tells (cond orphan (root_checks profile.levels code mark) (child_checks profile.levels parent shut code mark))
  levels_say true code mark parent shut = (inl (tested name 14 3 (omega arith) (omega arith)), (inl (tested name 15 4 (omega arith) (omega arith)), tt))
  levels_say false code mark parent shut = (
    inl (tested name 14 3 (omega arith) (omega arith)),
    (
      inl (tested name 14 2 (omega arith) (omega arith)),
      (inl (tested name 15 2 (omega arith) (omega arith)), (inl (tested name 15 4 (omega arith) (omega arith)), tt)),
    ),
  )

  -- the level that HL02 names
  abbrev parent : Level
  parent = level_at (parent_of (claim_of v) (levels_in profile h)) (levels_in profile h)

  late_says : AllSay Tells (late profile h v)
  unfolding hl_checks se_checks
  late_says =
      both Tells (ruled_checks profile.elements (tag_in_of v) v ++ hl_checks profile h v) (se_checks profile h v)
      (both Tells (ruled_checks profile.elements (tag_in_of v) v) (hl_checks profile h v)
      (ruled_says Tells (λ n e l u. tested name n e (omega arith) (omega arith)) profile.elements (tag_in_of v) v)
      (either Tells (is_hl v) (level_checks profile.levels (levels_in profile h) (claim_of v)) (λ is. (
        inl (tested name 12 1 (omega arith) (omega arith)),
        (
          inl (tested name 13 2 (omega arith) (omega arith)),
          levels_say (absent (claim_of v).parent) (code_of profile.levels (claim_of v).code) (claim_of v).mark parent.code (same parent.mark (bytes "0")),
        ),
      ))))
      (either Tells (is_se v) (closing_checks profile h v) (λ is. (
        inl (tested name 16 1 (omega arith) (omega arith)),
        (inl (tested name 16 2 (omega arith) (omega arith)), (inl (tested name 15 0 (omega arith) (omega arith)), tt)),
      )))

  row_says : (n : Reason) (e : ℕ) → FirstBroken (row_rules profile w v ++ as_rules (late profile h v)) n e → Numbered name (number_of n) e
  row_says n e (inl f) = rw f.1 (tested name 7 e (omega arith) (omega arith))
  row_says n e (inr (x, inl f)) =
      (omega (arith, ap number_of f.1), inr (record { is = ap number_of f.1; reply = not_admitted name x.0 (λ a. f.0 (x.0, x.1, a)) }))
  row_says n e (inr (x, inr f)) = list_says Tells (late profile h v) n e late_says f.1

  broken_says : (n : Reason) (e : ℕ) → FirstBroken (rules profile w h v) n e → Numbered name (number_of n) e
  broken_says n e f =
      rules_say Tells profile w h v n e (early_says Tells (λ n e l u. tested name n e (omega arith) (omega arith)) v) (row_says n e) f

-- every answer that the promise allows is one of the list
pub listed : (how : How) (s : Bytes) (before : Tables) (r : Answer) (after : Tables) → Reads how s before r after → Listed how.profile r
listed how s before (Ok a) after x = tt
listed how s before (Err r) after x =
    let name = how.profile in
    refusal_says (Numbered name) how s before (record {
      unfit = tested name 1 0 (omega arith) (omega arith);
      too_long = tested name 2 0 (omega arith) (omega arith);
      cut = λ n e c. ⊎_elim (λ z. tested name n e (omega (arith, z)) (omega (arith, z))) (λ z. tested name n e (omega (arith, z)) (omega (arith, z))) c;
      broken = λ gs rows end rest g n e p f. broken_says name rows (onto [] (seen how gs)) (view_of how.separators g) n e f;
      no_room = tested name 17 0 (omega arith) (omega arith);
    }) r.reason r.segment r.byte r.element after x
