-- What the level table says of a transaction that meets every rule: each level's parent is the level that its HL02 names, and none lies deeper
-- than 4.
-- Assumes nothing.
use Prim.Native.Nat.{ℕ, suc, ◌<◌, ◌≤◌}
use mathlib.Core.Path.{◌≡◌, ap, ◌∙◌}
use mathlib.Core.Logic.{by_cases}
use mathlib.Core.List.{List, [], ◌∷◌}
use native.Mathlib.Omega.{arith}
use native.Mathlib.Decide.{dec_lt}
use lib.ListN.{length}
use borrow.Author.Tests.{eq-eqb, ne_eqb}
use Rattle.text.specs.View.{View}
use Rattle.levels.specs.Profile.{LevelProfile, level_profile}
use Rattle.levels.specs.Levels.{Claim, Level, level_at, parent_of, levels_of}
use Rattle.levels.specs.internal.Everyone.{Everyone}
use Rattle.levels.proofs.CalledLevel.{levels_length, level_everyone}
use Rattle.levels.proofs.Depth.{Within4, depth_at_most_4}
use Rattle.rows.specs.declared.profile.ProfileName.{ProfileName}
use Rattle.gate.specs.Profile.{profile_named}
use Rattle.gate.specs.Segments.{onto, claims, levels_in}
use Rattle.gate.specs.Meets.{hls, hl_at, Meets}
use Rattle.gate.specs.Conditions.{LevelShown}
use Rattle.gate.proofs.whole.OneLevel.{Tells, Distinct, named_parent}
use Rattle.gate.proofs.whole.AllLevels.{divided, meet_kept}
use Rattle.gate.proofs.whole.AllRules.{claims_count}

-- the claims ks, latest first, are the first HL segments of cs; `before` are those before HL number j
module _ (profile : LevelProfile) (cs : List Claim) where
  record Before (ks : List (ℕ × Claim)) (j : ℕ) : Type 0 where
    before : List (ℕ × Claim)
    tells : Tells cs before
    count : length before ≡ j
    -- the parent of the level with number j + 1 is found among them
    parent_is : (level_at (suc j) (levels_of profile ks)).parent ≡ parent_of (hl_at cs j) (levels_of profile before)

  before_of : (ks : List (ℕ × Claim)) → Tells cs ks → (j : ℕ) → j < length ks → Before ks j
  before_of [] t j h = absurd (omega arith)
  before_of (k ∷ ks) t j h =
      let ls = levels_of profile ks in
      let long = levels_length profile ks in
      by_cases (dec_lt j (length ks))
      (λ l.
      let i = before_of ks t.1 j l in
      record {
        before = i.before;
        tells = i.tells;
        count = i.count;
        parent_is = rw (ne_eqb (suc j) (suc (length ls)) (λ e. omega arith)) i.parent_is;
      })
      (λ n.
      let here : length ks ≡ j = omega arith in
      record {
        before = ks;
        tells = t.1;
        count = here;
        parent_is = rw (eq-eqb (suc j) (suc (length ls)) (omega arith)) (ap (λ (c : Claim). parent_of c ls) (t.0 ∙ ap (hl_at cs) here));
      })

-- HL number j of a transaction that meets every rule
pub level_shown : (name : ProfileName) (vs : List View) (rows : List ℕ) → Meets (profile_named name) vs rows → (j : ℕ) → j < length (hls vs)
    → LevelShown (profile_named name) vs j
unfolding levels_in
level_shown name vs rows m j h =
    let profile = level_profile name in
    let cs = hls vs in
    let ks = claims (onto [] vs) in
    let count = claims_count vs in
    let b = before_of profile cs ks (divided vs).tells j (omega (arith, count)) in
    record {
      shallow = level_everyone (λ (l : Level). l.depth ≤ 4) (omega arith) (suc j) (levels_of profile ks)
          (shallow_all (levels_of profile ks) (depth_at_most_4 name ks (meet_kept profile cs ks (divided vs).tells count m.levels)));
      root = λ e. b.parent_is ∙ rw e;
      child = λ p.
          let u = m.levels.parented j h p in
          let before : Distinct cs (length b.before) = λ i k l q. m.levels.distinct i k l (omega (arith, b.count)) in (
            u.0,
            u.1,
            b.parent_is ∙ named_parent profile cs b.before b.tells before (hl_at cs j) u.0 (omega (arith, b.count, u.1.earlier)) p u.1.named,
          );
    }
  where
    shallow_all : (ls : List Level) → Everyone Within4 ls → Everyone (λ (l : Level). l.depth ≤ 4) ls
    shallow_all [] a = tt
    shallow_all (l ∷ ls) a = (a.0.1, shallow_all ls a.1)
