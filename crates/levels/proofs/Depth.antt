-- No level lies deeper than 4: each permitted pair raises the rank of the code, and a level lies no deeper than its code's rank.
-- Assumes nothing.
use Prim.Native.Nat.{ℕ, zero, suc, ◌≤◌, ◌<◌}
use mathlib.Core.Path.{◌≡◌, refl, sym, subst}
use mathlib.Core.Bool.{Bool, true, false, cond, ◌&&◌, ◌||◌}
use mathlib.Core.List.{List, [], ◌∷◌}
use native.Mathlib.Omega.{arith}
use lib.Dec.{T, eqb, eqb→eq, lit<}
use lib.ListN.{length}
use Rattle.text.specs.Bytes.{any}
use Rattle.text.proofs.Bools.{first_of, second_of}
use Rattle.elements.specs.Checks.{Keeps}
use Rattle.levels.specs.Profile.{LevelProfile, level_profile, code_of, may_hang}
use Rattle.rows.specs.declared.profile.ProfileName.{ProfileName}
use Rattle.rows.specs.declared.profile.ProfileName.TheVariants.{Report, Reply}
use Rattle.levels.specs.Levels.{Claim, Level, called, level_at, level_of, levels_of}
use Rattle.levels.specs.Rules.{level_checks}
use Rattle.levels.specs.internal.Everyone.{Everyone}
use Rattle.levels.proofs.CalledLevel.{everyone_so, level_everyone, level_nobody}
use Rattle.levels.proofs.LevelTests.{keeps_passes}

-- every HL keeps its tests after those before it; each with its segment's number, latest first
abbrev pub AllKept : LevelProfile → List (ℕ × Claim) → Type 0
AllKept profile [] = Unit {0}
AllKept profile (h ∷ hs) = Keeps (level_checks profile (levels_of profile hs) h.1) × AllKept profile hs

-- how deep a code may lie
abbrev rank : ℕ → ℕ
rank zero = 0
rank (suc zero) = 1
rank (suc (suc zero)) = 2
rank (suc (suc (suc zero))) = 3
rank (suc (suc (suc (suc n)))) = 4

-- no rank is higher than 4
rank_at_most_4 : (n : ℕ) → rank n ≤ 4
rank_at_most_4 zero = omega arith
rank_at_most_4 (suc zero) = omega arith
rank_at_most_4 (suc (suc zero)) = omega arith
rank_at_most_4 (suc (suc (suc zero))) = omega arith
rank_at_most_4 (suc (suc (suc (suc n)))) = omega arith

-- a known code has a rank of 1 at least
rank_of_code : (n : ℕ) → 1 ≤ n → 1 ≤ rank n
rank_of_code zero h = absurd (omega arith)
rank_of_code (suc zero) h = omega arith
rank_of_code (suc (suc zero)) h = omega arith
rank_of_code (suc (suc (suc zero))) h = omega arith
rank_of_code (suc (suc (suc (suc n)))) h = omega arith

-- each pair of the list raises the rank
abbrev Raising : List (ℕ × ℕ) → Type 0
Raising [] = Unit {0}
Raising (p ∷ ps) = (rank p.0 < rank p.1) × Raising ps

-- so does a pair that is found in it
among_raising : (parent child : ℕ) (ps : List (ℕ × ℕ)) → Raising ps → T (any (λ (p : ℕ × ℕ). eqb p.0 parent && eqb p.1 child) ps)
    → rank parent < rank child
among_raising parent child [] r t = absurd t
among_raising parent child (p ∷ ps) r t = by_value (eqb p.0 parent && eqb p.1 child) refl t (among_raising parent child ps r.1)
  where
    by_value : (b : Bool) → eqb p.0 parent && eqb p.1 child ≡ b
        → T (b || any (λ (q : ℕ × ℕ). eqb q.0 parent && eqb q.1 child) ps)
        → (T (any (λ (q : ℕ × ℕ). eqb q.0 parent && eqb q.1 child) ps) → rank parent < rank child) → rank parent < rank child
    by_value true e u later =
        let here : T (eqb p.0 parent && eqb p.1 child) = subst T (sym e) tt in
        let same-parent = eqb→eq p.0 parent (first_of (eqb p.0 parent) (eqb p.1 child) here) in
        let same-child = eqb→eq p.1 child (second_of (eqb p.0 parent) (eqb p.1 child) here) in
        rw (← same-parent, ← same-child) r.0
    by_value false e u later = later u

-- so does every permitted pair of either profile
pairs_raise : (name : ProfileName) → Raising (level_profile name).pairs
pairs_raise Report = (lit< tt, (lit< tt, (lit< tt, (lit< tt, (lit< tt, (lit< tt, tt))))))
pairs_raise Reply = tt

-- a level lies no deeper than its code's rank
abbrev Shallow : Level → Type 0
Shallow l = l.depth ≤ rank l.code

module _ (name : ProfileName) where
  abbrev profile : LevelProfile
  profile = level_profile name

  -- a permitted pair raises the rank
  pair_raises : (parent child : ℕ) → T (may_hang profile parent child) → rank parent < rank child
  unfolding may_hang
  pair_raises parent child t = among_raising parent child profile.pairs (pairs_raise name) t

  -- a level that keeps its tests is so, where those before it are
  new_shallow : (segment : ℕ) (c : Claim) (ls : List Level) → Keeps (level_checks profile ls c) → Everyone Shallow ls
      → Shallow (level_of profile segment c ls)
  new_shallow segment c ls k a =
      let p = keeps_passes profile ls c k in
      by_value (eqb (length c.parent) 0) p.known p.pair
    where
      own : ℕ
      own = code_of profile c.code

      by_value : (absent : Bool) → 1 ≤ own
          → ((T absent → ⊥) → T (may_hang profile (level_at (cond absent 0 (called c.parent ls)) ls).code own))
          → suc (level_at (cond absent 0 (called c.parent ls)) ls).depth ≤ rank own
      by_value true known pair = rw (level_nobody ls) (rank_of_code own known)
      by_value false known pair =
          omega (
            arith,
            level_everyone Shallow (omega arith) (called c.parent ls) ls a,
            pair_raises (level_at (called c.parent ls) ls).code own (pair (λ t. t)),
          )

  -- so are all levels that keep their tests
  all_shallow : (hs : List (ℕ × Claim)) → AllKept profile hs → Everyone Shallow (levels_of profile hs)
  all_shallow [] e = tt
  all_shallow (h ∷ hs) e =
      let below = all_shallow hs e.1 in
      (new_shallow h.0 h.1 (levels_of profile hs) e.0 below, below)

  -- no level has the depth 0
  all_deep : (hs : List (ℕ × Claim)) → Everyone (λ l. 1 ≤ l.depth) (levels_of profile hs)
  all_deep [] = tt
  all_deep (h ∷ hs) = (omega arith, all_deep hs)

-- every level has a depth of 1 to 4
abbrev pub Within4 : Level → Type 0
Within4 l = (1 ≤ l.depth) × (l.depth ≤ 4)

-- where every HL keeps its tests
pub depth_at_most_4 : (name : ProfileName) (hs : List (ℕ × Claim)) → AllKept (level_profile name) hs → Everyone Within4 (levels_of (level_profile name) hs)
depth_at_most_4 name hs e =
    everyone_so (λ l. 1 ≤ l.depth) Shallow Within4 (λ l d h. (d, omega (arith, rank_at_most_4 l.code))) (levels_of (level_profile name) hs)
    (all_deep name hs) (all_shallow name hs e)
