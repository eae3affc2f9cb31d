-- The answer for an HL, by the first test that fails.
-- Assumes nothing.
use Prim.Native.Nat.{ℕ, suc}
use mathlib.Core.Path.{◌≡◌}
use mathlib.Core.Bool.{true, false}
use mathlib.Core.List.{List}
use native.Mathlib.Omega.{arith}
use lib.Dec.{leb, eqb}
use lib.ListN.{length}
use borrow.Author.Tests.{eq-eqb, ne_eqb, le-leb}
use Rattle.text.specs.Bytes.{bytes, same}
use Rattle.elements.specs.Checks.{Verdict, first_broken}
use Rattle.levels.specs.Profile.{LevelProfile, code_of}
use Rattle.levels.specs.Levels.{Claim, Level, called, level_at, level_of}
use Rattle.levels.specs.Rules.{root_checks, child_checks, level_checks}
use Rattle.levels.specs.internal.Answers.{breaks, judged_by, judged, entitled, judged_root, judged_child, as_parent}
use Rattle.levels.specs.declared.judging.Entitled.{Entitled}
use Rattle.levels.proofs.CalledLevel.{level_nobody}
use Rattle.elements.specs.declared.verdict.Reason.TheVariants.{RepeatedName, UnknownParent}

-- an answer is that of its verdict and of what it makes of the level
same_answer : {v w : Verdict} {d e : Entitled} → v ≡ w → d ≡ e → judged_by v d ≡ judged_by w e
same_answer p q = λ i. judged_by (p i) (q i)

module _ (profile : LevelProfile) (ls : List Level) (c : Claim) where
  -- 12
  pub judged_used : (n : ℕ) → n ≡ called c.id ls → (n ≡ 0 → ⊥) → breaks RepeatedName 1 ≡ judged profile ls c
  unfolding judged
  judged_used n e h = rw (← e, ne_eqb n 0 h)

  module _ (fresh : called c.id ls ≡ 0) where
    -- without a parent
    pub judged_root_lem : length c.parent ≡ 0 → judged_root profile c.code c.mark ≡ judged profile ls c
    unfolding judged judged_root
    judged_root_lem none =
        let own = code_of profile c.code in
        let v = first_broken (root_checks profile own c.mark) in
        let without : eqb (length c.parent) 0 ≡ true = eq-eqb (length c.parent) 0 none in
        let verdict : v ≡ first_broken (level_checks profile ls c) = rw (fresh, without) in
        let level : record { parent = 0; depth = 1; code = own } ≡ entitled (level_of profile 0 c ls) = rw (without, level_nobody ls) in
        same_answer verdict level

    module _ (above : ℕ) (a : above ≡ called c.parent ls) (some : length c.parent ≡ 0 → ⊥) where
      -- 13
      pub judged_nobody : above ≡ 0 → breaks UnknownParent 2 ≡ judged profile ls c
      unfolding judged
      judged_nobody z = rw (fresh, ne_eqb (length c.parent) 0 some, ← a, z)

      -- under a parent
      pub judged_child_lem : (above ≡ 0 → ⊥) → (l : Level) → l ≡ level_at above ls
          → judged_child profile (as_parent above l) c.code c.mark ≡ judged profile ls c
      unfolding judged judged_child
      judged_child_lem named l m =
          let own = code_of profile c.code in
          let v = first_broken (child_checks profile l.code (same l.mark (bytes "0")) own c.mark) in
          let known : leb 1 above ≡ true = le-leb 1 above (omega arith) in
          let with-one : eqb (length c.parent) 0 ≡ false = ne_eqb (length c.parent) 0 some in
          let verdict : v ≡ first_broken (level_checks profile ls c) = rw (fresh, with-one, ← a, known, ← m) in
          let level : record { parent = above; depth = suc l.depth; code = own } ≡ entitled (level_of profile 0 c ls) = rw (with-one, ← a, ← m) in
          same_answer verdict level
