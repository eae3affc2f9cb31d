-- What the tests of an HL say, one by one: whether or not it names a parent, and then by the case.
-- Assumes nothing.
use Prim.Native.Nat.{◌≤◌}
use mathlib.Core.Path.{◌≡◌}
use mathlib.Core.Bool.{Bool, true, false, cond, not}
use mathlib.Core.List.{List}
use lib.Dec.{T, eqb→eq, leb, leb→le, le→leb}
use Rattle.text.specs.Bytes.{bytes, same}
use Rattle.text.proofs.Bools.{both, first_of, second_of, equal_eqb, or_else, else_or, cond_cases}
use Rattle.elements.specs.Checks.{Check, Keeps}
use Rattle.levels.specs.Profile.{LevelProfile, code_of, may_stand_alone, may_hang}
use Rattle.levels.specs.Levels.{Claim, Level, called, level_at, parent_of}
use Rattle.levels.specs.Rules.{absent, mark_fits, root_checks, child_checks, level_checks}

pub record Passes (profile : LevelProfile) (ls : List Level) (c : Claim) : Type 0 where
  pub new : called c.id ls ≡ 0
  pub known : 1 ≤ code_of profile c.code
  pub alone : T (absent c.parent) → T (may_stand_alone profile (code_of profile c.code))
  pub named : (T (absent c.parent) → ⊥) → 1 ≤ called c.parent ls
  pub pair : (T (absent c.parent) → ⊥) → T (may_hang profile (level_at (parent_of c ls) ls).code (code_of profile c.code))
  pub unshut : (T (absent c.parent) → ⊥) → T (not (same (level_at (parent_of c ls) ls).mark (bytes "0")))
  pub mark : T (mark_fits profile (code_of profile c.code) c.mark)

-- what is known in both cases, and what is known in each
either : {C : Type 0} (b : Bool) → (T b → C) → ((T b → ⊥) → C) → C
either true f g = f tt
either false f g = g (λ t. t)

if_so : {A : Type 0} (P : A → Type 0) (b : Bool) (x y : A) → P (cond b x y) → T b → P x
if_so P true x y p t = p
if_so P false x y p t = absurd t

if_not : {A : Type 0} (P : A → Type 0) (b : Bool) (x y : A) → P (cond b x y) → (T b → ⊥) → P y
if_not P true x y p n = absurd (n tt)
if_not P false x y p n = p

module _ (profile : LevelProfile) (ls : List Level) (c : Claim) where
  -- the two groups of tests
  abbrev orphan : Bool
  orphan = absent c.parent

  abbrev root : List Check
  root = root_checks profile (code_of profile c.code) c.mark

  abbrev child : List Check
  child =
      child_checks profile (level_at (parent_of c ls) ls).code (same (level_at (parent_of c ls) ls).mark (bytes "0")) (code_of profile c.code) c.mark

  -- every test holds
  pub keeps_passes : Keeps (level_checks profile ls c) → Passes profile ls c
  keeps_passes (new, (named, group)) =
      let own = code_of profile c.code in
      let as-root : T orphan → Keeps root = if_so Keeps orphan root child group in
      let as-child : (T orphan → ⊥) → Keeps child = if_not Keeps orphan root child group in
      record {
        new = eqb→eq (called c.id ls) 0 new;
        known =
            leb→le 1 own (either orphan (λ t. first_of (leb 1 own) (may_stand_alone profile own) (as-root t).0) (λ n. (as-child n).0));
        alone = λ t. second_of (leb 1 own) (may_stand_alone profile own) (as-root t).0;
        named = λ n. leb→le 1 (called c.parent ls) (or_else orphan (leb 1 (called c.parent ls)) named n);
        pair = λ n. (as-child n).1.0;
        unshut = λ n. (as-child n).1.1.0;
        mark = either orphan (λ t. (as-root t).1.0) (λ n. (as-child n).1.1.1.0);
      }

  -- and back
  pub passes_keeps : Passes profile ls c → Keeps (level_checks profile ls c)
  passes_keeps p =
      let own = code_of profile c.code in
      let known = le→leb 1 own p.known in (
        equal_eqb (called c.id ls) 0 p.new,
        (
          else_or orphan (leb 1 (called c.parent ls)) (λ n. le→leb 1 (called c.parent ls) (p.named n)),
          cond_cases Keeps orphan root child (λ t. (both (leb 1 own) (may_stand_alone profile own) known (p.alone t), (p.mark, tt)))
              (λ n. (known, (p.pair n, (p.unshut n, (p.mark, tt))))),
        ),
      )
