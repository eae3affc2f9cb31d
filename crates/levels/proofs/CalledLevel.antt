-- The levels of a list: which number an HL01 calls, and the level with a number.
-- Assumes nothing.
use Prim.Native.Nat.{ℕ, suc, ◌≤◌}
use mathlib.Core.Path.{◌≡◌, refl, ap}
use mathlib.Core.Bool.{Bool, true, false, cond}
use mathlib.Core.List.{List, [], ◌∷◌}
use native.Mathlib.Omega.{arith}
use lib.Dec.{eqb}
use lib.ListN.{length}
use borrow.Author.Tests.{ne_eqb}
use Rattle.text.specs.Bytes.{Bytes, same}
use Rattle.levels.specs.Profile.{LevelProfile}
use Rattle.levels.specs.Levels.{Claim, Level, nobody, called, level_at, parent_of, levels_of}
use Rattle.levels.specs.internal.Everyone.{Everyone}

-- what follows from two facts that hold of every level holds of every level
pub everyone_so : (P Q R : Level → Type 0) → ((l : Level) → P l → Q l → R l) → (ls : List Level) → Everyone P ls → Everyone Q ls → Everyone R ls
everyone_so P Q R f [] a b = tt
everyone_so P Q R f (l ∷ ls) a b = (f l a.0 b.0, everyone_so P Q R f ls a.1 b.1)

-- the number is one of the list's, or 0
pub called_below : (id : Bytes) (ls : List Level) → called id ls ≤ length ls
called_below id [] = omega arith
called_below id (l ∷ ls) = by_value (same l.id id) (called_below id ls)
  where
    by_value : (b : Bool) → called id ls ≤ length ls → cond b (suc (length ls)) (called id ls) ≤ suc (length ls)
    by_value true h = omega arith
    by_value false h = omega arith

-- so is a parent's
pub parent_below : (c : Claim) (ls : List Level) → parent_of c ls ≤ length ls
parent_below c ls = by_value (eqb (length c.parent) 0)
  where
    by_value : (b : Bool) → cond b 0 (called c.parent ls) ≤ length ls
    by_value true = omega arith
    by_value false = called_below c.parent ls

-- the level with a number is one of the list, or nobody
pub level_everyone : (P : Level → Type 0) → P nobody → (n : ℕ) (ls : List Level) → Everyone P ls → P (level_at n ls)
level_everyone P p n [] a = p
level_everyone P p n (l ∷ ls) a = by_value (eqb n (suc (length ls))) (level_everyone P p n ls a.1)
  where
    by_value : (b : Bool) → P (level_at n ls) → P (cond b l (level_at n ls))
    by_value true h = a.0
    by_value false h = h

-- number 0 is nobody's
pub level_nobody : (ls : List Level) → level_at 0 ls ≡ nobody
level_nobody [] = refl
level_nobody (l ∷ ls) = rw (ne_eqb 0 (suc (length ls)) (λ e. omega arith)) (level_nobody ls)

-- there is one level for each HL
pub levels_length : (profile : LevelProfile) (hs : List (ℕ × Claim)) → length (levels_of profile hs) ≡ length hs
levels_length profile [] = refl
levels_length profile (h ∷ hs) = ap suc (levels_length profile hs)
