-- The search in the list of an HL01 finds the level that has it, where the tables hold the levels.
-- Assumes nothing.
use Rattle.std.specs.Prelude.{Some}
use Prim.Native.Nat.{ℕ, zero, suc, ◌+◌, ◌*◌, ◌%◌, ◌≤◌, ◌<◌, min}
use mathlib.Core.Path.{◌≡◌, refl, ap, ◌∙◌}
use mathlib.Core.Bool.{Bool, true, false, cond}
use mathlib.Core.List.{List, [], ◌∷◌}
use native.Mathlib.Omega.{arith}
use lib.Dec.{eqb}
use lib.ListN.{length, drop, get_or}
use borrow.Author.Tests.{eqb-true, eqb-false}
use Rattle.text.specs.Bytes.{Bytes, same}
use Rattle.text.specs.internal.Search.{Free}
use Rattle.text.proofs.Sames.{true_same}
use Rattle.levels.specs.Levels.{Level, called}
use Rattle.finding.specs.internal.Entries.{start_of, level_entry}
use Rattle.finding.specs.internal.Lists.{lists, place_from, place_of, last_in}
use Rattle.finding.specs.internal.Notes.{link_in}
use Rattle.finding.specs.internal.Answers.{starts_with, calls, sought_from, sought, level_of_number}
use Rattle.finding.specs.internal.TablesHold.{Held, HeldAll, TablesHold}
use Rattle.finding.proofs.FirstPiece.{starts_first}

-- an HL01 belongs to one of the lists
place_from_below : (n : ℕ) (id : Bytes) → n < lists → place_from n id < lists
place_from_below n [] h = h
place_from_below n (b ∷ id) h = place_from_below ((n * 37 + b) % lists) id (omega arith)

pub place_below : (id : Bytes) → place_of id < lists
unfolding place_of
place_below id = place_from_below 0 id (omega arith)

-- whichever of two numbers is taken, it is no more than the greater
either_within : (b : Bool) (m n : ℕ) → n ≤ m → cond b (suc m) n ≤ suc m
either_within true m n h = omega arith
either_within false m n h = omega arith

-- the last level of a list is one of the levels
pub last_within : (place : ℕ) (ls : List Level) → last_in place ls ≤ length ls
last_within place [] = omega arith
last_within place (l ∷ ls) = either_within (eqb (place_of l.id) place) (length ls) (last_in place ls) (last_within place ls)

-- a level's number, whichever of two it is
numbered_either : (b : Bool) (m n : ℕ) → cond b (Some (suc m)) (level_of_number n) ≡ level_of_number (cond b (suc m) n)
numbered_either true m n = refl
numbered_either false m n = refl

module _ (s : Bytes) (separator : ℕ) (segments levels : List ℕ) (id : Bytes) (free : Free separator id) where
  -- the search from the last level of its list on finds the level that the HL01 calls, with enough steps
  abbrev Finds : List Level → Type 0
  Finds ls = (k : ℕ) → last_in (place_of id) ls ≤ k → sought_from s separator segments levels id k (last_in (place_of id) ls) ≡ level_of_number (called id ls)

  module _ (l : Level) (ls : List Level) where
    -- the latest level is of that list: it has the HL01, or the search goes on before it
    finds_here : {m : ℕ} {all : List Level} → Held s separator segments levels m all l ls → place_of l.id ≡ place_of id → Finds ls
        → (k : ℕ) → suc (length ls) ≤ k → sought_from s separator segments levels id k (suc (length ls)) ≡ level_of_number (called id (l ∷ ls))
    finds_here h e f zero r = absurd (omega arith)
    finds_here h e f (suc k) r =
        let name : calls s separator segments levels (suc (length ls)) id ≡ same l.id id =
        ap (λ (n : ℕ). starts_with separator id (drop (start_of segments n + 3) s)) h.segment_is
        ∙ starts_first separator id (drop (start_of segments l.segment + 3) s) free ∙ ap (λ (p : Bytes). same p id) h.named in
        let link : min (link_in (level_entry levels (suc (length ls)) 3)) (length ls) ≡ last_in (place_of id) ls =
        ap (λ (n : ℕ). min n (length ls)) (h.link_is ∙ ap (λ (place : ℕ). last_in place ls) e) ∙ omega (arith, last_within (place_of id) ls) in
        rw (name, link) (ap (cond (same l.id id) (Some (suc (length ls)))) (f k (omega (arith, last_within (place_of id) ls))) ∙ numbered_either (same l.id id) (length ls) (called id ls))

    -- it is of another list: it has another HL01
    finds_past : (place_of l.id ≡ place_of id → ⊥) → Finds ls
        → (k : ℕ) → last_in (place_of id) ls ≤ k → sought_from s separator segments levels id k (last_in (place_of id) ls) ≡ level_of_number (called id (l ∷ ls))
    finds_past h f k r = by_value (same l.id id) refl
      where
        by_value : (b : Bool) → same l.id id ≡ b
            → sought_from s separator segments levels id k (last_in (place_of id) ls) ≡ level_of_number (cond b (suc (length ls)) (called id ls))
        by_value true e = absurd (h (ap place_of (true_same l.id id e)))
        by_value false e = f k r

    -- one level more
    finds_more : {m : ℕ} {all : List Level} → Held s separator segments levels m all l ls → Finds ls → Finds (l ∷ ls)
    finds_more h f = by_value (eqb (place_of l.id) (place_of id)) refl
      where
        by_value : (b : Bool) → eqb (place_of l.id) (place_of id) ≡ b
            → (k : ℕ) → cond b (suc (length ls)) (last_in (place_of id) ls) ≤ k
            → sought_from s separator segments levels id k (cond b (suc (length ls)) (last_in (place_of id) ls)) ≡ level_of_number (called id (l ∷ ls))
        by_value true e = finds_here h (eqb-true (place_of l.id) (place_of id) e) f
        by_value false e = finds_past (eqb-false (place_of l.id) (place_of id) e) f

  -- however many levels there are
  finds_all : (m : ℕ) (all ls : List Level) → HeldAll s separator segments levels m all ls → Finds ls
  finds_all m all [] h zero r = refl
  finds_all m all [] h (suc k) r = refl
  finds_all m all (l ∷ ls) h k r = finds_more l ls h.0 (finds_all m all ls h.1) k r

-- the level that is found in the list of an HL01, in which no separator stands, is the one that has it
pub sought_called : {s : Bytes} {separator : ℕ} {segments levels lasts : List ℕ} {m : ℕ} {ls : List Level}
    → TablesHold s separator segments levels lasts m ls → (id : Bytes) → Free separator id
    → sought s separator segments levels lasts (place_of id) id ≡ level_of_number (called id ls)
unfolding sought
sought_called {s} {separator} {segments} {levels} {lasts} {m} {ls} h id free =
    let place : place_of id % lists ≡ place_of id = omega (arith, place_below id) in
    let last : get_or lasts (place_of id % lists) 0 ≡ last_in (place_of id) ls =
    ap (λ (n : ℕ). get_or lasts n 0) place ∙ h.known (place_of id) (place_below id) in
    ap (λ (n : ℕ). sought_from s separator segments levels id n n) last
    ∙ finds_all s separator segments levels id free m ls ls h.each (last_in (place_of id) ls) (omega arith)
