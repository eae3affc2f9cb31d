-- What the tables that hold the levels tell: a level as a parent, and whether each level marked 1 has a child.
-- Assumes nothing.
use Prim.Native.Nat.{ℕ, suc, ◌+◌, ◌≤◌, min}
use mathlib.Core.Path.{◌≡◌, refl, ap, ◌∙◌}
use mathlib.Core.Bool.{Bool, true, false, not, cond, ◌&&◌, ◌||◌}
use mathlib.Core.Logic.{by_cases}
use mathlib.Core.List.{List, [], ◌∷◌}
use native.Mathlib.Omega.{arith}
use native.Mathlib.Decide.{dec_lt}
use lib.ListN.{length}
use borrow.Author.Tests.{eq-eqb, ne_eqb}
use Rattle.text.specs.Bytes.{Bytes, bytes, same}
use Rattle.text.proofs.Sames.{true_same}
use Rattle.levels.specs.Levels.{Level, level_at}
use Rattle.levels.specs.Rules.{filled_from, filled}
use Rattle.levels.specs.internal.Answers.{as_parent}
use Rattle.finding.specs.declared.notes.Asks.{Asks}
use Rattle.finding.specs.declared.notes.Asks.TheVariants.{Nothing, Shut, Owes}
use Rattle.finding.specs.internal.Entries.{level_entry, deepest}
use Rattle.finding.specs.internal.Notes.{asks_number, code_in, asks_numbered, asks_in, is_shut, is_owing}
use Rattle.finding.specs.internal.Answers.{parent_in, none_owes}
use Rattle.finding.specs.internal.TablesHold.{has_child, still_asks, Held, HeldAll, TablesHold}

-- what a mark asks is read back from its number
asks_back : (asks : Asks) → asks_numbered (asks_number asks) ≡ asks
asks_back Nothing = refl
asks_back Shut = refl
asks_back Owes = refl

-- a level is shut exactly if its mark is 0
shut_by : (zero one : Bool) → is_shut (cond zero Shut (cond one Owes Nothing)) ≡ zero
shut_by true one = refl
shut_by false true = refl
shut_by false false = refl

-- it owes no child exactly if its mark is not 1 or it has one
owes_by : (mark : Bytes) (child : Bool)
    → not (is_owing (cond (same mark (bytes "0")) Shut (cond (same mark (bytes "1") && not child) Owes Nothing))) ≡ not (same mark (bytes "1")) || child
owes_by mark child = by_mark (same mark (bytes "0")) refl
  where
    by_one : (one had : Bool) → not (is_owing (cond (one && not had) Owes Nothing)) ≡ not one || had
    by_one true true = refl
    by_one true false = refl
    by_one false had = refl

    by_mark : (zero : Bool) → same mark (bytes "0") ≡ zero
        → not (is_owing (cond zero Shut (cond (same mark (bytes "1") && not child) Owes Nothing))) ≡ not (same mark (bytes "1")) || child
    by_mark true e = rw (true_same mark (bytes "0") e)
    by_mark false e = by_one (same mark (bytes "1")) child

module _ (s : Bytes) (separator : ℕ) (segments levels : List ℕ) (m : ℕ) (all : List Level) where
  -- what a level's note asks is what its mark still asks
  held_asks : (l : Level) (ls : List Level) → Held s separator segments levels m all l ls
      → asks_in (level_entry levels (suc (length ls)) 3) ≡ still_asks all (suc (length ls)) l.mark
  held_asks l ls h = ap asks_numbered h.asks_is ∙ asks_back (still_asks all (suc (length ls)) l.mark)

  -- level n as a parent
  held_parent : (ls : List Level) → HeldAll s separator segments levels m all ls → (n : ℕ) → 1 ≤ n → n ≤ length ls
      → parent_in levels n ≡ as_parent n (level_at n ls)
  unfolding parent_in
  held_parent [] held n low high = absurd (omega arith)
  held_parent (l ∷ ls) held n low high =
      by_cases (dec_lt (length ls) n)
      (λ h.
      let e : n ≡ suc (length ls) = omega arith in
      let h = held.0 in
      let code : code_in (level_entry levels n 3) ≡ l.code = rw e h.code_is in
      let shut : is_shut (asks_in (level_entry levels n 3)) ≡ same l.mark (bytes "0") =
      rw (e, held_asks l ls h) (shut_by (same l.mark (bytes "0")) (same l.mark (bytes "1") && not (has_child (suc (length ls)) all))) in
      let below : min deepest (level_entry levels n 2) + 1 ≡ suc l.depth = rw e (omega (arith, h.depth_is)) in
      rw (eq-eqb n (suc (length ls)) e) (λ i. record { number = n; code = code i; shut = shut i; below = below i }))
      (λ h. rw (ne_eqb n (suc (length ls)) (λ e. omega arith)) (held_parent ls held.1 n low (omega arith)))

  -- whether each of the levels that is marked 1 has a child
  held_filled : (ls : List Level) → HeldAll s separator segments levels m all ls → none_owes levels (length ls) ≡ filled_from all ls
  held_filled [] held = refl
  held_filled (l ∷ ls) held = rw (held_asks l ls held.0, owes_by l.mark (has_child (suc (length ls)) all), held_filled ls held.1)

module _ {s : Bytes} {separator : ℕ} {segments levels lasts : List ℕ} {m : ℕ} {ls : List Level} (h : TablesHold s separator segments levels lasts m ls) where
  pub told_parent : (n : ℕ) → 1 ≤ n → n ≤ length ls → parent_in levels n ≡ as_parent n (level_at n ls)
  told_parent n low high = held_parent s separator segments levels m ls ls h.each n low high

  pub told_filled : none_owes levels (length ls) ≡ filled ls
  unfolding filled
  told_filled = held_filled s separator segments levels m ls ls h.each
