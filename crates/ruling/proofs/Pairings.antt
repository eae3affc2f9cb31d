-- The notes P, R and C, over the elements they name, and LIN's pairs one by one.
-- Assumes nothing.
use Prim.Native.Nat.{ℕ, zero, suc, ◌+◌, ◌*◌, ◌≤◌, ◌<◌}
use mathlib.Core.Path.{◌≡◌, refl, sym, ◌∙◌}
use mathlib.Core.Bool.{Bool, true, false, not, ◌&&◌, ◌||◌}
use mathlib.Core.List.{List, [], ◌∷◌}
use native.Mathlib.Omega.{arith}
use Rattle.text.proofs.Bools.{or_assoc, or_false}
use Rattle.std.specs.Prelude.{Err}
use Rattle.elements.specs.declared.verdict.Fault.{Fault}
use Rattle.elements.specs.Checks.{check, first_broken, Verdict, Holds, broken}
use Rattle.elements.specs.Data.{Note, Paired, Required, Conditional, pairs_from}
use Rattle.elements.specs.Rules.{note_holds, named_first, note_checks}
use Rattle.elements.specs.declared.verdict.Reason.TheVariants.{BrokenNote}

pair_holds : (a b : Bool) → a && b || not (a || b) ≡ a && (b && true) || not (a || (b || false))
pair_holds true true = refl
pair_holds true false = refl
pair_holds false true = refl
pair_holds false false = refl

condition_holds : (a b : Bool) → not (a && not b) ≡ not a || b && true
condition_holds true true = refl
condition_holds true false = refl
condition_holds false b = refl

either_holds : (a b : Bool) → a || b ≡ a || (b || false)
either_holds a b = simp or_false

some_holds : (a b c : Bool) → a || b || c ≡ a || (b || (c || false))
some_holds a b c = simp (or_assoc, or_false)

-- P of two: both or neither; C of two: not the first without the other; R of two and of three: at least one
module _ (there : ℕ → Bool) (a b : ℕ) {x y : Bool} (p : x ≡ there a) (q : y ≡ there b) where
  pub paired_two : x && y || not (x || y) ≡ note_holds there (Paired (a ∷ b ∷ []))
  paired_two = rw (p, q) (pair_holds (there a) (there b))

  pub conditional_two : not (x && not y) ≡ note_holds there (Conditional a (b ∷ []))
  conditional_two = rw (p, q) (condition_holds (there a) (there b))

  pub required_two : x || y ≡ note_holds there (Required (a ∷ b ∷ []))
  required_two = rw (p, q) (either_holds (there a) (there b))

  pub required_three : (c : ℕ) {z : Bool} → z ≡ there c → x || y || z ≡ note_holds there (Required (a ∷ b ∷ c ∷ []))
  required_three c r = rw (p, q, r) (some_holds (there a) (there b) (there c))

-- what the test of one note alone finds
pub note_found : (k : ℕ) (h : Bool) (f : Fault) → first_broken (check BrokenNote k h ∷ []) ≡ Err f → (h ≡ false) × (broken BrokenNote k ≡ Err f)
note_found k true f e = cc
note_found k false f e = (refl, e)

pub note_silent : (k : ℕ) (h : Bool) → first_broken (check BrokenNote k h ∷ []) ≡ Holds → h ≡ true
note_silent k true e = refl
note_silent k false e = cc

module _ (there : ℕ → Bool) where
  abbrev verdict : List Note → Verdict
  verdict ns = first_broken (note_checks ns there)

  -- a note that is broken decides; one that holds leaves it to those behind it
  pub note_broken : (n : Note) (ns : List Note) → note_holds there n ≡ false → broken BrokenNote (named_first n) ≡ verdict (n ∷ ns)
  note_broken n ns e = rw e

  pub note_kept : (n : Note) (ns : List Note) → note_holds there n ≡ true → verdict (n ∷ ns) ≡ verdict ns
  note_kept n ns e = rw e

  -- pairs of absent elements
  pairs_absent : (a n : ℕ) → ((j : ℕ) → a ≤ j → there j ≡ false) → verdict (pairs_from a n) ≡ Holds
  pairs_absent a zero h = refl
  pairs_absent a (suc n) h =
      rw (h a (omega arith), h (a + 1) (omega arith)) (pairs_absent (a + 2) n (λ j l. h j (omega arith)))

  -- LIN, where the pairs before element 2 * pair hold
  pub record Pairs (pair : ℕ) : Type 0 where
    pub left : ℕ
    pub place : pair + left ≡ 16
    pub so_far : verdict (pairs_from 4 14) ≡ verdict (pairs_from (2 * pair) left)

  pub pairs_none : Pairs 2
  pairs_none = record { left = 14; place = refl; so_far = refl }

  pair_fails : (k n : ℕ) → 0 < n → note_holds there (Paired (k ∷ (k + 1) ∷ [])) ≡ false → broken BrokenNote k ≡ verdict (pairs_from k n)
  pair_fails k zero l e = absurd (omega arith)
  pair_fails k (suc n) l e = note_broken (Paired (k ∷ (k + 1) ∷ [])) (pairs_from (k + 2) n) e

  more_pairs : (pair n : ℕ) → pair < 16 → pair + n ≡ 16 → note_holds there (Paired (2 * pair ∷ (2 * pair + 1) ∷ [])) ≡ true
      → verdict (pairs_from 4 14) ≡ verdict (pairs_from (2 * pair) n) → Pairs (pair + 1)
  more_pairs pair zero l p e w = absurd (omega arith)
  more_pairs pair (suc n) l p e w =
      let next : 2 * (pair + 1) ≡ 2 * pair + 2 = omega arith in
      record {
        left = n;
        place = omega arith;
        so_far = rw next (w ∙ note_kept (Paired (2 * pair ∷ (2 * pair + 1) ∷ [])) (pairs_from (2 * pair + 2) n) e);
      }

  module _ {pair : ℕ} (w : Pairs pair) where
    pub pairs_broken : pair < 16 → note_holds there (Paired (2 * pair ∷ (2 * pair + 1) ∷ [])) ≡ false
        → broken BrokenNote (2 * pair) ≡ verdict (pairs_from 4 14)
    pairs_broken l e = pair_fails (2 * pair) w.left (omega (arith, w.place)) e ∙ sym w.so_far

    pub pairs_more : pair < 16 → note_holds there (Paired (2 * pair ∷ (2 * pair + 1) ∷ [])) ≡ true → Pairs (pair + 1)
    pairs_more l e = more_pairs pair w.left l w.place e w.so_far

    pub pairs_all : ((j : ℕ) → 2 * pair ≤ j → there j ≡ false) → Holds ≡ verdict (pairs_from 4 14)
    pairs_all h = sym (w.so_far ∙ pairs_absent (2 * pair) w.left h)
