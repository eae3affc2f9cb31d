-- Answer 6 byte by byte: how the elements end is told by one pass over the segment's bytes.
-- Assumes nothing.
use Prim.Native.Nat.{ℕ, suc, ◌+◌, ◌≤◌, ◌<◌}
use mathlib.Core.Path.{◌≡◌, refl, sym, ap, ap₂, ◌∙◌}
use mathlib.Core.Bool.{Bool, true, false, not, cond, ◌&&◌, ◌||◌}
use mathlib.Core.List.{List, [], ◌∷◌, map}
use native.Mathlib.Omega.{arith}
use lib.Dec.{eqb, leb}
use lib.ListN.{length, drop, get_or, drop_of_length-le, length-map, get_or-map}
use lib.Seq.{drop-cons}
use borrow.Author.Tests.{eq-eqb, ne_eqb}
use Rattle.text.specs.Bytes.{Bytes}
use Rattle.text.specs.Pieces.{before, pieces}
use Rattle.text.specs.View.{View, plain_view, element_of, element_count}
use Rattle.text.specs.declared.separators.Separators.{Separators}
use Rattle.text.proofs.Pieces.{pieces_some}
use Rattle.elements.specs.Checks.{Check, check, each, decide, first_broken, Verdict, Holds, broken}
use Rattle.elements.specs.Rules.{ends_well_of, end_checks}
use Rattle.elements.proofs.PresentPieces.{some, some_length, present_pieces, filled_behind, last_pieces}
use Rattle.elements.specs.declared.verdict.Reason.TheVariants.{BadEnd}

-- the pass: k element separators stand before; `bare`: the element has no byte so far; `hollow`: its last component has none
abbrev pub ends_from : (element component k : ℕ) (bare hollow : Bool) → Bytes → Verdict
ends_from element component k bare hollow [] = cond (eqb k 0 || bare || hollow) (broken BadEnd k) Holds
ends_from element component k bare hollow (b ∷ s) =
    cond (eqb b element) (cond (not (eqb k 0) && hollow && not bare) (broken BadEnd k) (ends_from element component (suc k) true true s))
    (ends_from element component k false (eqb b component) s)

-- a piece, with the pieces behind it: the tag wants one; an element ends well, or is empty and not the last
abbrev ending : ℕ → ℕ → Bool → Bool → Bytes → List Bytes → Bool
ending c k bare hollow p ps = cond (eqb k 0) (some ps) (cond (bare && not (some p)) (some ps) (filled_behind c hollow p))

abbrev endings : ℕ → ℕ → List Bytes → List Check
endings c k [] = []
endings c k (p ∷ ps) = check BadEnd k (ending c k true true p ps) ∷ endings c (suc k) ps

-- the pieces from the one that the pass is in
abbrev endings_from : ℕ → ℕ → Bool → Bool → List Bytes → Verdict
endings_from c k bare hollow [] = Holds
endings_from c k bare hollow (p ∷ ps) =
    decide (check BadEnd k (ending c k bare hollow p ps)) (ending c k bare hollow p ps) (first_broken (endings c (suc k) ps))

endings_from_lem : (c k : ℕ) (ps : List Bytes) → first_broken (endings c k ps) ≡ endings_from c k true true ps
endings_from_lem c k [] = refl
endings_from_lem c k (p ∷ ps) = refl

module _ (q : Separators) where
  -- at the end, at an element separator, and at any other byte
  at_end : (k : ℕ) (first bare hollow : Bool) → let t = cond first false (cond (bare && true) false (not hollow)) in
      decide (check BadEnd k t) t Holds ≡ cond (first || bare || hollow) (broken BadEnd k) Holds
  at_end k true bare hollow = refl
  at_end k false true hollow = refl
  at_end k false false true = refl
  at_end k false false false = refl

  at_element : (k : ℕ) (first bare hollow : Bool) (v : Verdict) → let t = cond first true (cond (bare && true) true (not hollow)) in
      decide (check BadEnd k t) t v ≡ cond (not first && hollow && not bare) (broken BadEnd k) v
  at_element k true bare hollow v = refl
  at_element k false true true v = refl
  at_element k false true false v = refl
  at_element k false false true v = refl
  at_element k false false false v = refl

  at_other : (k b : ℕ) (bare hollow : Bool) (p : Bytes) (ps : List Bytes)
      → endings_from q.component k bare hollow ((b ∷ p) ∷ ps) ≡ endings_from q.component k false (eqb b q.component) (p ∷ ps)
  at_other k b true hollow p ps = refl
  at_other k b false hollow p ps = refl

  passed : (k b : ℕ) (t bare hollow : Bool) (ps : List Bytes) → 0 < length ps
      → endings_from q.component k bare hollow (before t b ps)
      ≡ cond t (cond (not (eqb k 0) && hollow && not bare) (broken BadEnd k) (endings_from q.component (suc k) true true ps))
      (endings_from q.component k false (eqb b q.component) ps)
  passed k b t bare hollow [] l = absurd (omega arith)
  passed k b true bare hollow (p ∷ ps) l = at_element k (eqb k 0) bare hollow (endings_from q.component (suc k) true true (p ∷ ps))
  passed k b false bare hollow (p ∷ ps) l = at_other k b bare hollow p ps

  endings_pass : (k : ℕ) (bare hollow : Bool) (s : Bytes) → endings_from q.component k bare hollow (pieces q.element s) ≡ ends_from q.element
      q.component k bare hollow s
  endings_pass k bare hollow [] = at_end k (eqb k 0) bare hollow
  endings_pass k bare hollow (b ∷ s) =
      passed k b (eqb b q.element) bare hollow (pieces q.element s) (pieces_some q.element s)
      ∙ rw (endings_pass (suc k) true true s, endings_pass k false (eqb b q.component) s)

  -- an element of the view, and the piece it is cut from
  ends_well : (v : View) (a : ℕ) (p : Bytes) (ps : List Bytes) → 1 ≤ a → element_of v a ≡ pieces q.component p → a + length ps ≡ element_count v
      → ends_well_of v a ≡ ending q.component a true true p ps
  ends_well v a p ps l e u =
      rw (e, present_pieces q.component p, last_pieces q.component p, ne_eqb a 0 (omega arith), last_one)
      (turned (some p) (filled_behind q.component true p) (some ps))
    where
      turned : (t f s : Bool) → cond t f s ≡ cond (true && not t) s f
      turned true f s = refl
      turned false f s = refl

      counted : (ps : List Bytes) → a + length ps ≡ element_count v → not (eqb a (element_count v)) ≡ some ps
      counted [] u = rw (eq-eqb a (element_count v) (omega (arith, u)))
      counted (r ∷ ps) u = rw (ne_eqb a (element_count v) (omega (arith, u)))

      last_one : not (eqb a (element_count v)) ≡ some ps
      last_one = counted ps u

  each_ends : (v : View) (a : ℕ) (ps : List Bytes) → 1 ≤ a → ((k : ℕ) → k < length ps → element_of v (a + k) ≡ pieces q.component (get_or ps k []))
      → a + length ps ≡ suc (element_count v) → each BadEnd a (length ps) (ends_well_of v) ≡ endings q.component a ps
  each_ends v a [] l e u = refl
  each_ends v a (p ∷ ps) l e u =
      let here : a + 0 ≡ a = omega arith in
      ap₂ (λ (t : Bool) (r : List Check). check BadEnd a t ∷ r) (ends_well v a p ps l (ap (element_of v) (sym here) ∙ e 0 (omega arith)) (omega (arith, u)))
      (each_ends v (suc a) ps (omega arith)
      (λ k h. let on : suc a + k ≡ a + suc k = omega arith in ap (element_of v) on ∙ e (suc k) (omega arith)) (omega (arith, u)))

  by_pieces : (ps : List Bytes) → 0 < length ps → first_broken (end_checks (map (pieces q.component) ps)) ≡ first_broken (endings q.component 0 ps)
  unfolding end_checks
  by_pieces [] l = absurd (omega arith)
  by_pieces (p ∷ ps) l =
      let v = map (pieces q.component) (p ∷ ps) in
      let count : element_count v ≡ length ps = omega (arith, length-map ps (pieces q.component)) in
      let rest : each BadEnd 1 (element_count v) (ends_well_of v) ≡ endings q.component 1 ps =
      rw count (each_ends v 1 ps (omega arith)
      (λ k h. let on : 1 + k ≡ suc k = omega arith in ap (element_of v) on ∙ get_or-map (pieces q.component) ps k []) (omega (arith, count))) in
      ap first_broken (ap₂ (λ (t : Bool) (r : List Check). check BadEnd 0 t ∷ r) (ap (leb 1) count ∙ some_length ps) rest)

  pub ends_pass : (s : Bytes) → first_broken (end_checks (plain_view q s)) ≡ ends_from q.element q.component 0 true true s
  ends_pass s =
      by_pieces (pieces q.element s) (pieces_some q.element s) ∙ endings_from_lem q.component 0 (pieces q.element s)
      ∙ endings_pass 0 true true s

-- a pass that has come to i
pub record Ended (element component : ℕ) (s : Bytes) (i k : ℕ) (bare hollow : Bool) : Type 0 where
  pub so_far : ends_from element component 0 true true s ≡ ends_from element component k bare hollow (drop i s)
  pub few : k ≤ i

module _ {element component : ℕ} {s : Bytes} {i k : ℕ} {bare hollow : Bool} (c : Ended element component s i k bare hollow) where
  pub ended_badly : i < length s → get_or s i 0 ≡ element → not (eqb k 0) && hollow && not bare ≡ true
      → broken BadEnd k ≡ ends_from element component 0 true true s
  ended_badly l e f = sym (c.so_far ∙ rw (drop-cons s i 0 l, eq-eqb (get_or s i 0) element e, f))

  pub ended_all : length s ≤ i → cond (eqb k 0 || bare || hollow) (broken BadEnd k) Holds ≡ ends_from element component 0 true true s
  ended_all l = sym (c.so_far ∙ rw (drop_of_length-le s l))
