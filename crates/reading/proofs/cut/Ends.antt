-- Rule 6 in bytes: no element ends in the component separator, the last element is not empty, and there is one.
-- Assumes nothing.
use Prim.Native.Nat.{ℕ, zero, suc, ◌+◌, ◌-◌, ◌≤◌, ◌<◌}
use mathlib.Core.Path.{◌≡◌, refl, sym, ap, ◌∙◌}
use mathlib.Core.Logic.{by_cases}
use mathlib.Core.Bool.{Bool, true, false, not, cond, ◌&&◌, ◌||◌}
use mathlib.Core.List.{List, [], ◌∷◌, ◌++◌, map}
use native.Mathlib.Omega.{arith}
use native.Mathlib.Decide.{dec_lt}
use native.Mathlib.Numerals.{add-one}
use lib.Dec.{T, eqb, leb→le, le→leb}
use lib.ListN.{length, drop, get_or, length-append, length-drop, length-map, get_or-map, get_or-append}
use lib.Seq.{get_or_at, get_or-drop}
use borrow.Author.Tests.{eq-eqb, ne_eqb, le-leb}
use Rattle.text.specs.Bytes.{Bytes, every}
use Rattle.text.specs.Pieces.{before, pieces}
use Rattle.text.specs.internal.Search.{Free}
use Rattle.text.specs.View.{present, element_count}
use Rattle.text.proofs.Everys.{every_at, every_of, every_snoc}
use Rattle.text.proofs.Bools.{both, first_of, second_of, or_left, or_right, or_false, and_true}
use Rattle.elements.specs.Checks.{each, Keeps}
use Rattle.elements.specs.Rules.{last_filled, ends_well_of, end_checks}
use Rattle.reading.proofs.cut.Bytes.{keeps_of}
use Rattle.gate.proofs.reading.Laws.{keeps_at}
use Rattle.elements.proofs.PresentPieces.{some as filled, present_pieces}
use Rattle.elements.specs.declared.verdict.Reason.TheVariants.{BadEnd}

-- the last byte is the component separator
abbrev pub ends_in : ℕ → Bytes → Bool
ends_in c [] = false
ends_in c (b ∷ []) = eqb b c
ends_in c (b ∷ (d ∷ s)) = ends_in c (d ∷ s)

-- the last component, if any byte is there, is not empty
abbrev pub well : ℕ → Bytes → Bool
well c s = not (ends_in c s)

-- one byte more decides alone
pub ends_snoc : (c : ℕ) (s : Bytes) (b : ℕ) → ends_in c (s ++ (b ∷ [])) ≡ eqb b c
ends_snoc c [] b = refl
ends_snoc c (x ∷ []) b = refl
ends_snoc c (x ∷ (y ∷ s)) b = ends_snoc c (y ∷ s) b

-- bytes without the separator do not end in it
ends_free : (c : ℕ) (s : Bytes) → Free c s → ends_in c s ≡ false
ends_free c [] f = refl
ends_free c (b ∷ []) f = ne_eqb b c f.0
ends_free c (b ∷ (d ∷ s)) f = ends_free c (d ∷ s) f.1

-- whatever stands before them
pub ends_gap : (c : ℕ) (s : Bytes) (b : ℕ) (gap : Bytes) → Free c (b ∷ gap) → ends_in c (s ++ (b ∷ gap)) ≡ false
ends_gap c [] b gap f = ends_free c (b ∷ gap) f
ends_gap c (x ∷ []) b gap f = ends_free c (b ∷ gap) f
ends_gap c (x ∷ (y ∷ s)) b gap f = ends_gap c (y ∷ s) b gap f

-- one byte in front leaves the last component as it is
last_before : (t : Bool) (b : ℕ) (ps : List Bytes) → T (present ps) → last_filled (before t b ps) ≡ last_filled ps
last_before true b [] h = refl
last_before true b (p ∷ ps) h = refl
last_before false b [] h = absurd h
last_before false b ([] ∷ []) h = absurd h
last_before false b ((x ∷ p) ∷ []) h = le-leb 1 (suc (suc (length p))) (omega arith) ∙ sym (le-leb 1 (suc (length p)) (omega arith))
last_before false b (p ∷ (q ∷ ps)) h = refl

-- of one byte, the last component is empty exactly if it is the separator
last_one : (t : Bool) (b : ℕ) → last_filled (before t b ([] ∷ [])) ≡ not t
last_one true b = refl
last_one false b = refl

-- an element's last component is not empty exactly if the element does not end in the separator
last_pieces : (c b : ℕ) (s : Bytes) → last_filled (pieces c (b ∷ s)) ≡ well c (b ∷ s)
last_pieces c b [] = last_one (eqb b c) b
last_pieces c b (d ∷ s) = last_before (eqb b c) b (pieces c (d ∷ s)) (rw (present_pieces c (d ∷ s)) tt) ∙ last_pieces c d s

-- how an element ends, as the rule has it and in its bytes
ends_by : (c : ℕ) (p : Bytes) (t : Bool) → cond (present (pieces c p)) (last_filled (pieces c p)) t ≡ (filled p || t) && well c p
ends_by c [] t = sym (and_true t)
ends_by c (b ∷ p) t = rw (present_pieces c (b ∷ p), last_pieces c b p)

-- the same of element k of a view
ends_at : (c : ℕ) (ps : List Bytes) (k : ℕ)
    → ends_well_of (map (pieces c) ps) k ≡ (filled (get_or ps k []) || not (eqb k (length ps - 1))) && well c (get_or ps k [])
ends_at c ps k = rw (get_or-map (pieces c) ps k [], length-map ps (pieces c)) (ends_by c (get_or ps k []) (not (eqb k (length ps - 1))))

-- the pieces of a segment, `last` the last of them
module _ (c : ℕ) (gone : List Bytes) (last : Bytes) where
  -- their view
  abbrev view : List (List Bytes)
  view = map (pieces c) (gone ++ (last ∷ []))

  -- piece number k
  abbrev piece : ℕ → Bytes
  piece k = get_or (gone ++ (last ∷ [])) k []

  -- the last number
  abbrev latest : ℕ
  latest = length (gone ++ (last ∷ [])) - 1

  -- it is how many there are before the last
  latest_is : latest ≡ length gone
  latest_is = simp length-append (omega arith)

  -- and the number of elements
  count_is : element_count view ≡ length gone
  count_is = rw (length-map (gone ++ (last ∷ [])) (pieces c)) latest_is

  -- the last piece has that number
  last_is : piece (length gone) ≡ last
  last_is = get_or_at gone last [] [] (length gone) refl

  -- an element before the last
  early_is : (k : ℕ) → k + 1 < length gone → piece (k + 1) ≡ get_or (drop 1 gone) k []
  early_is k u = get_or-append gone (last ∷ []) [] (k + 1) u ∙ sym (get_or-drop 1 gone k [] ∙ ap (λ (n : ℕ). get_or gone n []) (omega arith))

  -- rule 6 in bytes
  pub record Ended : Type 0 where
    pub some : 0 < length gone
    pub early : T (every (well c) (drop 1 gone))
    pub last_filled_lem : T (filled last)
    pub last_well : T (well c last)

  -- from the bytes to the view: an element before the last
  kept_early : Ended → (k : ℕ) → k + 1 < length gone → T (ends_well_of view (k + 1))
  kept_early e k u =
      let n : not (eqb (k + 1) latest) ≡ true = ap not (ne_eqb (k + 1) latest (λ z. omega (arith, latest_is))) in
      let h : T (well c (get_or (drop 1 gone) k [])) = every_at (well c) (drop 1 gone) [] e.early k (simp length-drop (omega arith)) in
      rw (ends_at c (gone ++ (last ∷ [])) (k + 1), n, early_is k u)
      (both (filled (get_or (drop 1 gone) k []) || true) (well c (get_or (drop 1 gone) k [])) (or_right (filled (get_or (drop 1 gone) k [])) true tt) h)

  -- the last
  kept_last : Ended → T (ends_well_of view (length gone))
  kept_last e =
      rw (ends_at c (gone ++ (last ∷ [])) (length gone), last_is)
      (both (filled last || not (eqb (length gone) latest)) (well c last) (or_left (filled last) (not (eqb (length gone) latest)) e.last_filled_lem) e.last_well)

  -- each
  kept_at : Ended → (k : ℕ) → 1 ≤ k → k < 1 + element_count view → T (ends_well_of view k)
  kept_at e zero l u = absurd (omega arith)
  kept_at e (suc k) l u =
      by_cases (dec_lt (suc k) (length gone))
      (λ w. rw add-one at (kept_early e k (omega arith)))
      (λ w. let z : suc k ≡ length gone = omega (arith, count_is) in rw z (kept_last e))

  -- all, and there is one
  pub ends_kept : Ended → Keeps (end_checks view)
  unfolding end_checks
  ends_kept e = (le→leb 1 (element_count view) (omega (arith, e.some, count_is)), keeps_of BadEnd 1 (element_count view) (ends_well_of view) (kept_at e))

  -- and back: each element
  told_at : Keeps (each BadEnd 1 (element_count view) (ends_well_of view)) → (k : ℕ) → 1 ≤ k → k ≤ length gone
      → T ((filled (piece k) || not (eqb k latest)) && well c (piece k))
  told_at h k l u = rw (ends_at c (gone ++ (last ∷ [])) k) at (keeps_at BadEnd 1 (element_count view) (ends_well_of view) h k l (omega (arith, count_is)))

  -- one before the last
  told_early : Keeps (each BadEnd 1 (element_count view) (ends_well_of view)) → (k : ℕ) → k < length (drop 1 gone) → T (well c (get_or (drop 1 gone) k []))
  told_early h k u =
      let v : k + 1 < length gone = omega (arith, length-drop 1 gone) in
      rw (← early_is k v) (second_of (filled (piece (k + 1)) || not (eqb (k + 1) latest)) (well c (piece (k + 1))) (told_at h (k + 1) (omega arith) (omega arith)))

  -- the last
  told_last : Keeps (each BadEnd 1 (element_count view) (ends_well_of view)) → 0 < length gone → T (filled last && well c last)
  told_last h some =
      let n : not (eqb (length gone) latest) ≡ false = ap not (eq-eqb (length gone) latest (sym latest_is)) in
      rw (n, last_is, or_false (filled last)) at (told_at h (length gone) (omega arith) (omega arith))

  -- all, and that there is one
  pub ends_told : Keeps (end_checks view) → Ended
  unfolding end_checks
  ends_told h =
      let some : 0 < length gone = omega (arith, leb→le 1 (element_count view) h.0, count_is) in
      let both-last = told_last h.1 some in
      record {
        some = some;
        early = every_of (well c) (drop 1 gone) [] (told_early h.1);
        last_filled_lem = first_of (filled last) (well c last) both-last;
        last_well = second_of (filled last) (well c last) both-last;
      }

-- one piece more: the tag does not count
pub ended_more : (c : ℕ) (gone : List Bytes) (piece : Bytes) (ended v : Bool) (count : ℕ) → length gone ≡ count → ended ≡ every (well c) (drop 1 gone)
    → (0 < count → v ≡ well c piece) → (ended && (v || eqb count 0)) ≡ every (well c) (drop 1 (gone ++ (piece ∷ [])))
ended_more c [] piece ended v count n e w = rw (e, eq-eqb count 0 (sym n)) (either v)
  where
    either : (a : Bool) → (a || true) ≡ true
    either true = refl
    either false = refl
ended_more c (g ∷ gone) piece ended v count n e w =
    rw (e, ne_eqb count 0 (λ z. omega arith), or_false v, w (omega arith)) (sym (every_snoc (well c) gone piece))
