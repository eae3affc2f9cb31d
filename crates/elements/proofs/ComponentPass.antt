-- The components of one element: how many, how the first begins, and whether each fits.
-- Assumes nothing.
use Prim.Native.Nat.{ℕ, suc, ◌+◌, ◌≤◌, ◌<◌}
use mathlib.Core.Path.{◌≡◌, refl, sym, ap, ◌∙◌}
use mathlib.Core.Logic.{by_cases}
use mathlib.Core.Bool.{Bool, true, false, not, cond, ◌&&◌, ◌||◌, true≢false}
use mathlib.Core.List.{List, [], ◌∷◌}
use native.Mathlib.Omega.{arith}
use native.Mathlib.Decide.{dec_lt}
use native.Mathlib.Numerals.{add-one}
use lib.Dec.{leb, ltb, eqb, leb-suc-suc}
use lib.ListN.{length, drop, get_or, drop_of_length-le}
use lib.Seq.{drop-cons}
use borrow.Author.Tests.{ne_eqb, eqb-false, lt-ltb, le-ltb, le-leb}
use Rattle.std.specs.Bool.{◌==◌}
use Rattle.std.specs.List.{slice_split, onto_first, enumerate_from, list_all, count_by}
use Rattle.std.proofs.lemmas.List.Splits.{length-slice_split}
use Rattle.text.specs.Bytes.{Bytes, among}
use Rattle.text.specs.Pieces.{before, pieces}
use Rattle.text.specs.View.{Piece, present}
use Rattle.text.proofs.Pieces.{pieces_some, pieces_free}
use Rattle.text.proofs.Searching.{among_free}
use Rattle.types.specs.Types.{fits}
use Rattle.elements.specs.Data.{Value, value, unit_values}
use Rattle.elements.specs.Rules.{first_filled, fits_simple, fits_each, complete_by, suits_by}
use Rattle.elements.specs.internal.Layouts.{components_by}
use Rattle.elements.specs.internal.Components.{none, fits_unit}
use Rattle.elements.specs.internal.Verdicts.{element_by}
use Rattle.elements.specs.declared.rules.Rule.{Rule}
use Rattle.elements.proofs.ByLayout.{components_present}

-- the pieces of std are these
pub split_is : (c : ℕ) (p : Bytes) → slice_split (λ (b : ℕ). b == c) p ≡ pieces c p
split_is c [] = refl
split_is c (b ∷ p) = rw (split_is c p) (onto_is (eqb b c) (pieces c p))
  where
    onto_is : (t : Bool) (ps : List Bytes) → cond t ([] ∷ ps) (onto_first b ps) ≡ before t b ps
    onto_is true ps = refl
    onto_is false [] = refl
    onto_is false (p ∷ ps) = refl

-- one component more than separators
count_pieces : (c : ℕ) (p : Bytes) → length (pieces c p) ≡ count_by (λ (b : ℕ). b == c) p + 1
count_pieces c p = ap length (sym (split_is c p)) ∙ length-slice_split (λ (b : ℕ). b == c) p

pub few_single : (c : ℕ) (p : Bytes) → true ≡ leb (length (components_by true c p)) 15
few_single c p = refl

pub few_pieces : (c : ℕ) (p : Bytes) → leb (count_by (λ (b : ℕ). b == c) p) 14 ≡ leb (length (components_by false c p)) 15
few_pieces c p = rw (count_pieces c p, add-one) (sym (leb-suc-suc (count_by (λ (b : ℕ). b == c) p) 14))

-- how the first component begins
first_before : (t : Bool) (b : ℕ) (ps : List Bytes) → 0 < length ps → first_filled (before t b ps) ≡ not t
first_before true b ps l = refl
first_before false b [] l = absurd (omega arith)
first_before false b (p ∷ ps) l = le-leb 1 (suc (length p)) (omega arith)

-- an element that is present: whether its first component is there
module _ (rule : Rule) (c : ℕ) where
  there : (single : Bool) (p : Bytes) → (length p ≡ 0 → ⊥) → present (components_by single c p) ≡ true
  there single p n = components_present single c p ∙ rw (ne_eqb (length p) 0 n)

  asked : (m : Bool) {t : Bool} → t ≡ (not m || true) && t
  asked true = refl
  asked false = refl

  pub complete_simple : (single : Bool) (p : Bytes) → (length p ≡ 0 → ⊥) → rule.composite ≡ false
      → true ≡ complete_by (element_by rule) (components_by single c p)
  complete_simple single p n e = rw (e, there single p n) (asked rule.must)

  pub complete_single : (p : Bytes) → (length p ≡ 0 → ⊥) → true ≡ complete_by (element_by rule) (components_by true c p)
  complete_single p n = by_shape rule.composite refl
    where
      by_shape : (b : Bool) → rule.composite ≡ b → true ≡ complete_by (element_by rule) (components_by true c p)
      by_shape true e = rw (e, there true p n, le-leb 1 (length p) (omega arith)) (asked rule.must)
      by_shape false e = complete_simple true p n e

  pub complete_pieces : (p : Bytes) → (length p ≡ 0 → ⊥) → rule.composite ≡ true
      → not (eqb (get_or p 0 0) c) ≡ complete_by (element_by rule) (components_by false c p)
  complete_pieces [] n e = absurd (n refl)
  complete_pieces (b ∷ p) n e =
      rw (e, there false (b ∷ p) n, first_before (eqb b c) b (pieces c p) (pieces_some c p)) (asked rule.must)

  -- what it holds decides whether it suits
  pub suits_simple : (single : Bool) (p : Bytes) → (length p ≡ 0 → ⊥) → rule.composite ≡ false
      → fits_simple (value rule.kind rule.least rule.most) (components_by single c p) ≡ suits_by (element_by rule) (components_by single c p)
  suits_simple single p n e = rw (there single p n, e)

-- one value is one component exactly if no separator stands in it
counted_some : (c : ℕ) (p : Bytes) → among p c ≡ true → 1 < length (pieces c p)
counted_some c [] e = absurd (true≢false (sym e))
counted_some c (b ∷ p) e = by_test (eqb b c) refl (pieces c p) (pieces_some c p) (counted_some c p)
  where
    by_test : (t : Bool) → eqb b c ≡ t → (ps : List Bytes) → 0 < length ps → (among p c ≡ true → 1 < length ps) → 1 < length (before t b ps)
    by_test true q ps l h = omega arith
    by_test false q [] l h = absurd (omega arith)
    by_test false q (r ∷ ps) l h = h (rw (ne_eqb c b (λ z. eqb-false b c q (sym z))) at e)

module _ (x : Value) (c : ℕ) where
  pub simple_free : (p : Bytes) → among p c ≡ false → fits x.kind x.least x.most p ≡ fits_simple x (components_by false c p)
  simple_free p e = rw (pieces_free c p (among_free c p e))

  pub simple_cut : (p : Bytes) → among p c ≡ true → false ≡ fits_simple x (components_by false c p)
  simple_cut p e = by_length (pieces c p) (counted_some c p e)
    where
      by_length : (ps : Piece) → 1 < length ps → false ≡ fits_simple x ps
      by_length [] l = absurd (omega arith)
      by_length (p ∷ []) l = absurd (omega arith)
      by_length (p ∷ (q ∷ ps)) l = refl

-- a component and those behind it: each is empty or fits
each_first : (xs : List Value) (s : Bytes) (p : Piece) (j : ℕ) → j < length xs
    → fits_each (drop j xs) (s ∷ p)
    ≡ (eqb (length s) 0 || fits (get_or xs j none).kind (get_or xs j none).least (get_or xs j none).most s) && fits_each (drop (suc j) xs) p
each_first xs s p j l = rw (drop-cons xs j none l)

each_none : (xs : List Value) → fits_each xs [] ≡ true
each_none [] = refl
each_none (x ∷ xs) = refl

-- the pass over NCA05: each of the components with its number is one of the fifteen, and is empty or fits
abbrev pub unit_test : ℕ × Bytes → Bool
unit_test x = ltb x.0 15 && fits_unit x.0 x.1

units_from : (j : ℕ) (ps : Piece) → list_all unit_test (enumerate_from j ps) ≡ fits_each (drop j unit_values) ps
units_from j [] = sym (each_none (drop j unit_values))
units_from j (s ∷ ps) =
    rw (units_from (j + 1) ps, add-one)
    (by_cases (dec_lt j 15)
    (λ l. rw (lt-ltb j 15 l) (sym (each_first unit_values s ps j l)))
    (λ l. let over : 15 ≤ j = omega arith in rw (le-ltb j 15 over, drop_of_length-le unit_values {i = j} over) refl))

pub units_are : (c : ℕ) (p : Bytes)
    → list_all unit_test (enumerate_from 0 (slice_split (λ (b : ℕ). b == c) p)) ≡ fits_each unit_values (pieces c p)
units_are c p = rw (split_is c p) (units_from 0 (pieces c p))
