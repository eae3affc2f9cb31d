-- A test of a view's bytes, told by one pass over the segment's bytes: the first piece with a byte that fails it.
-- Assumes nothing.
use Prim.Native.Nat.{ℕ, suc, ◌+◌, ◌≤◌, ◌<◌}
use mathlib.Core.Path.{◌≡◌, refl, sym, ap, ◌∙◌}
use mathlib.Core.Bool.{Bool, true, false, cond, ◌&&◌, ◌||◌}
use mathlib.Core.List.{List, [], ◌∷◌, map}
use native.Mathlib.Omega.{arith}
use lib.Dec.{eqb}
use lib.ListN.{length, drop, get_or, drop_of_length-le}
use lib.Seq.{drop-cons}
use borrow.Author.Tests.{ne_eqb}
use Rattle.text.specs.Bytes.{Bytes, every}
use Rattle.text.specs.Separators.{printable}
use Rattle.text.specs.Pieces.{before, pieces}
use Rattle.text.specs.View.{Piece, plain_view, empty, element_of}
use Rattle.text.specs.declared.separators.Separators.{Separators}
use Rattle.text.proofs.Bools.{and_assoc}
use Rattle.text.proofs.Pieces.{pieces_some}
use Rattle.elements.specs.Checks.{check, each, decide, first_broken, Verdict, Holds, broken}
use Rattle.elements.specs.Rules.{data_checks}
use Rattle.elements.proofs.FirstBroken.{each_of, each_of_lem}
use Rattle.elements.specs.declared.verdict.Reason.{Reason}
use Rattle.elements.specs.declared.verdict.Reason.TheVariants.{BadByte}

-- the first byte that is no separator and not good, where k element separators stand before: it breaks the test with this reason
abbrev pub bad_from : (reason : Reason) (good : ℕ → Bool) (element component k : ℕ) → Bytes → Verdict
bad_from reason good element component k [] = Holds
bad_from reason good element component k (b ∷ s) =
    cond (eqb b element) (bad_from reason good element component (suc k) s)
    (cond (eqb b component || good b) (bad_from reason good element component k s) (broken reason k))

module _ (reason : Reason) (good : ℕ → Bool) (q : Separators) where
  -- every byte of the piece is good
  abbrev good_piece : Piece → Bool
  good_piece p = every (every good) p

  -- one byte more in front of a piece
  good_before : (t : Bool) (b : ℕ) (ps : Piece) → 0 < length ps → good_piece (before t b ps) ≡ (t || good b) && good_piece ps
  good_before true b ps l = refl
  good_before false b [] l = absurd (omega arith)
  good_before false b (p ∷ ps) l = and_assoc (good b) (every good p) (every (every good) ps)

  abbrev tests : ℕ → List Bytes → Verdict
  tests k ps = first_broken (each_of reason k good_piece (map (pieces q.component) ps))

  decided : (k : ℕ) (t u : Bool) (v : Verdict)
      → decide (check reason k (t && u)) (t && u) v ≡ cond t (decide (check reason k u) u v) (broken reason k)
  decided k true u v = refl
  decided k false u v = refl

  tests_before : (t : Bool) (k b : ℕ) (ps : List Bytes) → 0 < length ps
      → tests k (before t b ps) ≡ cond t (tests (suc k) ps) (cond (eqb b q.component || good b) (tests k ps) (broken reason k))
  tests_before true k b ps l = refl
  tests_before false k b [] l = absurd (omega arith)
  tests_before false k b (p ∷ ps) l =
      rw (good_before (eqb b q.component) b (pieces q.component p) (pieces_some q.component p))
      (decided k (eqb b q.component || good b) (good_piece (pieces q.component p)) (tests (suc k) ps))

  tests_bad : (k : ℕ) (s : Bytes) → tests k (pieces q.element s) ≡ bad_from reason good q.element q.component k s
  tests_bad k [] = refl
  tests_bad k (b ∷ s) =
      tests_before (eqb b q.element) k b (pieces q.element s) (pieces_some q.element s) ∙ rw (tests_bad (suc k) s, tests_bad k s)

  -- the test of each piece of a view, byte by byte
  pub each_bad : (s : Bytes) → first_broken (each reason 0 (length (plain_view q s)) (λ (k : ℕ). every (every good) (element_of (plain_view q s) k)))
      ≡ bad_from reason good q.element q.component 0 s
  each_bad s =
      ap first_broken
      (each_of_lem reason 0 good_piece empty (plain_view q s) (λ (k : ℕ). good_piece (element_of (plain_view q s) k))
      (λ k l. let same : 0 + k ≡ k = omega arith in ap (λ (k : ℕ). good_piece (element_of (plain_view q s) k)) same))
      ∙ tests_bad 0 s

-- answer 5
pub bytes_bad : (q : Separators) (s : Bytes) → first_broken (data_checks (plain_view q s)) ≡ bad_from BadByte printable q.element q.component 0 s
unfolding data_checks
bytes_bad q s = each_bad BadByte printable q s

-- a pass that has come to i, behind k element separators
pub record Scanned (element component : ℕ) (s : Bytes) (i k : ℕ) : Type 0 where
  pub so_far : bad_from BadByte printable element component 0 s ≡ bad_from BadByte printable element component k (drop i s)
  pub few : k ≤ i

module _ {element component : ℕ} {s : Bytes} {i k : ℕ} (c : Scanned element component s i k) where
  pub scanned_bad : i < length s → (get_or s i 0 ≡ element → ⊥) → eqb (get_or s i 0) component || printable (get_or s i 0) ≡ false
      → broken BadByte k ≡ bad_from BadByte printable element component 0 s
  scanned_bad l n e = sym (c.so_far ∙ rw (drop-cons s i 0 l, ne_eqb (get_or s i 0) element n, e))

  pub scanned_all : length s ≤ i → Holds ≡ bad_from BadByte printable element component 0 s
  scanned_all l = sym (c.so_far ∙ rw (drop_of_length-le s l))
