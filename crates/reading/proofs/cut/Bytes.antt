-- Rule 5 in bytes: the view of a segment holds data alone exactly if each byte of the segment is data or one of its two separators.
-- Assumes nothing.
use Prim.Native.Nat.{ℕ, zero, suc, ◌+◌, ◌≤◌, ◌<◌}
use mathlib.Core.Path.{◌≡◌, refl, ◌∙◌}
use mathlib.Core.Bool.{Bool, ◌||◌}
use mathlib.Core.List.{List, [], ◌∷◌, map}
use native.Mathlib.Omega.{arith}
use lib.Dec.{T, eqb}
use lib.ListN.{length}
use Rattle.text.specs.Bytes.{Bytes, every}
use Rattle.text.specs.Separators.{printable}
use Rattle.text.specs.Pieces.{pieces}
use Rattle.text.specs.View.{plain_view, empty, element_of}
use Rattle.text.specs.declared.separators.Separators.{Separators}
use Rattle.text.proofs.Bools.{both}
use Rattle.text.proofs.Everys.{every_at, every_of}
use Rattle.text.proofs.Pieces.{every_pieces}
use Rattle.elements.specs.Checks.{each, Keeps}
use Rattle.elements.specs.Rules.{data_piece, data_checks}
use Rattle.reading.proofs.cut.SpecialBytes.{belongs}
use Rattle.reading.proofs.cut.Queue.{All}
use Rattle.gate.proofs.reading.Laws.{keeps_at}
use Rattle.elements.specs.declared.verdict.Reason.{Reason}
use Rattle.elements.specs.declared.verdict.Reason.TheVariants.{BadByte}

-- the same test of n elements holds if it holds at each
pub keeps_of : (reason : Reason) (a n : ℕ) (test : ℕ → Bool) → ((k : ℕ) → a ≤ k → k < a + n → T (test k)) → Keeps (each reason a n test)
keeps_of reason a zero test f = tt
keeps_of reason a (suc n) test f = (f a (omega arith) (omega arith), keeps_of reason (suc a) n test (λ k l u. f k (omega arith) (omega arith)))

-- bytes with a property pass a test that each byte with it does
pub all_every : (P : ℕ → Type 0) (f : ℕ → Bool) (s : Bytes) → ((b : ℕ) → P b → T (f b)) → All P s → T (every f s)
all_every P f [] h u = tt
all_every P f (b ∷ s) h u = both (f b) (every f s) (h b u.0) (all_every P f s h u.1)

-- a view's bytes are printable: in terms of its pieces
data_pieces : (c : ℕ) (ps : List Bytes) → every data_piece (map (pieces c) ps) ≡ every (every (λ (b : ℕ). printable b || eqb b c)) ps
data_pieces c [] = refl
data_pieces c (p ∷ ps) = rw (every_pieces printable c p, data_pieces c ps)

-- and in terms of the segment
data_view : (q : Separators) (segment : Bytes) → every data_piece (plain_view q segment) ≡ every (belongs q) segment
data_view q segment =
    data_pieces q.component (pieces q.element segment)
    ∙ every_pieces (λ (b : ℕ). printable b || eqb b q.component) q.element segment

-- rule 5, from the bytes to the view
pub data_kept : (q : Separators) (segment : Bytes) → T (every (belongs q) segment) → Keeps (data_checks (plain_view q segment))
unfolding data_checks
data_kept q segment t =
    keeps_of BadByte 0 (length (plain_view q segment)) (λ (k : ℕ). data_piece (element_of (plain_view q segment) k))
    (λ k l u. every_at data_piece (plain_view q segment) empty (rw (data_view q segment) t) k (omega arith))

-- and back
pub data_told : (q : Separators) (segment : Bytes) → Keeps (data_checks (plain_view q segment)) → T (every (belongs q) segment)
unfolding data_checks
data_told q segment h =
    rw (← data_view q segment)
    (every_of data_piece (plain_view q segment) empty
    (λ k u. keeps_at BadByte 0 (length (plain_view q segment)) (λ (k : ℕ). data_piece (element_of (plain_view q segment) k)) h k (omega arith) (omega arith)))
