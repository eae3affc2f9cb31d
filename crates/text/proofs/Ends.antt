-- Where pieces end: each before its separator and the next piece, and the last at the end.
-- Assumes nothing.
use Prim.Native.Nat.{ℕ, suc, ◌+◌, ◌<◌}
use mathlib.Core.Path.{◌≡◌, refl, ap}
use mathlib.Core.List.{List, [], ◌∷◌}
use native.Mathlib.Omega.{arith}
use lib.ListN.{length, take, get_or, length-append}
use lib.Seq.{take_all, take-suc}
use borrow.Author.Tests.{lt-ltb}
use Rattle.text.specs.Bytes.{Bytes}
use Rattle.text.specs.Pieces.{joined, closed}
use Rattle.text.specs.Lookup.{span, span_among}
use Rattle.text.specs.declared.lookup.Span.{Span}
use Rattle.text.proofs.Pieces.{closed_snoc}
use Rattle.text.proofs.Spans.{lies_among}

-- one piece more, with its separator
start_more : (sep : ℕ) (ps : List Bytes) (n : ℕ) → n < length ps
    → length (closed sep (take (suc n) ps)) ≡ length (closed sep (take n ps)) + length (get_or ps n []) + 1
start_more sep ps n h =
    rw (take-suc ps n [] h, closed_snoc sep (take n ps) (get_or ps n [])) (simp length-append (omega arith))

closed_joined : (sep : ℕ) (ps : List Bytes) → 0 < length ps → length (closed sep ps) ≡ suc (length (joined sep ps))
closed_joined sep [] l = absurd (omega arith)
closed_joined sep (p ∷ []) l = simp length-append (omega arith)
closed_joined sep (p ∷ (q ∷ ps)) l =
    omega (arith, length-append p (sep ∷ closed sep (q ∷ ps)), length-append p (sep ∷ joined sep (q ∷ ps)), closed_joined sep (q ∷ ps) (omega arith))

module _ (sep : ℕ) (ps : List Bytes) (end n : ℕ) (h : n < length ps) where
  abbrev span_of : ℕ → Span
  span_of k = span_among sep ps end k

  span_there : (k : ℕ) → k < length ps → span_of k ≡ span (length (closed sep (take k ps))) (length (get_or ps k []))
  span_there k l = rw (lt-ltb k (length ps) l)

  -- the next piece starts behind the separator; the last ends at the end
  pub next_start : suc n < length ps → (span_of (suc n)).start ≡ (span_of n).start + (span_of n).len + 1
  next_start u = rw (span_there n h, span_there (suc n) u) (start_more sep ps n h)

  pub last_end : suc n ≡ length ps → length (joined sep ps) ≡ end → (span_of n).start + (span_of n).len ≡ end
  last_end e w =
      rw (span_there n h)
      (omega (
        arith,
        start_more sep ps n h,
        ap (λ (ps : List Bytes). length (closed sep ps)) (take_all (suc n) ps (omega arith)),
        closed_joined sep ps (omega arith),
        w,
      ))

-- so only the last ends at the end
pub ends_before : (sep : ℕ) (ps : List Bytes) (end n : ℕ) → suc n < length ps → length (joined sep ps) ≡ end
    → (span_among sep ps end n).start + (span_among sep ps end n).len < end
ends_before sep ps end n l e =
    omega (arith, next_start sep ps end n (omega arith) l, rw e at (lies_among sep ps (joined sep ps) refl (suc n)).inside)
