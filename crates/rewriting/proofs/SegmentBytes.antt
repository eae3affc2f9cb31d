-- The segments that a reading cuts, as the bytes they were: one after the other, each with its terminator.
-- Assumes nothing.
use Prim.Native.Nat.{ℕ, ◌+◌, ◌≤◌}
use mathlib.Core.Path.{◌≡◌, refl, sym, ap, ◌∙◌}
use mathlib.Core.List.{List, [], ◌∷◌, ◌++◌, map, append_assoc}
use native.Mathlib.Omega.{arith}
use lib.ListN.{length, take, length-append}
use lib.Seq.{take_at}
use Rattle.text.specs.Bytes.{Bytes}
use Rattle.text.specs.Pieces.{closed}
use Rattle.text.specs.Cut.{Placed, Whole}
use Rattle.text.specs.declared.separators.Separators.{Separators}
use Rattle.text.proofs.DocumentCut.{Splits, cut_splits}
use Rattle.gate.specs.Conditions.{used_by}
use Rattle.rewriting.specs.internal.CutOff.{LedStrictly, CutOff}

-- the bytes of each segment
abbrev pub texts : List Placed → List Bytes
texts gs = map (λ (g : Placed). g.segment) gs

module _ (old : Separators) where
  abbrev t : ℕ
  t = old.terminator

  -- the segments with their terminators, and the rest
  pub spelt : (at : ℕ) (s : Bytes) (gs : List Placed) (end : ℕ) (rest : Bytes) → LedStrictly old at s gs end rest
      → s ≡ closed t (texts gs) ++ rest
  spelt at s [] end rest l = l.1
  spelt at s (g ∷ gs) end rest l =
      let here : Splits old s (Whole g.segment l.0) = rw l.1 at (cut_splits old s) in
      here ∙ rw (append_assoc, spelt (at + length g.segment + 1 + 0) l.0 gs end rest l.3)

  -- where they end
  pub ends : (at : ℕ) (s : Bytes) (gs : List Placed) (end : ℕ) (rest : Bytes) → LedStrictly old at s gs end rest
      → end ≡ at + length (closed t (texts gs))
  ends at s [] end rest l = omega (arith, l.0)
  ends at s (g ∷ gs) end rest l =
      ends (at + length g.segment + 1 + 0) l.0 gs end rest l.3
      ∙ rw (length-append g.segment (t ∷ closed t (texts gs))) (omega arith)

  -- the used bytes are those of the segments
  used_from : (at : ℕ) (s : Bytes) (g : Placed) (gs : List Placed) (end : ℕ) (rest : Bytes) → LedStrictly old at s (g ∷ gs) end rest
      → used_by (g ∷ gs) ≡ at + length (closed t (texts (g ∷ gs)))
  used_from at s g [] end rest l = rw (l.2, length-append g.segment (t ∷ [])) (omega arith)
  used_from at s g (h ∷ gs) end rest l =
      used_from (at + length g.segment + 1 + 0) l.0 h gs end rest l.3
      ∙ rw (length-append g.segment (t ∷ closed t (texts (h ∷ gs)))) (omega arith)

  pub used_length : (s : Bytes) (gs : List Placed) (end : ℕ) (rest : Bytes) → LedStrictly old 0 s gs end rest
      → used_by gs ≡ length (closed t (texts gs))
  used_length s [] end rest l = refl
  used_length s (g ∷ gs) end rest l = used_from 0 s g gs end rest l ∙ omega arith

  pub used_taken : (s : Bytes) (gs : List Placed) (end : ℕ) (rest : Bytes) → LedStrictly old 0 s gs end rest
      → take (used_by gs) s ≡ closed t (texts gs)
  used_taken s gs end rest l =
      ap (take (used_by gs)) (spelt 0 s gs end rest l) ∙ take_at (closed t (texts gs)) rest (used_by gs) (sym (used_length s gs end rest l))

  pub used_within : (s : Bytes) (gs : List Placed) → CutOff old s gs → used_by gs ≤ length s
  used_within s gs c =
      let all = ap length (spelt 0 s gs c.end c.rest c.leads) ∙ length-append (closed t (texts gs)) c.rest in
      omega (arith, all, used_length s gs c.end c.rest c.leads)
