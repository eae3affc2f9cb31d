-- When a piece is present, and how it ends: by its bytes.
-- Assumes nothing.
use Prim.Native.Nat.{ℕ, suc, ◌<◌}
use mathlib.Core.Path.{◌≡◌, refl, sym, ◌∙◌}
use mathlib.Core.Bool.{Bool, true, false, not}
use mathlib.Core.List.{List, [], ◌∷◌}
use native.Mathlib.Omega.{arith}
use lib.Dec.{eqb, leb}
use lib.ListN.{length}
use borrow.Author.Tests.{le-leb}
use Rattle.text.specs.Bytes.{Bytes}
use Rattle.text.specs.Pieces.{before, pieces}
use Rattle.text.specs.View.{Piece, present}
use Rattle.text.proofs.Pieces.{pieces_some}
use Rattle.elements.specs.Rules.{last_filled}

-- the list has a first
abbrev pub some : {A : Type 0} → List A → Bool
some [] = false
some (x ∷ l) = true

pub some_length : {A : Type 0} (l : List A) → leb 1 (length l) ≡ some l
some_length [] = refl
some_length (x ∷ l) = le-leb 1 (suc (length l)) (omega arith)

-- a piece is present where it has a byte, be it a component separator
present_before : (t : Bool) (b : ℕ) (ps : Piece) → 0 < length ps → present (before t b ps) ≡ true
present_before true b [] l = absurd (omega arith)
present_before true b (p ∷ ps) l = refl
present_before false b [] l = absurd (omega arith)
present_before false b (p ∷ ps) l = refl

pub present_pieces : (c : ℕ) (p : Bytes) → present (pieces c p) ≡ some p
present_pieces c [] = refl
present_pieces c (b ∷ p) = present_before (eqb b c) b (pieces c p) (pieces_some c p)

pub present_single : (p : Bytes) → present (p ∷ []) ≡ some p
present_single [] = refl
present_single (b ∷ p) = refl

-- the last component has a byte, where `hollow` tells whether the bytes before the part leave it empty
abbrev pub filled_behind : ℕ → Bool → Bytes → Bool
filled_behind c hollow [] = not hollow
filled_behind c hollow (b ∷ p) = filled_behind c (eqb b c) p

last_tail : (x : Bytes) (ps : Piece) → 0 < length ps → last_filled (x ∷ ps) ≡ last_filled ps
last_tail x [] l = absurd (omega arith)
last_tail x (p ∷ ps) l = refl

last_more : (a b : ℕ) (ps : Piece) → 0 < length ps → last_filled (before false a (before false b ps)) ≡ last_filled (before false b ps)
last_more a b [] l = absurd (omega arith)
last_more a b (p ∷ []) l = le-leb 1 (suc (suc (length p))) (omega arith) ∙ sym (le-leb 1 (suc (length p)) (omega arith))
last_more a b (p ∷ (r ∷ ps)) l = refl

-- both for a part that starts a component and for one that goes on with it
record Last (c : ℕ) (p : Bytes) : Type 0 where
  fresh : last_filled (pieces c p) ≡ filled_behind c true p
  behind : (a : ℕ) → last_filled (before false a (pieces c p)) ≡ filled_behind c false p

module _ (c : ℕ) (p : Bytes) (l : Last c p) where
  fresh_more : (t : Bool) (b : ℕ) → last_filled (before t b (pieces c p)) ≡ filled_behind c t p
  fresh_more true b = last_tail [] (pieces c p) (pieces_some c p) ∙ l.fresh
  fresh_more false b = l.behind b

  behind_more : (t : Bool) (a b : ℕ) → last_filled (before false a (before t b (pieces c p))) ≡ filled_behind c t p
  behind_more true a b = last_tail (a ∷ []) (pieces c p) (pieces_some c p) ∙ l.fresh
  behind_more false a b = last_more a b (pieces c p) (pieces_some c p) ∙ l.behind b

last : (c : ℕ) (p : Bytes) → Last c p
last c [] = record { fresh = refl; behind = λ a. le-leb 1 1 (omega arith) }
last c (b ∷ p) = record { fresh = fresh_more c p (last c p) (eqb b c) b; behind = λ a. behind_more c p (last c p) (eqb b c) a b }

pub last_pieces : (c : ℕ) (p : Bytes) → last_filled (pieces c p) ≡ filled_behind c true p
last_pieces c p = (last c p).fresh
