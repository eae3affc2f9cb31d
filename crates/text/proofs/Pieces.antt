-- The laws of pieces: joining gives the bytes back, with another separator those with it in place of the old, no piece holds the separator, and pieces without it are cut again as they were.
-- Assumes nothing.
use Prim.Native.Nat.{ℕ, zero, suc, ◌<◌}
use mathlib.Core.Path.{◌≡◌, refl, sym, ap, ◌∙◌}
use mathlib.Core.Bool.{Bool, true, false, cond, ◌&&◌, ◌||◌}
use mathlib.Core.List.{List, [], ◌∷◌, ◌++◌, map, map-id, append_assoc}
use native.Mathlib.Omega.{arith}
use lib.Dec.{eqb}
use lib.ListN.{length, get_or}
use borrow.Author.Tests.{eq-eqb, ne_eqb, eqb-true, eqb-false}
use Rattle.text.specs.Bytes.{Bytes, every}
use Rattle.text.proofs.Bools.{or_false, and_assoc}
use Rattle.text.specs.Pieces.{before, pieces, joined, closed}
use Rattle.text.specs.internal.Search.{Free}

-- the byte stands in none of the pieces
abbrev pub Clean : ℕ → List Bytes → Type 0
Clean byte [] = Unit {0}
Clean byte (p ∷ ps) = Free byte p × Clean byte ps

-- there is a piece, be it empty
before_some : (t : Bool) (b : ℕ) (ps : List Bytes) → 0 < length (before t b ps)
before_some true b ps = omega arith
before_some false b [] = omega arith
before_some false b (p ∷ ps) = omega arith

pub pieces_some : (sep : ℕ) (s : Bytes) → 0 < length (pieces sep s)
pieces_some sep [] = omega arith
pieces_some sep (b ∷ s) = before_some (eqb b sep) b (pieces sep s)

-- bytes that are cut at one separator and joined with another: the one becomes the other, and every other byte is changed as f changes a piece
module _ (old new : ℕ) (f : Bytes → Bytes) (g : ℕ → ℕ) (none : f [] ≡ []) (more : (b : ℕ) (p : Bytes) → f (b ∷ p) ≡ g b ∷ f p) where
  rejoined_before : (t : Bool) (b : ℕ) (ps : List Bytes) → 0 < length ps
      → joined new (map f (before t b ps)) ≡ cond t new (g b) ∷ joined new (map f ps)
  rejoined_before t b [] l = absurd (omega arith)
  rejoined_before true b (p ∷ ps) l = rw none
  rejoined_before false b (p ∷ []) l = more b p
  rejoined_before false b (p ∷ (q ∷ ps)) l = rw (more b p)

  pub rejoined : (s : Bytes) → joined new (map f (pieces old s)) ≡ map (λ (b : ℕ). cond (eqb b old) new (g b)) s
  rejoined [] = none
  rejoined (b ∷ s) =
      rejoined_before (eqb b old) b (pieces old s) (pieces_some old s) ∙ ap (λ (l : Bytes). cond (eqb b old) new (g b) ∷ l) (rejoined s)

-- pieces as they are, joined with another separator
pub exchanged : (old new : ℕ) (s : Bytes) → joined new (pieces old s) ≡ map (λ (b : ℕ). cond (eqb b old) new b) s
exchanged old new s = ap (joined new) (sym (map-id (pieces old s))) ∙ rejoined old new (λ p. p) (λ b. b) refl (λ b p. refl) s

-- and with the same: joining gives the bytes back
same_byte : (sep b : ℕ) (t : Bool) → eqb b sep ≡ t → cond t sep b ≡ b
same_byte sep b true e = sym (eqb-true b sep e)
same_byte sep b false e = refl

same_bytes : (sep : ℕ) (s : Bytes) → map (λ (b : ℕ). cond (eqb b sep) sep b) s ≡ s
same_bytes sep [] = refl
same_bytes sep (b ∷ s) = rw (same_byte sep b (eqb b sep) refl, same_bytes sep s)

pub joined_pieces : (sep : ℕ) (s : Bytes) → joined sep (pieces sep s) ≡ s
joined_pieces sep s = exchanged sep sep s ∙ same_bytes sep s

-- no piece holds the separator
clean_before : (sep b : ℕ) (t : Bool) (ps : List Bytes) → eqb b sep ≡ t → Clean sep ps → Clean sep (before t b ps)
clean_before sep b true ps e c = (tt, c)
clean_before sep b false [] e c = ((eqb-false b sep e, tt), tt)
clean_before sep b false (p ∷ ps) e c = ((eqb-false b sep e, c.0), c.1)

pub pieces_clean : (sep : ℕ) (s : Bytes) → Clean sep (pieces sep s)
pieces_clean sep [] = (tt, tt)
pieces_clean sep (b ∷ s) = clean_before sep b (eqb b sep) (pieces sep s) refl (pieces_clean sep s)

pub clean_at : (byte : ℕ) (ps : List Bytes) (k : ℕ) → Clean byte ps → Free byte (get_or ps k [])
clean_at byte [] k c = tt
clean_at byte (p ∷ ps) zero c = c.0
clean_at byte (p ∷ ps) (suc k) c = clean_at byte ps k c.1

-- bytes without the separator are one piece
pub pieces_free : (sep : ℕ) (s : Bytes) → Free sep s → pieces sep s ≡ s ∷ []
pieces_free sep [] f = refl
pieces_free sep (b ∷ s) f = rw (ne_eqb b sep f.0, pieces_free sep s f.1)

-- what stands before the first separator is the first piece
pub pieces_cut : (sep : ℕ) (gap rest : Bytes) → Free sep gap → pieces sep (gap ++ sep ∷ rest) ≡ gap ∷ pieces sep rest
pieces_cut sep [] rest f = rw (eq-eqb sep sep refl)
pieces_cut sep (b ∷ gap) rest f = rw (ne_eqb b sep f.0, pieces_cut sep gap rest f.1)

-- one byte in front: a separator comes with a piece of its own, and any other byte changes the first piece alone
pub piece_cut : (sep b n : ℕ) (s : Bytes) → b ≡ sep → get_or (pieces sep (b ∷ s)) (suc n) [] ≡ get_or (pieces sep s) n []
piece_cut sep b n s e = rw (eq-eqb b sep e)

pub piece_kept : (sep b n : ℕ) (s : Bytes) → (b ≡ sep → ⊥) → get_or (pieces sep (b ∷ s)) (suc n) [] ≡ get_or (pieces sep s) (suc n) []
piece_kept sep b n s h = rw (ne_eqb b sep h) (by_pieces (pieces sep s))
  where
    by_pieces : (ps : List Bytes) → get_or (before false b ps) (suc n) [] ≡ get_or ps (suc n) []
    by_pieces [] = refl
    by_pieces (p ∷ ps) = refl

-- pieces that are closed already come first
pub pieces_closed : (sep : ℕ) (ps : List Bytes) (rest : Bytes) → Clean sep ps → pieces sep (closed sep ps ++ rest) ≡ ps ++ pieces sep rest
pieces_closed sep [] rest f = refl
pieces_closed sep (p ∷ ps) rest f = rw (append_assoc, pieces_cut sep p (closed sep ps ++ rest) f.0, pieces_closed sep ps rest f.1)

-- pieces without the separator are cut again where they were joined
pub pieces_joined : (sep : ℕ) (ps : List Bytes) → 0 < length ps → Clean sep ps → pieces sep (joined sep ps) ≡ ps
pieces_joined sep [] h c = absurd (omega arith)
pieces_joined sep (p ∷ []) h c = pieces_free sep p c.0
pieces_joined sep (p ∷ (q ∷ ps)) h c = rw (pieces_cut sep p (joined sep (q ∷ ps)) c.0, pieces_joined sep (q ∷ ps) (omega arith) c.1)

-- one piece more
pub closed_snoc : (sep : ℕ) (ps : List Bytes) (p : Bytes) → closed sep (ps ++ (p ∷ [])) ≡ closed sep ps ++ (p ++ sep ∷ [])
closed_snoc sep [] p = refl
closed_snoc sep (q ∷ ps) p = rw (append_assoc, closed_snoc sep ps p)

pub clean_snoc : (sep : ℕ) (ps : List Bytes) (p : Bytes) → Clean sep ps → Free sep p → Clean sep (ps ++ (p ∷ []))
clean_snoc sep [] p c f = (f, tt)
clean_snoc sep (q ∷ ps) p c f = (c.0, clean_snoc sep ps p c.1 f)

-- one byte more
pub free_snoc : (sep : ℕ) (s : Bytes) (b : ℕ) → Free sep s → (b ≡ sep → ⊥) → Free sep (s ++ (b ∷ []))
free_snoc sep [] b f h = (h, tt)
free_snoc sep (a ∷ s) b f h = (f.0, free_snoc sep s b f.1 h)

-- a test of the bytes of pieces, with one byte more in front
every_before : (f : ℕ → Bool) (t : Bool) (b : ℕ) (ps : List Bytes) → 0 < length ps
    → every (every f) (before t b ps) ≡ (f b || t) && every (every f) ps
every_before f t b [] h = absurd (omega arith)
every_before f true b (p ∷ ps) h = any_way (f b) (every f p && every (every f) ps)
  where
    any_way : (a x : Bool) → x ≡ (a || true) && x
    any_way true x = refl
    any_way false x = refl
every_before f false b (p ∷ ps) h = rw (or_false (f b)) (and_assoc (f b) (every f p) (every (every f) ps))

-- a test of the bytes of all pieces is one of all bytes but the separator
pub every_pieces : (f : ℕ → Bool) (sep : ℕ) (s : Bytes) → every (every f) (pieces sep s) ≡ every (λ (b : ℕ). f b || eqb b sep) s
every_pieces f sep [] = refl
every_pieces f sep (b ∷ s) =
    every_before f (eqb b sep) b (pieces sep s) (pieces_some sep s) ∙ ap (λ (t : Bool). (f b || eqb b sep) && t) (every_pieces f sep s)

-- the first piece
abbrev pub first_piece : ℕ → Bytes → Bytes
first_piece sep s = get_or (pieces sep s) 0 []
