-- The first piece of bytes against other bytes: whether the bytes start with the others.
-- Assumes nothing.
use Rattle.std.specs.Prelude.{slice_get}
use Rattle.std.specs.Cmp.Lexicographic.{pointwise}
use Rattle.std.proofs.lemmas.List.{length-take-le}
use Prim.Native.Nat.{ℕ, zero, suc, ◌≤◌, ◌<◌}
use mathlib.Core.Path.{◌≡◌, refl, sym, ap, ◌∙◌}
use mathlib.Core.Bool.{Bool, true, false, ◌&&◌}
use mathlib.Core.List.{List, [], ◌∷◌}
use native.Mathlib.Omega.{arith}
use lib.Dec.{eqb}
use lib.ListN.{length, take, drop, get_or}
use borrow.Author.Tests.{eq-eqb, ne_eqb, eqb-true}
use Rattle.text.specs.Bytes.{Bytes, same}
use Rattle.text.specs.Pieces.{before, pieces}
use Rattle.text.specs.internal.Search.{Free}
use Rattle.text.proofs.Bools.{and_false, and_true}
use Rattle.text.proofs.Pieces.{first_piece}
use Rattle.finding.specs.internal.Answers.{starts_with}
use Rattle.finding.specs.internal.PieceEnds.{ends_by}

-- fewer bytes than the others do not start with them
pub starts_short : (separator : ℕ) (id s : Bytes) → length s < length id → false ≡ starts_with separator id s
starts_short separator [] s h = absurd (omega arith)
starts_short separator (c ∷ id) [] h = refl
starts_short separator (c ∷ id) (b ∷ s) h = rw (← starts_short separator id s (omega arith)) (sym (and_false (eqb b c)))

-- the others do where the byte behind as many is a separator or they end there, and those before are the others
starts_compared : (separator : ℕ) (id s : Bytes) → length id ≤ length s
    → ends_by separator (slice_get (drop (length id) s) 0) && pointwise eqb (take (length id) s) id ≡ starts_with separator id s
starts_compared separator [] [] h = refl
starts_compared separator [] (b ∷ s) h = and_true (eqb b separator)
starts_compared separator (c ∷ id) [] h = absurd (omega arith)
starts_compared separator (c ∷ id) (b ∷ s) h =
    rw (← starts_compared separator id s (omega arith))
    (swapped (ends_by separator (slice_get (drop (length id) s) 0)) (eqb b c) (pointwise eqb (take (length id) s) id))
  where
    swapped : (x y z : Bool) → x && (y && z) ≡ y && (x && z)
    swapped true y z = refl
    swapped false y z = sym (and_false y)

pub starts_other_end : (separator : ℕ) (id s : Bytes) → length id ≤ length s → ends_by separator (slice_get (drop (length id) s) 0) ≡ false
    → false ≡ starts_with separator id s
starts_other_end separator id s h e = rw e at (starts_compared separator id s h)

pub starts_ended : (separator : ℕ) (id s : Bytes) → length id ≤ length s → ends_by separator (slice_get (drop (length id) s) 0) ≡ true
    → pointwise eqb (take (length id) s) id ≡ starts_with separator id s
starts_ended separator id s h e = rw e at (starts_compared separator id s h)

-- a byte differs: they do not
pub starts_other_byte : (separator : ℕ) (id s : Bytes) (i : ℕ) → i < length id → (get_or (take (length id) s) i 0 ≡ get_or id i 0 → ⊥)
    → false ≡ starts_with separator id s
starts_other_byte separator [] s i l h = absurd (omega arith)
starts_other_byte separator (c ∷ id) [] i l h = refl
starts_other_byte separator (c ∷ id) (b ∷ s) zero l h = rw (ne_eqb b c h)
starts_other_byte separator (c ∷ id) (b ∷ s) (suc i) l h = rw (← starts_other_byte separator id s i (omega arith) h) (sym (and_false (eqb b c)))

-- each byte agrees, and they may end there: they do
pointwise_agreed : (a b : Bytes) → length a ≡ length b → ((i : ℕ) → i < length b → get_or a i 0 ≡ get_or b i 0) → pointwise eqb a b ≡ true
pointwise_agreed [] [] e h = refl
pointwise_agreed [] (y ∷ b) e h = absurd (omega (arith, e))
pointwise_agreed (x ∷ a) [] e h = absurd (omega (arith, e))
pointwise_agreed (x ∷ a) (y ∷ b) e h = rw (eq-eqb x y (h 0 (omega arith))) (pointwise_agreed a b (omega (arith, e)) (λ i l. h (suc i) (omega arith)))

pub starts_agreed : (separator : ℕ) (id s : Bytes) → length id ≤ length s → ends_by separator (slice_get (drop (length id) s) 0) ≡ true
    → ((i : ℕ) → i < length id → get_or (take (length id) s) i 0 ≡ get_or id i 0) → true ≡ starts_with separator id s
starts_agreed separator id s h e agree =
    rw (pointwise_agreed (take (length id) s) id (length-take-le (length id) s h) agree) at (starts_ended separator id s h e)

-- the first piece is empty exactly where a separator comes first
first_none : (t : Bool) (b : ℕ) (ps : List Bytes) → t ≡ same (get_or (before t b ps) 0 []) []
first_none true b ps = refl
first_none false b [] = refl
first_none false b (p ∷ ps) = refl

-- a byte that is no separator agrees with the first piece's first, or does not
first_more : (separator b c : ℕ) (id : Bytes) (ps : List Bytes) (t : Bool) → eqb b separator ≡ t → (c ≡ separator → ⊥)
    → eqb b c && same (get_or ps 0 []) id ≡ same (get_or (before t b ps) 0 []) (c ∷ id)
first_more separator b c id ps true e h = rw (ne_eqb b c (λ q. h (sym q ∙ eqb-true b separator e)))
first_more separator b c id [] false e h = refl
first_more separator b c id (p ∷ ps) false e h = refl

-- bytes start with others, in which no separator stands, exactly where these are the first piece
pub starts_first : (separator : ℕ) (id s : Bytes) → Free separator id → starts_with separator id s ≡ same (first_piece separator s) id
starts_first separator [] [] f = refl
starts_first separator [] (b ∷ s) f = first_none (eqb b separator) b (pieces separator s)
starts_first separator (c ∷ id) [] f = refl
starts_first separator (c ∷ id) (b ∷ s) f =
    ap (λ (t : Bool). eqb b c && t) (starts_first separator id s f.1)
    ∙ first_more separator b c id (pieces separator s) (eqb b separator) refl f.0
