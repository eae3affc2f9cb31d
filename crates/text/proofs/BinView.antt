-- The view of a segment, of a whole BIN and of any other: writing gives the segment back; and which of its pieces are looked into.
-- Assumes nothing.
use Prim.Native.Nat.{ℕ, ◌≤◌}
use mathlib.Core.Path.{◌≡◌, refl, sym, ap, ◌∙◌}
use mathlib.Core.Bool.{Bool, true, false, cond}
use mathlib.Core.List.{[], ◌∷◌, ◌++◌, map}
use lib.Dec.{T}
use lib.ListN.{length, take}
use lib.Seq.{take_all}
use Rattle.text.specs.Bytes.{Bytes, bytes, every}
use Rattle.text.specs.Separators.{Fitted}
use Rattle.text.specs.Pieces.{pieces}
use Rattle.text.specs.Bin.{bin_mark, count_in, attached_in, is_bin}
use Rattle.text.specs.View.{Piece, View, plain_view, view_of, elements_of, bin_elements, written, element_of, names_bin, inspected}
use Rattle.text.specs.declared.separators.Separators.{Separators}
use Rattle.text.proofs.Everys.{every_take}
use Rattle.text.proofs.Sames.{same_equal}
use Rattle.text.proofs.Pieces.{pieces_free, pieces_cut}
use Rattle.text.proofs.Bins.{bin_parts}
use Rattle.text.proofs.View.{written_plain}
use Rattle.text.proofs.Serving.{id_bytes_free}

-- the view of a whole BIN
abbrev pub bin_view : Bytes → Bytes → View
bin_view count attached = (bytes "BIN" ∷ []) ∷ (count ∷ []) ∷ (attached ∷ []) ∷ []

module _ (q : Separators) (g : Bytes) where
  pub view_bin : is_bin q.element g ≡ true → view_of q g ≡ bin_view (count_in q.element g) (attached_in q.element g)
  unfolding view_of
  view_bin h = rw h

  pub view_plain : is_bin q.element g ≡ false → view_of q g ≡ plain_view q g
  unfolding view_of
  view_plain h = rw h

  -- writing gives the segment back
  pub written_view : written q (view_of q g) ≡ g
  written_view = by (is_bin q.element g) refl
    where
      by : (b : Bool) → is_bin q.element g ≡ b → written q (view_of q g) ≡ g
      by true h = ap (written q) (view_bin h) ∙ sym (bin_parts q.element g (rw h tt)).whole
      by false h = ap (written q) (view_plain h) ∙ written_plain q g

-- and of its elements
pub elements_bin : (e : ℕ) (g : Bytes) → is_bin e g ≡ true → elements_of e g ≡ bin_elements e g
unfolding elements_of
elements_bin e g h = rw h

pub elements_plain : (e : ℕ) (g : Bytes) → is_bin e g ≡ false → elements_of e g ≡ pieces e g
unfolding elements_of
elements_plain e g h = rw h

-- a piece that names BIN is that tag
pub names_bin_lem : (p : Piece) → T (names_bin p) → p ≡ bytes "BIN" ∷ []
names_bin_lem [] h = absurd h
names_bin_lem (t ∷ []) h = ap (λ (x : Bytes). x ∷ []) (same_equal t (bytes "BIN") h)
names_bin_lem (t ∷ (c ∷ cs)) h = absurd h

-- all pieces are looked into where the tag is another, or stands alone
pub inspected_other : (v : View) → names_bin (element_of v 0) ≡ false → inspected v ≡ v
unfolding inspected
inspected_other v h = rw h

pub inspected_few : (v : View) → length v ≤ 2 → inspected v ≡ v
unfolding inspected
inspected_few v l = by (names_bin (element_of v 0))
  where
    by : (b : Bool) → cond b (take 2 v) v ≡ v
    by true = take_all 2 v l
    by false = refl

-- of a BIN two
pub inspected_bin : (v : View) → names_bin (element_of v 0) ≡ true → inspected v ≡ take 2 v
unfolding inspected
inspected_bin v h = rw h

-- a test that every piece passes
pub inspected_every : (f : Piece → Bool) (v : View) → T (every f v) → T (every f (inspected v))
unfolding inspected
inspected_every f v h = by (names_bin (element_of v 0))
  where
    by : (b : Bool) → T (every f (cond b (take 2 v) v))
    by true = every_take f 2 v h
    by false = h

-- the pieces of bytes that begin like a BIN
pub plain_marked : (q : Separators) → Fitted q → (y : Bytes)
    → plain_view q (bin_mark q.element ++ y) ≡ (bytes "BIN" ∷ []) ∷ map (pieces q.component) (pieces q.element y)
plain_marked q fit y =
    ap (map (pieces q.component)) (pieces_cut q.element (bytes "BIN") y (id_bytes_free q.element fit.element_serves (bytes "BIN") tt))
    ∙ ap (λ (p : Piece). p ∷ map (pieces q.component) (pieces q.element y))
    (pieces_free q.component (bytes "BIN") (id_bytes_free q.component fit.component_serves (bytes "BIN") tt))
