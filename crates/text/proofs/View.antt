-- The laws of segments that are cut at their separators: writing gives the segment back, no separator is left, and a view without separators is
-- seen again as it was.
-- Assumes nothing.
use Prim.Native.Nat.{ℕ}
use mathlib.Core.Path.{◌≡◌, refl, sym, ap, ◌∙◌}
use mathlib.Core.Bool.{Bool, true, false, not, ◌&&◌, ◌||◌}
use mathlib.Core.List.{List, [], ◌∷◌, ◌++◌, map}
use lib.Dec.{T, eqb, ltb, ltb→lt, lt→ltb, T_not, eqb_refl}
use lib.ListN.{length, length-map}
use borrow.Author.Tests.{ne_eqb}
use Rattle.text.specs.Bytes.{Bytes, every}
use Rattle.text.specs.Separators.{may_serve, fit_separators, Fitted, is_separator}
use Rattle.text.specs.Pieces.{before, pieces, joined}
use Rattle.text.proofs.Pieces.{Clean, pieces_some, joined_pieces, pieces_clean, pieces_joined}
use Rattle.text.specs.internal.Search.{Free}
use Rattle.text.specs.View.{Piece, View, plain_view, written}
use Rattle.text.specs.declared.separators.Separators.{Separators}
use Rattle.text.proofs.Bools.{both, first_of, second_of, or_left, or_right, apart}

-- no separator is left in the view
abbrev pub unseparated : Separators → View → Bool
unseparated q v = every (every (every (λ (b : ℕ). not (is_separator q b)))) v

-- a view that segments can have: it has a tag, and every piece has a component, be it empty
abbrev pub well_formed : View → Bool
well_formed v = ltb 0 (length v) && every (λ (p : Piece). ltb 0 (length p)) v

-- the byte stands in no component of the view
abbrev pub CleanView : ℕ → View → Type 0
CleanView b [] = Unit {0}
CleanView b (p ∷ v) = Clean b p × CleanView b v

-- what a cut keeps out of bytes it keeps out of their pieces, and what joining keeps out
free_before : (x b : ℕ) (t : Bool) (ps : List Bytes) → (b ≡ x → ⊥) → Clean x ps → Clean x (before t b ps)
free_before x b true ps h c = (tt, c)
free_before x b false [] h c = ((h, tt), tt)
free_before x b false (p ∷ ps) h c = ((h, c.0), c.1)

pub free_pieces : (sep x : ℕ) (s : Bytes) → Free x s → Clean x (pieces sep s)
free_pieces sep x [] f = (tt, tt)
free_pieces sep x (b ∷ s) f = free_before x b (eqb b sep) (pieces sep s) f.0 (free_pieces sep x s f.1)

pub free_append : (x : ℕ) (s t : Bytes) → Free x s → Free x t → Free x (s ++ t)
free_append x [] t f g = g
free_append x (b ∷ s) t f g = (f.0, free_append x s t f.1 g)

pub free_joined : (sep x : ℕ) (ps : List Bytes) → (sep ≡ x → ⊥) → Clean x ps → Free x (joined sep ps)
free_joined sep x [] h c = tt
free_joined sep x (p ∷ []) h c = c.0
free_joined sep x (p ∷ (q ∷ ps)) h c = free_append x p (sep ∷ joined sep (q ∷ ps)) c.0 (h, free_joined sep x (q ∷ ps) h c.1)

-- the view of a segment without the byte, and of any segment as to its own separators
view_free : (c x : ℕ) (ps : List Bytes) → Clean x ps → CleanView x (map (pieces c) ps)
view_free c x [] f = tt
view_free c x (p ∷ ps) f = (free_pieces c x p f.0, view_free c x ps f.1)

view_components : (c : ℕ) (ps : List Bytes) → CleanView c (map (pieces c) ps)
view_components c [] = tt
view_components c (p ∷ ps) = (pieces_clean c p, view_components c ps)

-- the test and the three facts
no_separator_lem : (q : Separators) (b : ℕ) → (b ≡ q.element → ⊥) → (b ≡ q.component → ⊥) → (b ≡ q.terminator → ⊥) → T (not (is_separator q b))
no_separator_lem q b e c t = rw (ne_eqb b q.element e, ne_eqb b q.component c, ne_eqb b q.terminator t) tt

unseparated_piece : (q : Separators) (p : Piece) → Clean q.element p → Clean q.component p → Clean q.terminator p
    → T (every (every (λ (b : ℕ). not (is_separator q b))) p)
unseparated_piece q [] e c t = tt
unseparated_piece q (s ∷ p) e c t =
    both (every (λ (b : ℕ). not (is_separator q b)) s) (every (every (λ (b : ℕ). not (is_separator q b))) p) (bytes s e.0 c.0 t.0)
    (unseparated_piece q p e.1 c.1 t.1)
  where
    bytes : (s : Bytes) → Free q.element s → Free q.component s → Free q.terminator s → T (every (λ (b : ℕ). not (is_separator q b)) s)
    bytes [] e c t = tt
    bytes (b ∷ s) e c t =
        both (not (is_separator q b)) (every (λ (b : ℕ). not (is_separator q b)) s) (no_separator_lem q b e.0 c.0 t.0) (bytes s e.1 c.1 t.1)

pub clean_unseparated : (q : Separators) (v : View) → CleanView q.element v → CleanView q.component v → CleanView q.terminator v
    → T (unseparated q v)
clean_unseparated q [] e c t = tt
clean_unseparated q (p ∷ v) e c t =
    both (every (every (λ (b : ℕ). not (is_separator q b))) p) (unseparated q v) (unseparated_piece q p e.0 c.0 t.0)
    (clean_unseparated q v e.1 c.1 t.1)

-- and back, for each byte that the test of separators finds
module _ (q : Separators) (x : ℕ) (found : T (is_separator q x)) where
  free_if : (s : Bytes) → T (every (λ (b : ℕ). not (is_separator q b)) s) → Free x s
  free_if [] h = tt
  free_if (b ∷ s) h =
      let n = first_of (not (is_separator q b)) (every (λ (b : ℕ). not (is_separator q b)) s) h in
      (λ e. T_not (is_separator q b) n (rw e found), free_if s (second_of (not (is_separator q b)) (every (λ (b : ℕ). not (is_separator q b)) s) h))

  clean_if : (p : Piece) → T (every (every (λ (b : ℕ). not (is_separator q b))) p) → Clean x p
  clean_if [] h = tt
  clean_if (s ∷ p) h = (
    free_if s (first_of (every (λ (b : ℕ). not (is_separator q b)) s) (every (every (λ (b : ℕ). not (is_separator q b))) p) h),
    clean_if p (second_of (every (λ (b : ℕ). not (is_separator q b)) s) (every (every (λ (b : ℕ). not (is_separator q b))) p) h),
  )

  pub unseparated_clean : (v : View) → T (unseparated q v) → CleanView x v
  unseparated_clean [] h = tt
  unseparated_clean (p ∷ v) h = (
    clean_if p (first_of (every (every (λ (b : ℕ). not (is_separator q b))) p) (unseparated q v) h),
    unseparated_clean v (second_of (every (every (λ (b : ℕ). not (is_separator q b))) p) (unseparated q v) h),
  )

module _ (q : Separators) where
  abbrev e : ℕ
  e = q.element

  abbrev c : ℕ
  c = q.component

  abbrev t : ℕ
  t = q.terminator

  -- each separator is one
  pub element_separates : T (is_separator q q.element)
  element_separates = or_left (eqb e e || eqb e c) (eqb e t) (or_left (eqb e e) (eqb e c) (eqb_refl e))

  pub component_separates : T (is_separator q q.component)
  component_separates = or_left (eqb c e || eqb c c) (eqb c t) (or_right (eqb c e) (eqb c c) (eqb_refl c))

  pub terminator_separates : T (is_separator q q.terminator)
  terminator_separates = or_right (eqb t e || eqb t c) (eqb t t) (eqb_refl t)

  -- writing a view gives the segment back
  pub joined_each : (ps : List Bytes) → map (joined q.component) (map (pieces q.component) ps) ≡ ps
  joined_each [] = refl
  joined_each (p ∷ ps) = rw (joined_pieces q.component p, joined_each ps)

  pub written_plain : (segment : Bytes) → written q (plain_view q segment) ≡ segment
  written_plain segment = rw (joined_each (pieces q.element segment)) (joined_pieces q.element segment)

  -- no separator is left in the view of a segment
  pub plain_unseparated : (segment : Bytes) → Free q.terminator segment → T (unseparated q (plain_view q segment))
  plain_unseparated segment f =
      clean_unseparated q (plain_view q segment) (view_free q.component q.element (pieces q.element segment) (pieces_clean q.element segment))
      (view_components q.component (pieces q.element segment))
      (view_free q.component q.terminator (pieces q.element segment) (free_pieces q.element q.terminator segment f))

  -- every piece of it has a component
  pieces_each : (ps : List Bytes) → T (every (λ (p : Piece). ltb 0 (length p)) (map (pieces q.component) ps))
  pieces_each [] = tt
  pieces_each (p ∷ ps) =
      both (ltb 0 (length (pieces q.component p))) (every (λ (p : Piece). ltb 0 (length p)) (map (pieces q.component) ps))
      (lt→ltb 0 (length (pieces q.component p)) (pieces_some q.component p)) (pieces_each ps)

  pub plain_well_formed : (segment : Bytes) → T (well_formed (plain_view q segment))
  plain_well_formed segment =
      both (ltb 0 (length (plain_view q segment))) (every (λ (p : Piece). ltb 0 (length p)) (plain_view q segment))
      (lt→ltb 0 (length (plain_view q segment)) (rw (length-map (pieces q.element segment) (pieces q.component)) (pieces_some q.element segment)))
      (pieces_each (pieces q.element segment))

pub fitted : (q : Separators) → T (fit_separators q) → Fitted q
fitted q h =
    let a = may_serve q.element in
    let b = may_serve q.component in
    let c = may_serve q.terminator in
    let d = not (eqb q.element q.component) in
    let e = not (eqb q.element q.terminator) in
    let f = not (eqb q.component q.terminator) in
    let h5 = first_of (a && b && c && d && e) f h in
    let h4 = first_of (a && b && c && d) e h5 in
    let h3 = first_of (a && b && c) d h4 in
    let h2 = first_of (a && b) c h3 in
    record {
      element_serves = first_of a b h2;
      component_serves = second_of a b h2;
      terminator_serves = second_of (a && b) c h3;
      element_component = apart q.element q.component (second_of (a && b && c) d h4);
      element_terminator = apart q.element q.terminator (second_of (a && b && c && d) e h5);
      component_terminator = apart q.component q.terminator (second_of (a && b && c && d && e) f h);
    }

-- a view without separators is written and seen again as it was, where the separators differ
module _ (q : Separators) (fit : Fitted q) where
  joined_clean : (x : ℕ) → (q.component ≡ x → ⊥) → (v : View) → CleanView x v → Clean x (map (joined q.component) v)
  joined_clean x h [] f = tt
  joined_clean x h (p ∷ v) f = (free_joined q.component x p h f.0, joined_clean x h v f.1)

  seen_each : (v : View) → T (every (λ (p : Piece). ltb 0 (length p)) v) → CleanView q.component v
      → map (pieces q.component) (map (joined q.component) v) ≡ v
  seen_each [] w f = refl
  seen_each (p ∷ v) w f =
      let here = ltb→lt 0 (length p) (first_of (ltb 0 (length p)) (every (λ (p : Piece). ltb 0 (length p)) v) w) in
      rw (pieces_joined q.component p here f.0, seen_each v (second_of (ltb 0 (length p)) (every (λ (p : Piece). ltb 0 (length p)) v) w) f.1)

  pub plain_written : (v : View) → T (well_formed v) → T (unseparated q v) → plain_view q (written q v) ≡ v
  plain_written v w u =
      let some = ltb→lt 0 (length v) (first_of (ltb 0 (length v)) (every (λ (p : Piece). ltb 0 (length p)) v) w) in
      let clean = joined_clean q.element (λ e. fit.element_component (sym e)) v (unseparated_clean q q.element (element_separates q) v u) in
      ap (map (pieces q.component))
      (pieces_joined q.element (map (joined q.component) v) (rw (length-map v (joined q.component)) some) clean)
      ∙ seen_each v (second_of (ltb 0 (length v)) (every (λ (p : Piece). ltb 0 (length p)) v) w)
      (unseparated_clean q q.component (component_separates q) v u)

  -- and no terminator stands in what is written
  pub written_free : (v : View) → T (unseparated q v) → Free q.terminator (written q v)
  written_free v u =
      free_joined q.element q.terminator (map (joined q.component) v) fit.element_terminator
      (joined_clean q.terminator fit.component_terminator v (unseparated_clean q q.terminator (terminator_separates q) v u))
