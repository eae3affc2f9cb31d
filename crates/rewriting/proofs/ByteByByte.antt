-- A segment is written byte by byte: what stands before BIN02 with the new separators, and BIN02 as it is.
-- Assumes nothing.
use Prim.Native.Nat.{ℕ, ◌+◌, ◌-◌, ◌≤◌, ◌<◌}
use mathlib.Core.Path.{◌≡◌, refl, sym, ap, ◌∙◌}
use mathlib.Core.Logic.{◌⊎◌, inl, inr}
use mathlib.Core.Bool.{true, cond}
use mathlib.Core.List.{[], ◌∷◌, ◌++◌, map, map-map, append-nil}
use native.Mathlib.Omega.{arith}
use lib.Dec.{T, eqb}
use lib.ListN.{length, take, drop, get_or, set, length-append, length-map}
use lib.Seq.{take-length, drop-length, take_at, drop_at, append_snoc}
use borrow.Author.Tests.{eq-eqb, ne_eqb}
use Rattle.text.specs.Bytes.{Bytes, bytes, every}
use Rattle.text.specs.Separators.{is_digit, is_id_byte, Fitted}
use Rattle.text.specs.Pieces.{pieces, joined}
use Rattle.text.specs.Bin.{bin_mark, count_in, attached_in, is_bin}
use Rattle.text.specs.View.{plain_view, view_of, written}
use Rattle.text.specs.Cut.{Whole, cut_of}
use Rattle.text.specs.Lookup.{attached_from}
use Rattle.text.specs.internal.Search.{Free}
use Rattle.text.specs.declared.separators.Separators.{Separators}
use Rattle.text.proofs.Bools.{first_of, second_of, passes}
use Rattle.text.proofs.Everys.{every_weaker}
use Rattle.text.proofs.Lists.{map-append}
use Rattle.text.proofs.Pieces.{rejoined, exchanged}
use Rattle.text.proofs.Bins.{bin_parts}
use Rattle.text.proofs.BinView.{view_bin, view_plain}
use Rattle.text.proofs.BinSpans.{attached_bin, attached_plain}
use Rattle.text.proofs.BinCut.{Plainly, cut_gives}
use Rattle.text.proofs.Serving.{serves_apart, digit_id_byte}
use Rattle.rewriting.specs.internal.Output.{put_at, stretch, byte_again}
use Rattle.rewriting.proofs.Stretches.{stretch_long, stretch_next, stretch_none}
use Rattle.rewriting.proofs.OutputSoFar.{SoFar, put_byte, so_far_none, so_far_room, so_far_length, so_far_all, so_far_more}

module _ (old new : Separators) where
  -- what a byte becomes within an element, and within a segment
  abbrev component_again : ℕ → ℕ
  component_again b = cond (eqb b old.component) new.component b

  abbrev inner_again_of : ℕ → ℕ
  inner_again_of b = cond (eqb b old.element) new.element (component_again b)

  piece_again : (piece : Bytes) → joined new.component (pieces old.component piece) ≡ map component_again piece
  piece_again piece = exchanged old.component new.component piece

  -- a segment that is cut at its separators, written again, is each of its bytes written again
  plain_inner : (segment : Bytes) → written new (plain_view old segment) ≡ map inner_again_of segment
  plain_inner segment =
      ap (joined new.element) (map-map (joined new.component) (pieces old.component) (pieces old.element segment))
      ∙ rejoined old.element new.element (λ p. joined new.component (pieces old.component p)) component_again refl
      (λ b p. piece_again (b ∷ p) ∙ ap (λ (l : Bytes). component_again b ∷ l) (sym (piece_again p))) segment

  inner_again : (s : Bytes) → Free old.terminator s → map inner_again_of s ≡ map (byte_again old new) s
  inner_again [] f = refl
  inner_again (b ∷ s) f = rw (ne_eqb b old.terminator f.0, inner_again s f.1)

  -- capitals and digits stay as they are
  ids_again : Fitted old → (s : Bytes) → T (every is_id_byte s) → map (byte_again old new) s ≡ s
  ids_again fit [] t = refl
  ids_again fit (b ∷ s) t =
      let id = first_of (is_id_byte b) (every is_id_byte s) t in
      rw (
        ne_eqb b old.element (serves_apart b old.element id fit.element_serves),
        ne_eqb b old.component (serves_apart b old.component id fit.component_serves),
        ne_eqb b old.terminator (serves_apart b old.terminator id fit.terminator_serves),
        ids_again fit s (second_of (is_id_byte b) (every is_id_byte s) t),
      )

  -- what stands before BIN02, if the segment is a whole BIN, and what stands from there on
  abbrev pub front : Bytes → Bytes
  front segment = take (attached_from old.element segment) segment

  abbrev pub back : Bytes → Bytes
  back segment = drop (attached_from old.element segment) segment

  separator_again : byte_again old new old.element ≡ new.element
  separator_again = rw (eq-eqb old.element old.element refl)

  pub terminator_again : Fitted old → byte_again old new old.terminator ≡ new.terminator
  terminator_again fit =
      rw (
        ne_eqb old.terminator old.element (λ e. fit.element_terminator (sym e)),
        ne_eqb old.terminator old.component (λ e. fit.component_terminator (sym e)),
        eq-eqb old.terminator old.terminator refl,
      )

  bin_again : Fitted old → (segment : Bytes) → is_bin old.element segment ≡ true
      → written new (view_of old segment) ≡ map (byte_again old new) (front segment) ++ back segment
  bin_again fit segment h =
      let e = old.element in
      let b = bin_parts e segment (rw h tt) in
      let d = count_in e segment in
      let p = attached_in e segment in
      let head = bin_mark e ++ (d ++ (e ∷ [])) in
      let whole : segment ≡ head ++ p = b.whole ∙ ap (λ (x : Bytes). bin_mark e ++ x) (sym (append_snoc d e p)) in
      let long : length head ≡ attached_from e segment = omega (arith, attached_bin e segment h, length-append d (e ∷ [])) in
      let f : front segment ≡ head = ap (take (attached_from e segment)) whole ∙ take_at head p (attached_from e segment) long in
      let k : back segment ≡ p = ap (drop (attached_from e segment)) whole ∙ drop_at head p (attached_from e segment) long in
      let sep = separator_again in
      let letters = ids_again fit (bytes "BIN") tt in
      let digits = ids_again fit d (every_weaker is_digit is_id_byte digit_id_byte d b.counted.digits) in
      let again : map (byte_again old new) head ≡ bin_mark new.element ++ (d ++ (new.element ∷ [])) =
      map-append (byte_again old new) (bytes "BIN" ++ (e ∷ [])) (d ++ (e ∷ []))
      ∙ (λ i. (letters i ++ (sep i ∷ [])) ++ map (byte_again old new) (d ++ (e ∷ [])))
      ∙ ap (λ (x : Bytes). bin_mark new.element ++ x) (map-append (byte_again old new) d (e ∷ []) ∙ (λ i. digits i ++ (sep i ∷ []))) in
      ap (written new) (view_bin old segment h)
      ∙ sym
      ((λ i. map (byte_again old new) (f i) ++ k i) ∙ ap (λ (x : Bytes). x ++ p) again
      ∙ ap (λ (x : Bytes). bin_mark new.element ++ x) (append_snoc d new.element p))

  -- a segment that was cut off, written again byte by byte
  pub segment_again : Fitted old → (s segment more : Bytes) → cut_of old s ≡ Whole segment more
      → written new (view_of old segment) ≡ map (byte_again old new) (front segment) ++ back segment
  segment_again fit s segment more cut = by (cut_gives old fit s segment more cut)
    where
      by : T (is_bin old.element segment) ⊎ Plainly old segment
          → written new (view_of old segment) ≡ map (byte_again old new) (front segment) ++ back segment
      by (inl b) = bin_again fit segment (passes (is_bin old.element segment) b)
      by (inr p) =
          ap (written new) (view_plain old segment p.no_bin) ∙ plain_inner segment ∙ inner_again segment p.free
          ∙ sym
          (rw (attached_plain old.element segment p.no_bin, take-length segment, drop-length segment) (append-nil (map (byte_again old new) segment)))

-- the bytes from `from` up to `to`, each changed by f, are written at the same places into what was `first`
module _ (f : ℕ → ℕ) (first s : Bytes) (from to : ℕ) where
  -- those before i are written
  pub record WrittenTo (output : Bytes) (i : ℕ) : Type 0 where
    pub inside : to ≤ length s
    pub so_far : SoFar first from (map f (stretch from to s)) output i (map f (stretch i to s))

  left_long : (i : ℕ) → to ≤ length s → length (map f (stretch i to s)) ≡ to - i
  left_long i l = length-map (stretch i to s) f ∙ stretch_long s to i l

  pub written_none : from ≤ to → to ≤ length s → to ≤ length first → WrittenTo first from
  written_none m l r = record { inside = l; so_far = so_far_none first from (map f (stretch from to s)) (omega (arith, left_long from l)) }

  module _ {output : Bytes} {i : ℕ} (w : WrittenTo output i) where
    pub written_inside : i < to → i < length output
    written_inside l = omega (arith, so_far_room w.so_far, so_far_length w.so_far, left_long i w.inside)

    pub written_more : i < to → WrittenTo (set output i (f (get_or s i 0))) (i + 1)
    written_more l = record {
      inside = w.inside;
      so_far =
          so_far_more w.so_far (f (get_or s i 0) ∷ []) (map f (stretch (i + 1) to s)) _ (i + 1) (ap (map f) (stretch_next s to i w.inside l))
          (put_byte output i (f (get_or s i 0)) (written_inside l)) refl;
    }

    pub written_all : to ≤ i → output ≡ put_at from (map f (stretch from to s)) first
    written_all l = so_far_all w.so_far (ap (map f) (stretch_none s to i l))
