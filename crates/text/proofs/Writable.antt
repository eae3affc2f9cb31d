-- A view that can be written with these separators: it is cut off whole and seen again as it was. What stands above uses these laws and does not
-- look into `Writable`.
-- Assumes nothing.
use Prim.Native.Nat.{ℕ, ◌≤◌, ◌<◌}
use mathlib.Core.Path.{◌≡◌, refl, sym, ap, subst, ◌∙◌}
use mathlib.Core.Logic.{◌⊎◌, inl, inr}
use mathlib.Core.Bool.{Bool, true, false, not, ◌&&◌, ◌||◌}
use mathlib.Core.List.{List, [], ◌∷◌, ◌++◌, map, append_assoc, append-nil}
use native.Mathlib.Omega.{arith}
use lib.Dec.{T}
use lib.ListN.{length, drop, length-map}
use Rattle.text.specs.Bytes.{Bytes, bytes}
use Rattle.text.specs.Separators.{is_digit, is_id_byte, may_serve, Fitted}
use Rattle.text.specs.Pieces.{pieces, joined}
use Rattle.text.specs.Bin.{bin_mark, begins_bin, count_in, attached_in, counts, is_bin}
use Rattle.text.specs.View.{Piece, View, plain_view, view_of, written, element_of, names_bin, inspected}
use Rattle.text.specs.Cut.{Whole, behind, cut_of}
use Rattle.text.specs.internal.Search.{Free}
use Rattle.text.specs.declared.separators.Separators.{Separators}
use Rattle.text.proofs.Bools.{first_of, second_of, passes, fails, not_passes}
use Rattle.text.proofs.Everys.{every_weaker}
use Rattle.text.proofs.Pieces.{pieces_some, joined_pieces}
use Rattle.text.proofs.Bins.{Counts, counts_told, counts_passes, bin_parts, begins_mark, mark_begins, bin_made, count_made, attached_made, bin_begins}
use Rattle.text.proofs.View.{unseparated, well_formed, plain_unseparated, plain_well_formed, plain_written, written_free, CleanView, clean_unseparated}
use Rattle.text.proofs.BinView.{bin_view, view_bin, view_plain, names_bin_lem, inspected_other, inspected_few, inspected_bin, plain_marked}
use Rattle.text.proofs.Serving.{id_bytes_free, digit_id_byte}
use Rattle.text.proofs.CountedCut.{counts_digits, counted_whole}
use Rattle.text.proofs.DocumentCut.{cut_marked, cut_whole, mark_before}
use Rattle.text.proofs.BinCut.{Plainly, cut_gives}

-- the pieces behind the tag are a count and what it counts, of one component each
abbrev pub counts_pieces : Piece → Piece → Bool
counts_pieces [] p = false
counts_pieces (d ∷ (c ∷ cs)) p = false
counts_pieces (d ∷ []) [] = false
counts_pieces (d ∷ []) (p ∷ []) = counts d p
counts_pieces (d ∷ []) (p ∷ (c ∷ cs)) = false

-- where the tag is BIN, and an element follows, they are
abbrev pub well_counted : View → Bool
well_counted [] = true
well_counted (tag ∷ []) = true
well_counted (tag ∷ (d ∷ [])) = not (names_bin tag)
well_counted (tag ∷ (d ∷ (p ∷ []))) = not (names_bin tag) || counts_pieces d p
well_counted (tag ∷ (d ∷ (p ∷ (r ∷ v)))) = not (names_bin tag)

-- as one test: every piece has a component, no piece that is looked into holds a separator, and a BIN is counted
abbrev pub writes : Separators → View → Bool
writes q v = well_formed v && unseparated q (inspected v) && well_counted v

pub record Writable (q : Separators) (v : View) : Type 0 where
  pub formed : T (well_formed v)
  pub bare : T (unseparated q (inspected v))
  pub counted : T (well_counted v)

pub writes_writable : (q : Separators) (v : View) → T (writes q v) → Writable q v
writes_writable q v h =
    let two = first_of (well_formed v && unseparated q (inspected v)) (well_counted v) h in
    record {
      formed = first_of (well_formed v) (unseparated q (inspected v)) two;
      bare = second_of (well_formed v) (unseparated q (inspected v)) two;
      counted = second_of (well_formed v && unseparated q (inspected v)) (well_counted v) h;
    }

-- a view that can be written with one set can be written with another, none of which stands where it is looked into
pub writable_again : (old new : Separators) (v : View) → Writable old v → T (unseparated new (inspected v)) → Writable new v
writable_again old new v w u = record { formed = w.formed; bare = u; counted = w.counted }

-- such a view is that of a whole BIN, or has another tag, or nothing but a tag
record OfBin (v : View) : Type 0 where
  count : Bytes
  attached : Bytes
  is : v ≡ bin_view count attached
  counts : Counts count attached

abbrev Other : View → Type 0
Other v = (names_bin (element_of v 0) ≡ false) ⊎ (length v ≤ 1)

of_pieces : (tag d p : Piece) → T (names_bin tag) → T (counts_pieces d p) → OfBin (tag ∷ d ∷ p ∷ [])
of_pieces tag [] p n h = absurd h
of_pieces tag (d ∷ (c ∷ cs)) p n h = absurd h
of_pieces tag (d ∷ []) [] n h = absurd h
of_pieces tag (d ∷ []) (p ∷ []) n h =
    record { count = d; attached = p; is = ap (λ (t : Piece). t ∷ (d ∷ []) ∷ (p ∷ []) ∷ []) (names_bin_lem tag n); counts = counts_told d p h }
of_pieces tag (d ∷ []) (p ∷ (c ∷ cs)) n h = absurd h

kinds : (v : View) → T (well_counted v) → OfBin v ⊎ Other v
kinds [] h = inr (inr (omega arith))
kinds (tag ∷ []) h = inr (inr (omega arith))
kinds (tag ∷ (d ∷ [])) h = inr (inl (not_passes (names_bin tag) h))
kinds (tag ∷ (d ∷ (p ∷ []))) h = by (names_bin tag) refl h
  where
    by : (b : Bool) → names_bin tag ≡ b → T (not b || counts_pieces d p) → OfBin (tag ∷ d ∷ p ∷ []) ⊎ Other (tag ∷ d ∷ p ∷ [])
    by true n h = inl (of_pieces tag d p (rw n tt) h)
    by false n h = inr (inl n)
kinds (tag ∷ (d ∷ (p ∷ (r ∷ v)))) h = inr (inl (not_passes (names_bin tag) h))

other_inspected : (v : View) → Other v → inspected v ≡ v
other_inspected v (inl h) = inspected_other v h
other_inspected v (inr h) = inspected_few v (omega arith)

-- two pieces or more, of which the first is the tag
two_pieces : (v w : View) → v ≡ (bytes "BIN" ∷ []) ∷ w → 0 < length w → Other v → ⊥
two_pieces v w e l (inl h) = subst (λ (b : Bool). T b) (sym (ap (λ (x : View). names_bin (element_of x 0)) e) ∙ h) tt
two_pieces v w e l (inr h) = omega (arith, ap length e)

module _ (q : Separators) (fit : Fitted q) where
  -- another view, written, does not begin like a BIN
  module _ (v : View) (formed : T (well_formed v)) (bare : T (unseparated q v)) (other : Other v) where
    other_begins : (x : Bytes) → begins_bin q.element (written q v ++ q.terminator ∷ x) ≡ false
    other_begins x =
        fails (begins_bin q.element (written q v ++ q.terminator ∷ x))
        (λ h.
        let w = written q v in
        let begins : T (begins_bin q.element w) = rw (append-nil w) at (mark_before q fit w x [] h) in
        let y = drop 4 w in
        let e : v ≡ (bytes "BIN" ∷ []) ∷ map (pieces q.component) (pieces q.element y) =
        sym (plain_written q fit v formed bare) ∙ ap (plain_view q) (begins_mark q.element w begins) ∙ plain_marked q fit y in
        two_pieces v (map (pieces q.component) (pieces q.element y)) e
        (rw (length-map (pieces q.element y) (pieces q.component)) (pieces_some q.element y)) other)

    other_cut : (x : Bytes) → cut_of q (written q v ++ q.terminator ∷ x) ≡ Whole (written q v) x
    other_cut x = cut_whole q (written q v) x (other_begins x) (written_free q fit v bare)

    other_seen : view_of q (written q v) ≡ v
    other_seen =
        view_plain q (written q v)
        (fails (is_bin q.element (written q v))
        (λ h. subst (λ (b : Bool). T b) (sym (bin_begins q.element (written q v) (q.terminator ∷ []) h) ∙ other_begins []) tt))
        ∙ plain_written q fit v formed bare

  -- a BIN, written, is cut by its count
  count_free : (d p : Bytes) → Counts d p → Free q.element d
  count_free d p c = id_bytes_free q.element fit.element_serves d (every_weaker is_digit is_id_byte digit_id_byte d c.digits)

  pub bin_cut : (d p x : Bytes) → Counts d p → cut_of q (written q (bin_view d p) ++ q.terminator ∷ x) ≡ Whole (written q (bin_view d p)) x
  bin_cut d p x c =
      ap (λ (y : Bytes). cut_of q (bin_mark q.element ++ y)) (append_assoc d (q.element ∷ p) (q.terminator ∷ x))
      ∙ cut_marked q (d ++ q.element ∷ (p ++ q.terminator ∷ x))
      ∙ ap (behind (bin_mark q.element)) (counted_whole q d p x (count_free d p c) (counts_digits c) c.value)

  pub bin_seen : (d p : Bytes) → Counts d p → view_of q (written q (bin_view d p)) ≡ bin_view d p
  bin_seen d p c =
      let f = count_free d p c in
      view_bin q (written q (bin_view d p)) (bin_made q.element d p f c)
      ∙ (λ i. bin_view (count_made q.element d p f i) (attached_made q.element d p f i))

  module _ (v : View) (w : Writable q v) where
    -- what is written is cut off whole, whatever follows,
    pub writable_cut : (x : Bytes) → cut_of q (written q v ++ q.terminator ∷ x) ≡ Whole (written q v) x
    writable_cut x = by (kinds v w.counted)
      where
        by : OfBin v ⊎ Other v → cut_of q (written q v ++ q.terminator ∷ x) ≡ Whole (written q v) x
        by (inl b) = rw b.is (bin_cut b.count b.attached x b.counts)
        by (inr o) = other_cut v w.formed (rw (other_inspected v o) at w.bare) o x

    -- and seen again as it was
    pub writable_seen : view_of q (written q v) ≡ v
    writable_seen = by (kinds v w.counted)
      where
        by : OfBin v ⊎ Other v → view_of q (written q v) ≡ v
        by (inl b) = rw b.is (bin_seen b.count b.attached b.counts)
        by (inr o) = other_seen v w.formed (rw (other_inspected v o) at w.bare) o

  -- a segment that was cut can be written again
  bin_bare : (d p : Bytes) → Counts d p → T (unseparated q (inspected (bin_view d p)))
  bin_bare d p c =
      rw (inspected_bin (bin_view d p) refl)
      (clean_unseparated q ((bytes "BIN" ∷ []) ∷ (d ∷ []) ∷ []) (clean q.element fit.element_serves) (clean q.component fit.component_serves)
      (clean q.terminator fit.terminator_serves))
    where
      clean : (x : ℕ) → T (may_serve x) → CleanView x ((bytes "BIN" ∷ []) ∷ (d ∷ []) ∷ [])
      clean x m = ((id_bytes_free x m (bytes "BIN") tt, tt), ((id_bytes_free x m d (every_weaker is_digit is_id_byte digit_id_byte d c.digits), tt), tt))

  -- a plain one has another tag, or nothing but a tag
  plain_other : (g : Bytes) → Plainly q g → Other (plain_view q g)
  plain_other g p = by (pieces q.element g) (joined_pieces q.element g)
    where
      by : (ps : List Bytes) → joined q.element ps ≡ g → Other (map (pieces q.component) ps)
      by [] e = inr (omega arith)
      by (t ∷ []) e = inr (omega arith)
      by (t ∷ (d ∷ ps)) e =
          inl
          (fails (names_bin (pieces q.component t))
          (λ h.
          let tag : t ≡ bytes "BIN" =
          sym (joined_pieces q.component t) ∙ ap (joined q.component) (names_bin_lem (pieces q.component t) h) in
          let marked : g ≡ bin_mark q.element ++ joined q.element (d ∷ ps) =
          sym e ∙ ap (λ (x : Bytes). x ++ q.element ∷ joined q.element (d ∷ ps)) tag in
          subst (λ (b : Bool). T b)
          (sym (ap (λ (x : Bytes). begins_bin q.element (x ++ q.terminator ∷ [])) marked
          ∙ mark_begins q.element (joined q.element (d ∷ ps) ++ q.terminator ∷ [])) ∙ p.begins []) tt))

  other_counted : (v : View) → Other v → T (well_counted v)
  other_counted [] o = tt
  other_counted (tag ∷ []) o = tt
  other_counted (tag ∷ (d ∷ [])) (inl h) = rw h tt
  other_counted (tag ∷ (d ∷ [])) (inr l) = absurd (omega arith)
  other_counted (tag ∷ (d ∷ (p ∷ []))) (inl h) = rw h tt
  other_counted (tag ∷ (d ∷ (p ∷ []))) (inr l) = absurd (omega arith)
  other_counted (tag ∷ (d ∷ (p ∷ (r ∷ v)))) (inl h) = rw h tt
  other_counted (tag ∷ (d ∷ (p ∷ (r ∷ v)))) (inr l) = absurd (omega arith)

  -- so all of it is looked into
  pub plain_inspected : (g : Bytes) → Plainly q g → inspected (plain_view q g) ≡ plain_view q g
  plain_inspected g p = other_inspected (plain_view q g) (plain_other g p)

  pub cut_writable : (s g m : Bytes) → cut_of q s ≡ Whole g m → Writable q (view_of q g)
  cut_writable s g m e = by (cut_gives q fit s g m e)
    where
      by : T (is_bin q.element g) ⊎ Plainly q g → Writable q (view_of q g)
      by (inl h) =
          let c = (bin_parts q.element g h).counted in
          rw (view_bin q g (passes (is_bin q.element g) h))
          (record { formed = tt; bare = bin_bare (count_in q.element g) (attached_in q.element g) c; counted = rw (counts_passes _ _ c) tt })
      by (inr p) =
          rw (view_plain q g p.no_bin)
          (record { formed = plain_well_formed q g; bare = rw (plain_inspected g p) (plain_unseparated q g p.free); counted = other_counted (plain_view q g) (plain_other g p) })
