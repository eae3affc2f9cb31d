-- The records that reading stores in the segment table, read back: they name the segments that were read.
-- Assumes nothing.
use Prim.Native.Nat.{ℕ, suc, ◌+◌, ◌*◌, ◌≤◌}
use mathlib.Core.Path.{◌≡◌, refl, sym, ap, ap₂, ◌∙◌}
use mathlib.Core.List.{List, [], ◌∷◌, ◌++◌}
use native.Mathlib.Omega.{arith}
use lib.ListN.{length, take, drop, get_or, length-append, length-drop}
use lib.Seq.{take_at, drop_at, get_or-drop, drop-drop, drop-append-add}
use Rattle.text.specs.Bytes.{Bytes}
use Rattle.text.specs.View.{View, view_of}
use Rattle.text.specs.Cut.{Placed, Whole}
use Rattle.text.specs.declared.separators.Separators.{Separators}
use Rattle.text.proofs.DocumentCut.{Splits, cut_splits}
use Rattle.levels.specs.Widths.{segment_width}
use Rattle.rows.specs.declared.profile.ProfileName.{ProfileName}
use Rattle.gate.specs.Records.{segment_record, segment_records}
use Rattle.rewriting.specs.internal.CutOff.{LedStrictly}
use Rattle.rewriting.specs.Rewrites.{strictly}
use Rattle.rewriting.specs.internal.SegmentTable.{start_in, length_in, placed_in, segments_from, Names, NamesFrom}

-- a record at the front of what is left of the table
module _ (table : List ℕ) (k : ℕ) (numbers more : List ℕ) (wide : length numbers ≡ segment_width) (here : drop (k * segment_width) table ≡ numbers ++ more) where
  entry : (i : ℕ) → get_or table (k * segment_width + i) 0 ≡ get_or (numbers ++ more) i 0
  entry i = sym (get_or-drop (k * segment_width) table i 0) ∙ ap (λ (l : List ℕ). get_or l i 0) here

  record_start : start_in table k ≡ get_or (numbers ++ more) 0 0
  record_start = let same : k * segment_width ≡ k * segment_width + 0 = omega arith in ap (λ (n : ℕ). get_or table n 0) same ∙ entry 0

  record_there : k * segment_width + segment_width ≤ length table
  record_there = omega (arith, length-drop (k * segment_width) table, ap length here ∙ length-append numbers more, wide)

  record_behind : drop (suc k * segment_width) table ≡ more
  record_behind =
      let same : suc k * segment_width ≡ k * segment_width + segment_width = omega arith in
      ap (λ (n : ℕ). drop n table) same
      ∙ sym (drop-drop segment_width (k * segment_width) table)
      ∙ ap (drop segment_width) here
      ∙ drop_at numbers more segment_width wide

-- the bytes at a segment
module _ (s segment : Bytes) (q : Separators) (more : Bytes) (at : ℕ) (here : drop at s ≡ segment ++ q.terminator ∷ more) where
  segment_inside : at + length segment + 1 ≤ length s
  segment_inside = omega (arith, length-drop at s, ap length here ∙ length-append segment (q.terminator ∷ more))

  segment_bytes : take (length segment) (drop at s) ≡ segment
  segment_bytes = ap (take (length segment)) here ∙ take_at segment (q.terminator ∷ more) (length segment) refl

  bytes_behind : drop (at + length segment + 1 + 0) s ≡ more
  bytes_behind =
      let same : at + length segment + 1 + 0 ≡ at + (length segment + 1) = omega arith in
      ap (λ (n : ℕ). drop n s) same
      ∙ sym (drop-drop (length segment + 1) at s)
      ∙ ap (drop (length segment + 1)) here
      ∙ drop-append-add segment (q.terminator ∷ more) 1

-- a record whose numbers begin with the place and the length of a segment names that segment
names : (s : Bytes) (table : List ℕ) (k : ℕ) (numbers more : List ℕ) → length numbers ≡ segment_width → drop (k * segment_width) table ≡ numbers ++ more
    → (segment : Bytes) (q : Separators) (behind : Bytes) (at : ℕ) → get_or (numbers ++ more) 0 0 ≡ at → get_or (numbers ++ more) 1 0 ≡ length segment
    → drop at s ≡ segment ++ q.terminator ∷ behind → (placed_in s table k ≡ record { at = at; segment = segment }) × Names s table k
names s table k numbers more wide here segment q behind at is long bytes =
    let starts : start_in table k ≡ at = record_start table k numbers more wide here ∙ is in
    let lasts : length_in table k ≡ length segment = entry table k numbers more wide here 1 ∙ long in
    let holds : take (length_in table k) (drop (start_in table k) s) ≡ segment = rw (lasts, starts) (segment_bytes s segment q behind at bytes) in (
      ap₂ (λ (a : ℕ) (x : Bytes). record { at = a; segment = x }) starts holds,
      record {
        there = record_there table k numbers more wide here;
        inside = omega (arith, starts, lasts, segment_inside s segment q behind at bytes);
      },
    )

-- the records of segments that were read, from record k on
module _ (profile : ProfileName) (old : Separators) (s : Bytes) (table : List ℕ) where
  pub stored : (k at : ℕ) (h : List View) (gs : List Placed) (rows : List ℕ) (left : Bytes) (end : ℕ) (rest : Bytes) (more : List ℕ)
      → length rows ≡ length gs → drop (k * segment_width) table ≡ segment_records (strictly profile old) h gs rows ++ more → drop at s ≡ left
      → LedStrictly old at left gs end rest
      → (segments_from s table k (length gs) ≡ gs) × NamesFrom s table k (length gs)
  stored k at h [] rows left end rest more n t b l = (refl, tt)
  stored k at h (g ∷ gs) [] left end rest more n t b l = absurd (omega arith)
  stored k at h (g ∷ gs) (r ∷ rows) left end rest more n t b l =
      let v = view_of old g.segment in
      let splits : Splits old left (Whole g.segment l.0) = rw l.1 at (cut_splits old left) in
      let here = b ∙ splits in
      let numbers = segment_record h v g r in
      let behind = segment_records (strictly profile old) (v ∷ h) gs rows ++ more in
      let named = names s table k numbers behind refl t g.segment old l.0 g.at refl refl (rw l.2 here) in
      let later =
      stored (suc k) (at + length g.segment + 1 + 0) (v ∷ h) gs rows l.0 end rest more (omega (arith, n))
      (record_behind table k numbers behind refl t) (bytes_behind s g.segment old l.0 at here) l.3 in
      (ap₂ (λ (x : Placed) (xs : List Placed). x ∷ xs) named.0 later.0, (named.1, later.1))
