-- The segments are written run by run: each run again, and BIN02 behind it as it is.
-- Assumes nothing.
use Prim.Native.Nat.{ℕ, ◌+◌, ◌≤◌, ◌<◌}
use mathlib.Core.Path.{◌≡◌, refl, sym, ap, subst, ◌∙◌}
use mathlib.Core.List.{List, [], ◌∷◌, ◌++◌, map, append_assoc, append-nil}
use native.Mathlib.Omega.{arith}
use lib.ListN.{length, take, drop, length-append, length-map, take-append-drop, drop_of_length-le}
use lib.Seq.{take_all, append_snoc}
use Rattle.text.specs.Bytes.{Bytes}
use Rattle.text.specs.Separators.{Fitted}
use Rattle.text.specs.Cut.{Placed}
use Rattle.text.specs.Lookup.{attached_from}
use Rattle.text.specs.declared.separators.Separators.{Separators}
use Rattle.text.proofs.Lists.{map-append}
use Rattle.gate.specs.Conditions.{used_by}
use Rattle.rewriting.specs.Rewrites.{rewritten}
use Rattle.rewriting.specs.internal.SegmentTable.{segment_in, segments_from, attached_part, NamesFrom}
use Rattle.rewriting.specs.internal.CutOff.{CutOff}
use Rattle.rewriting.specs.internal.Output.{put_at, stretch, byte_again}
use Rattle.rewriting.specs.declared.table.Part.{Part}
use Rattle.rewriting.proofs.SegmentBytes.{used_length}
use Rattle.rewriting.proofs.OutputSoFar.{SoFar, so_far_none, so_far_room, so_far_all, so_far_more}
use Rattle.rewriting.proofs.ByteByByte.{terminator_again, segment_again}
use Rattle.rewriting.proofs.WrittenSegments.{rewritten_length}
use Rattle.rewriting.proofs.RecordByRecord.{segments_left, all_left, none_left, next_left}
use Rattle.rewriting.proofs.Runs.{Run, run_start, run_next, run_passed, place_is, end_is, run_to, run_long, run_bytes, attached_long, attached_bytes, run_behind, last_long, last_bytes}

module _ (s : Bytes) (table : List ℕ) (count : ℕ) (old new : Separators) where
  abbrev all : List Placed
  all = segments_from s table 0 count

  abbrev left : ℕ → Bytes
  left k = rewritten old new (segments_left s table count k)

  abbrev again : Bytes → Bytes
  again = map (byte_again old new)

  -- a segment and its terminator, behind other bytes, written again
  joined_run : (x y z : Bytes) → Fitted old → again x ++ (again y ++ new.terminator ∷ z) ≡ again (x ++ (y ++ old.terminator ∷ [])) ++ z
  joined_run x y z fit =
      let t = old.terminator in
      let f = byte_again old new in
      sym
      (ap (λ (u : Bytes). u ++ z) (map-append f x (y ++ t ∷ []) ∙ ap (λ (u : Bytes). again x ++ u) (map-append f y (t ∷ [])))
      ∙ append_assoc (again x) (again y ++ f t ∷ []) z
      ∙ ap (λ (u : Bytes). again x ++ u) (append_snoc (again y) (f t) z ∙ ap (λ (b : ℕ). again y ++ b ∷ z) (terminator_again old new fit)))

  -- all before the run is written
  pub record WrittenBefore (first output : Bytes) (from k : ℕ) : Type 0 where
    pub at : ℕ
    pub run : Bytes
    pub tail : Bytes
    pub runs : Run s table count old from k at run tail
    pub so_far : SoFar first 0 (rewritten old new all) output from (again run ++ left k)

  pub written_start : (first : Bytes) → NamesFrom s table 0 count → CutOff old s all → used_by all ≤ length first → WrittenBefore first first 0 0
  written_start first n c l = record {
    at = 0;
    run = [];
    tail = s;
    runs = run_start s table count old n c;
    so_far =
        rw (all_left s table count)
        (so_far_none first 0 (rewritten old new all)
        (omega (arith, l, rewritten_length old new all, used_length old s all c.end c.rest c.leads)));
  }

  module _ {first output : Bytes} {from k : ℕ} (w : WrittenBefore first output from k) where
    -- the segment of record k, as it is to be written
    module _ (l : k < count) where
      abbrev g : Bytes
      g = segment_in s table k

      abbrev a : ℕ
      a = attached_from old.element g

      todo : left k ≡ again (take a g) ++ drop a g ++ new.terminator ∷ left (k + 1)
      todo =
          let n = run_next s table count old w.runs l in
          rw (next_left s table count k l)
          (ap (λ (x : Bytes). x ++ new.terminator ∷ left (k + 1)) (segment_again old new w.runs.fit w.tail g n.more n.cut))

      room : w.at + length g < length first
      room =
          let x = again (take a g) in
          omega (
            arith,
            w.runs.reach,
            so_far_room w.so_far,
            length-append (again w.run) (left k),
            length-map w.run (byte_again old new),
            ap length todo,
            length-append (x ++ drop a g) (new.terminator ∷ left (k + 1)),
            length-append x (drop a g),
            length-map (take a g) (byte_again old new),
            ap length (take-append-drop a g),
            length-append (take a g) (drop a g),
          )

      module _ (part : Part) (is : part ≡ attached_part old.element s table k) where
        -- where it is no BIN, it joins the run
        pub written_passed : part.to ≤ part.from → WrittenBefore first output from (k + 1)
        written_passed p =
            let p : length g ≤ a = omega (arith, place_is s table count old w.runs l part is, end_is s table count old w.runs l part is) in
            let all-again : again (take a g) ++ drop a g ≡ again g = rw (take_all a g p, drop_of_length-le g {i = a} p) (append-nil (again g)) in
            let next : again w.run ++ left k ≡ again (w.run ++ (g ++ old.terminator ∷ [])) ++ left (k + 1) =
            ap (λ (x : Bytes). again w.run ++ x) (todo ∙ ap (λ (x : Bytes). x ++ new.terminator ∷ left (k + 1)) all-again)
            ∙ joined_run w.run g (left (k + 1)) w.runs.fit in
            record {
              at = _;
              run = _;
              tail = _;
              runs = run_passed s table count old w.runs l;
              so_far = subst (SoFar first 0 (rewritten old new all) output from) next w.so_far;
            }

        -- where it is one, the run and BIN02 have room
        pub bin_room : part.to < length first
        bin_room = omega (arith, end_is s table count old w.runs l part is, room)

        -- and are written
        todo_run : again w.run ++ left k ≡ again (w.run ++ take a g) ++ (drop a g ++ new.terminator ∷ left (k + 1))
        todo_run =
            let rest = drop a g ++ new.terminator ∷ left (k + 1) in
            ap (λ (x : Bytes). again w.run ++ x) (todo ∙ append_assoc (again (take a g)) (drop a g) (new.terminator ∷ left (k + 1)))
            ∙ sym (append_assoc (again w.run) (again (take a g)) rest)
            ∙ ap (λ (x : Bytes). x ++ rest) (sym (map-append (byte_again old new) w.run (take a g)))

        pub written_bin : (output₁ output₂ : Bytes) → output₁ ≡ put_at from (again (stretch from part.from s)) output
            → output₂ ≡ put_at part.from (stretch part.from part.to s) output₁ → WrittenBefore first output₂ part.to (k + 1)
        written_bin output₁ output₂ o₁ o₂ =
            let run_is = run_bytes s table count old w.runs l part is in
            let bin-is = attached_bytes s table count old w.runs l part is in
            let to = run_to s table count old w.runs l part is in
            let run-written =
            so_far_more w.so_far (again (w.run ++ take a g)) (drop a g ++ new.terminator ∷ left (k + 1)) output₁ part.from todo_run
            (o₁ ∙ ap (λ (x : Bytes). put_at from (again x) output) run_is)
            (omega (arith, length-map (w.run ++ take a g) (byte_again old new), run_long s table count old w.runs l part is, to.0)) in
            let bin_written =
            so_far_more run-written (drop a g) (new.terminator ∷ left (k + 1)) output₂ part.to refl
            (o₂ ∙ ap (λ (x : Bytes). put_at part.from x output₁) bin-is)
            (omega (arith, attached_long s table count old w.runs l part is, to.1)) in
            record {
              at = _;
              run = _;
              tail = _;
              runs = run_behind s table count old w.runs l part is;
              so_far = rw (terminator_again old new w.runs.fit) bin_written;
            }

    -- none is ahead: the last run is written
    pub written_end : (bytes : ℕ) (output' : Bytes) → count ≤ k → bytes ≡ used_by all → output' ≡ put_at from (again (stretch from bytes s)) output
        → output' ≡ put_at 0 (rewritten old new all) first
    written_end bytes output' l b o =
        let none : again w.run ++ left k ≡ again w.run ++ [] = rw (none_left s table count k l) in
        so_far_all
        (so_far_more w.so_far (again w.run) [] output' bytes none
        (o ∙ ap (λ (x : Bytes). put_at from (again x) output) (last_bytes s table count old w.runs bytes l b))
        (omega (arith, length-map w.run (byte_again old new), last_long s table count old w.runs bytes l b))) refl
