-- The quick test run by run: BIN02 is passed over, and where all other bytes are harmless no segment collides.
-- Assumes nothing.
use Prim.Native.Nat.{ℕ, ◌+◌, ◌≤◌, ◌<◌}
use mathlib.Core.Path.{◌≡◌, sym, ap, ◌∙◌}
use mathlib.Core.Bool.{Bool, true, ◌&&◌}
use mathlib.Core.List.{List, [], ◌∷◌, ◌++◌}
use native.Mathlib.Omega.{arith}
use native.Mathlib.Numerals.{add-one}
use lib.Dec.{T}
use lib.ListN.{take}
use Rattle.std.specs.Prelude.{None}
use Rattle.text.specs.Bytes.{Bytes, every}
use Rattle.text.specs.Separators.{Fitted}
use Rattle.text.specs.View.{view_of}
use Rattle.text.specs.Cut.{Placed}
use Rattle.text.specs.Lookup.{attached_from}
use Rattle.text.specs.declared.separators.Separators.{Separators}
use Rattle.text.proofs.Bools.{first_of, second_of}
use Rattle.text.proofs.Everys.{every_both}
use Rattle.text.proofs.BinSpans.{bin_of}
use Rattle.elements.specs.Checks.{Holds, first_broken}
use Rattle.gate.specs.Conditions.{used_by}
use Rattle.rewriting.specs.Rewrites.{collision_checks, collision}
use Rattle.rewriting.specs.declared.table.Part.{Part}
use Rattle.rewriting.specs.internal.SegmentTable.{segment_in, segments_from, attached_part, NamesFrom}
use Rattle.rewriting.specs.internal.CutOff.{CutOff}
use Rattle.rewriting.specs.internal.QuickTest.{harmless_byte}
use Rattle.rewriting.specs.internal.Output.{stretch}
use Rattle.rewriting.proofs.CollidingBytes.{bin_apart}
use Rattle.rewriting.proofs.HarmlessBytes.{harmless_holds}
use Rattle.rewriting.proofs.RecordByRecord.{segments_left, all_left, none_left, next_left}
use Rattle.rewriting.proofs.Runs.{Run, run_start, run_next, run_passed, place_is, end_is, run_bytes, run_behind, last_bytes}

module _ (s : Bytes) (table : List ℕ) (count : ℕ) (old new : Separators) where
  abbrev all : List Placed
  all = segments_from s table 0 count

  abbrev left : ℕ → List Placed
  left k = segments_left s table count k

  abbrev fine : Bytes → Bool
  fine bytes = every (harmless_byte old new) bytes

  -- where all runs so far are harmless, no segment before record k collides
  pub record TestedBefore (so_far : Bool) (from k : ℕ) : Type 0 where
    pub at : ℕ
    pub run : Bytes
    pub tail : Bytes
    pub runs : Run s table count old from k at run tail
    pub new_fit : Fitted new
    pub told : T so_far → T (fine run) → collision old new 1 all ≡ collision old new (k + 1) (left k)

  pub tested_start : NamesFrom s table 0 count → CutOff old s all → Fitted new → TestedBefore true 0 0
  tested_start n c f = record {
    at = 0;
    run = [];
    tail = s;
    runs = run_start s table count old n c;
    new_fit = f;
    told = λ x y. rw (all_left s table count);
  }

  module _ {so_far : Bool} {from k : ℕ} (w : TestedBefore so_far from k) where
    -- the segment of record k
    module _ (l : k < count) where
      abbrev g : Bytes
      g = segment_in s table k

      -- it does not collide, so the next decides
      passed_over : first_broken (collision_checks new (view_of old g)) ≡ Holds → collision old new (k + 1) (left k) ≡ collision old new (k + 1 + 1) (left (k + 1))
      passed_over h = rw (next_left s table count k l, h, add-one (k + 1))

      pub tested_passed : TestedBefore so_far from (k + 1)
      tested_passed =
          let n = run_next s table count old w.runs l in
          record {
            at = _;
            run = _;
            tail = _;
            runs = run_passed s table count old w.runs l;
            new_fit = w.new_fit;
            told = λ x y.
                let t = old.terminator in
                let parts = rw (every_both (harmless_byte old new) w.run (g ++ t ∷ []), every_both (harmless_byte old new) g (t ∷ [])) at y in
                let here = first_of (fine g) (fine (t ∷ [])) (second_of (fine w.run) (fine g && fine (t ∷ [])) parts) in
                w.told x (first_of (fine w.run) (fine g && fine (t ∷ [])) parts)
                ∙ passed_over (harmless_holds old new w.runs.fit w.new_fit w.tail g n.more n.cut here);
          }

      module _ (part : Part) (is : part ≡ attached_part old.element s table k) where
        pub tested_bin : part.from < part.to → (test : Bool) → test ≡ fine (stretch from part.from s) → TestedBefore (so_far && test) part.to (k + 1)
        tested_bin b test e =
            let a = attached_from old.element g in
            let bin = bin_of old.element g (omega (arith, place_is s table count old w.runs l part is, end_is s table count old w.runs l part is)) in
            let all-run : test ≡ fine (w.run ++ take a g) = e ∙ ap fine (run_bytes s table count old w.runs l part is) in
            record {
              at = _;
              run = _;
              tail = _;
              runs = run_behind s table count old w.runs l part is;
              new_fit = w.new_fit;
              told = λ x y.
                  let tested = rw (all-run, every_both (harmless_byte old new) w.run (take a g)) at (second_of so_far test x) in
                  w.told (first_of so_far test x) (first_of (fine w.run) (fine (take a g)) tested)
                  ∙ passed_over (sym (bin_apart old new g bin w.new_fit));
            }

    -- none is ahead
    pub tested_end : (bytes : ℕ) → count ≤ k → bytes ≡ used_by all → (test : Bool) → test ≡ fine (stretch from bytes s) → so_far && test ≡ true
        → collision old new 1 all ≡ None
    tested_end bytes l b test e h =
        let both : T (so_far && test) = rw h tt in
        w.told (first_of so_far test both) (rw (e, last_bytes s table count old w.runs bytes l b) at (second_of so_far test both))
        ∙ rw (none_left s table count k l)
