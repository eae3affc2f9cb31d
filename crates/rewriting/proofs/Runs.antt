-- The segments, run by run: what stands between one BIN02 and the next is one run of bytes.
-- Assumes nothing.
use Prim.Native.Nat.{ℕ, ◌+◌, ◌-◌, ◌≤◌, ◌<◌}
use mathlib.Core.Path.{◌≡◌, refl, sym, ap, ◌∙◌}
use mathlib.Core.List.{List, [], ◌∷◌, ◌++◌, append_assoc}
use native.Mathlib.Omega.{arith}
use lib.ListN.{length, take, drop, length-append, length-drop, take-append-drop}
use lib.Seq.{take_at, drop_at, drop-drop, length-take-le, append_snoc}
use Rattle.text.specs.Bytes.{Bytes}
use Rattle.text.specs.Separators.{Fitted}
use Rattle.text.specs.Cut.{Whole}
use Rattle.text.specs.Lookup.{attached_from}
use Rattle.text.specs.declared.separators.Separators.{Separators}
use Rattle.text.proofs.BinSpans.{attached_most}
use Rattle.text.proofs.DocumentCut.{Splits, cut_splits}
use Rattle.gate.specs.Conditions.{used_by}
use Rattle.rewriting.specs.internal.SegmentTable.{segment_in, segments_from, attached_part, NamesFrom}
use Rattle.rewriting.specs.internal.CutOff.{CutOff}
use Rattle.rewriting.specs.internal.Output.{stretch}
use Rattle.rewriting.specs.declared.table.Part.{Part}
use Rattle.rewriting.proofs.RecordByRecord.{Ahead, Next, ahead_start, ahead_next, ahead_none}

module _ (s : Bytes) (table : List ℕ) (count : ℕ) (old : Separators) where
  -- the run that starts at `from` has the bytes `run` so far; the segment of record k, which starts at `at`, is next
  pub record Run (from k at : ℕ) (run tail : Bytes) : Type 0 where
    pub ahead : Ahead s table count old k at tail
    pub fit : Fitted old
    pub reach : from + length run ≡ at
    pub there : drop from s ≡ run ++ tail

  pub run_start : NamesFrom s table 0 count → CutOff old s (segments_from s table 0 count) → Run 0 0 0 [] s
  run_start n c = record { ahead = ahead_start s table count old n c; fit = c.fit; reach = refl; there = refl }

  module _ {from k at : ℕ} {run tail : Bytes} (r : Run from k at run tail) where
    -- the segment of record k
    module _ (l : k < count) where
      pub run_next : Next s table count old k at tail
      run_next = ahead_next s table count old r.ahead l

      abbrev n : Next s table count old k at tail
      n = run_next

      abbrev g : Bytes
      g = segment_in s table k

      abbrev a : ℕ
      a = attached_from old.element g

      stands : tail ≡ g ++ old.terminator ∷ n.more
      stands = let here : Splits old tail (Whole g n.more) = rw n.cut at (cut_splits old tail) in here

      split : drop from s ≡ run ++ (g ++ old.terminator ∷ n.more)
      split = r.there ∙ ap (λ (x : Bytes). run ++ x) stands

      pub inside : at + length g < length s
      inside =
          omega (
            arith,
            r.reach,
            length-drop from s,
            ap length split,
            length-append run (g ++ old.terminator ∷ n.more),
            length-append g (old.terminator ∷ n.more),
          )

      -- it and its terminator join the run
      pub run_passed : Run from (k + 1) (at + length g + 1) (run ++ (g ++ old.terminator ∷ [])) n.more
      run_passed = record {
        ahead = n.later;
        fit = r.fit;
        reach = omega (arith, r.reach, length-append run (g ++ old.terminator ∷ []), length-append g (old.terminator ∷ []));
        there = split ∙ ap (λ (x : Bytes). run ++ x) (sym (append_snoc g old.terminator n.more))
            ∙ sym (append_assoc run (g ++ old.terminator ∷ []) n.more);
      }

      -- or the run goes up to BIN02, and the next one starts behind it
      module _ (part : Part) (is : part ≡ attached_part old.element s table k) where
        abbrev place : ℕ
        place = part.from

        abbrev end : ℕ
        end = part.to

        most : a ≤ length g
        most = attached_most old.element g

        pub place_is : place ≡ at + a
        place_is = ap (λ (p : Part). p.from) is ∙ ap (λ (m : ℕ). m + a) n.here

        pub end_is : end ≡ at + length g
        end_is = ap (λ (p : Part). p.to) is ∙ ap (λ (m : ℕ). m + length g) n.here

        pub run_to : (from ≤ place) × (place ≤ end) × (end < length s)
        run_to = (omega (arith, place_is, r.reach), omega (arith, place_is, end_is, most), omega (arith, end_is, inside))

        halves : drop from s ≡ run ++ take a g ++ (drop a g ++ old.terminator ∷ n.more)
        halves =
            split
            ∙ ap (λ (x : Bytes). run ++ x)
            (ap (λ (x : Bytes). x ++ old.terminator ∷ n.more) (sym (take-append-drop a g)) ∙ append_assoc (take a g) (drop a g) (old.terminator ∷ n.more))
            ∙ sym (append_assoc run (take a g) (drop a g ++ old.terminator ∷ n.more))

        pub run_long : length (run ++ take a g) ≡ place - from
        run_long = length-append run (take a g) ∙ omega (arith, length-take-le a g most, place_is, r.reach)

        pub run_bytes : stretch from place s ≡ run ++ take a g
        run_bytes = ap (take (place - from)) halves ∙ take_at (run ++ take a g) (drop a g ++ old.terminator ∷ n.more) (place - from) run_long

        from_place : drop place s ≡ drop a g ++ old.terminator ∷ n.more
        from_place =
            let sum : place ≡ from + (place - from) = omega (arith, run_to.0) in
            ap (λ (m : ℕ). drop m s) sum ∙ sym (drop-drop (place - from) from s) ∙ ap (drop (place - from)) halves
            ∙ drop_at (run ++ take a g) (drop a g ++ old.terminator ∷ n.more) (place - from) run_long

        pub attached_long : length (drop a g) ≡ end - place
        attached_long = omega (arith, length-drop a g, place_is, end_is)

        pub attached_bytes : stretch place end s ≡ drop a g
        attached_bytes = ap (take (end - place)) from_place ∙ take_at (drop a g) (old.terminator ∷ n.more) (end - place) attached_long

        from_end : drop end s ≡ old.terminator ∷ n.more
        from_end =
            let sum : end ≡ place + (end - place) = omega (arith, run_to.1) in
            ap (λ (m : ℕ). drop m s) sum ∙ sym (drop-drop (end - place) place s) ∙ ap (drop (end - place)) from_place
            ∙ drop_at (drop a g) (old.terminator ∷ n.more) (end - place) attached_long

        pub run_behind : Run end (k + 1) (at + length g + 1) (old.terminator ∷ []) n.more
        run_behind = record { ahead = n.later; fit = r.fit; reach = omega (arith, end_is); there = from_end }

    -- none is ahead: the last run goes up to the end
    module _ (bytes : ℕ) (l : count ≤ k) (b : bytes ≡ used_by (segments_from s table 0 count)) where
      pub last_long : from + length run ≡ bytes
      last_long = r.reach ∙ ahead_none s table count old r.ahead l ∙ sym b

      pub last_bytes : stretch from bytes s ≡ run
      last_bytes = ap (take (bytes - from)) r.there ∙ take_at run tail (bytes - from) (omega (arith, last_long))
