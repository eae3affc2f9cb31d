-- The segments that a segment table names, record by record: those that are ahead, and the search for a collision.
-- Assumes nothing.
use Prim.Native.Nat.{ℕ, suc, ◌+◌, ◌-◌, ◌≤◌, ◌<◌}
use mathlib.Core.Path.{◌≡◌, sym, subst, ◌∙◌}
use mathlib.Core.List.{List, [], ◌∷◌}
use native.Mathlib.Omega.{arith}
use native.Mathlib.Numerals.{add-one}
use lib.ListN.{length}
use Rattle.text.specs.Bytes.{Bytes}
use Rattle.text.specs.View.{view_of}
use Rattle.text.specs.Cut.{Placed, Whole, cut_of}
use Rattle.text.specs.declared.separators.Separators.{Separators}
use Rattle.elements.specs.Checks.{Verdict, Holds, first_broken}
use Rattle.gate.specs.Conditions.{used_by}
use Rattle.rewriting.specs.Rewrites.{collision_checks, or_later, collision}
use Rattle.rewriting.specs.internal.SegmentTable.{start_in, segment_in, placed_in, segments_from, Names, NamesFrom}
use Rattle.rewriting.specs.internal.CutOff.{LedStrictly, CutOff}
use Rattle.rewriting.proofs.SegmentBytes.{ends, used_length}

module _ (s : Bytes) (table : List ℕ) (count : ℕ) where
  -- the segments of the records from k on
  abbrev pub segments_left : ℕ → List Placed
  segments_left k = segments_from s table k (count - k)

  abbrev pub NamesLeft : ℕ → Type 0
  NamesLeft k = NamesFrom s table k (count - k)

  abbrev all : List Placed
  all = segments_from s table 0 count

  pub all_left : segments_left 0 ≡ all
  all_left = let same : count - 0 ≡ count = omega arith in rw same

  names_all : NamesFrom s table 0 count → NamesLeft 0
  names_all n = let same : count - 0 ≡ count = omega arith in rw same n

  pub none_left : (k : ℕ) → count ≤ k → segments_left k ≡ []
  none_left k l = let same : count - k ≡ 0 = omega arith in rw same

  pub next_left : (k : ℕ) → k < count → segments_left k ≡ placed_in s table k ∷ segments_left (k + 1)
  next_left k l = let same : count - k ≡ suc (count - (k + 1)) = omega arith in rw (same, add-one k)

  pub names_next : (k : ℕ) → k < count → NamesLeft k → Names s table k × NamesLeft (k + 1)
  names_next k l n = let same : count - k ≡ suc (count - (k + 1)) = omega arith in
      let m = rw same at n in (m.0, subst (λ (j : ℕ). NamesFrom s table j (count - (k + 1))) (sym (add-one k)) m.1)

  module _ (old : Separators) where
    -- the segments of the records from k on are cut off the bytes `tail`, which start at `at`
    pub record Ahead (k at : ℕ) (tail : Bytes) : Type 0 where
      pub names : NamesLeft k
      pub rest : Bytes
      pub leads : LedStrictly old at tail (segments_left k) (used_by all) rest

    pub ahead_start : NamesFrom s table 0 count → CutOff old s all → Ahead 0 0 s
    ahead_start n c =
        let end : c.end ≡ used_by all = omega (arith, ends old 0 s all c.end c.rest c.leads, used_length old s all c.end c.rest c.leads) in
        record { names = names_all n; rest = c.rest; leads = rw (all_left, ← end) c.leads }

    -- the segment of record k is the next
    pub record Next (k at : ℕ) (tail : Bytes) : Type 0 where
      pub named : Names s table k
      pub more : Bytes
      pub cut : cut_of old tail ≡ Whole (segment_in s table k) more
      pub here : start_in table k ≡ at
      pub later : Ahead (k + 1) (at + length (segment_in s table k) + 1) more

    module _ {k at : ℕ} {tail : Bytes} (a : Ahead k at tail) where
      pub ahead_next : k < count → Next k at tail
      ahead_next l =
          let led = rw (next_left k l) at a.leads in
          let names = names_next k l a.names in
          let behind = at + length (segment_in s table k) + 1 in
          let same : behind + 0 ≡ behind = omega arith in
          record {
            named = names.0;
            more = led.0;
            cut = led.1;
            here = led.2;
            later = record { names = names.1; rest = a.rest; leads = rw same at led.3 };
          }

      -- none is ahead
      pub ahead_none : count ≤ k → at ≡ used_by all
      ahead_none l = (rw (none_left k l) at a.leads).0

  module _ (old new : Separators) where
    -- no segment before record k collides
    pub record ApartBefore (k : ℕ) : Type 0 where
      pub so_far : collision old new 1 all ≡ collision old new (k + 1) (segments_left k)
      pub at : ℕ
      pub tail : Bytes
      pub ahead : Ahead old k at tail

    pub apart_start : NamesFrom s table 0 count → CutOff old s all → ApartBefore 0
    apart_start n c = record { so_far = rw all_left; at = 0; tail = s; ahead = ahead_start old n c }

    module _ {k : ℕ} (a : ApartBefore k) where
      -- what is found in the segment of record k
      module _ (segment : Bytes) (v : Verdict) (l : k < count) (is : segment ≡ segment_in s table k)
          (found : v ≡ first_broken (collision_checks new (view_of old segment))) where
        decided : collision old new 1 all ≡ or_later v (k + 1) (start_in table k) (collision old new (suc (k + 1)) (segments_left (k + 1)))
        decided = a.so_far ∙ rw (next_left k l, found, is)

        pub apart_next : v ≡ Holds → ApartBefore (k + 1)
        apart_next e = record { so_far = decided ∙ rw (e, add-one (k + 1)); at = _; tail = _; ahead = (ahead_next old a.ahead l).later }
