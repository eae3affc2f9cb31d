-- The walk under one level, level by level: what stands in the output so far, that a child and what is beneath it have room, and where all that
-- hangs under the level is listed.
-- Assumes nothing.
use Prim.Native.Nat.{ℕ, ◌+◌, ◌-◌, ◌<◌, ◌≤◌}
use mathlib.Core.Path.{◌≡◌, sym, ap, subst, ◌∙◌}
use mathlib.Core.Bool.{true, ◌&&◌}
use mathlib.Core.List.{List}
use native.Mathlib.Omega.{arith}
use lib.Dec.{T, leb, ltb, ltb→lt, leb→le}
use lib.ListN.{length, set}
use lib.Seq.{length-sets}
use Rattle.text.proofs.Bools.{first_of, second_of}
use Rattle.outline.specs.Outline.{parent_in, depth_in}
use Rattle.outline.specs.Walks.{FitTable}
use Rattle.outline.specs.internal.Listing.{gathered, listed, depth_of}
use Rattle.outline.specs.internal.Straying.{last_stray}
use Rattle.outline.proofs.Gathering.{listed_gathered, listed_none, gathered_child, gathered_other, gathered_room, gathered_none, gathered_ended}
use Rattle.outline.proofs.Stores.{Stored, stored_none, stored_more}

-- what is listed under a child of a level at that depth
abbrev pub beneath : List ℕ → (count depth : ℕ) → ℕ → List ℕ
beneath t count depth = listed (4 - (depth + 1)) t count

-- of the levels 1 to `level` those under `of` are listed in the output from `at` on
pub record Visited (t : List ℕ) (count of depth : ℕ) (before : List ℕ) (at : ℕ) (output : List ℕ) (next level : ℕ) : Type 0 where
  pub from : of ≤ level
  pub upto : level ≤ count
  pub stored : Stored before at (gathered (beneath t count depth) t of level) output next

-- nothing is listed under a level of depth 4
pub listed_deepest : (t : List ℕ) (count of depth : ℕ) (before : List ℕ) (at : ℕ) → 4 ≤ depth → Stored before at (listed (4 - depth) t count of) before at
listed_deepest t count of depth before at deep = rw (listed_none t count of depth deep) (stored_none before at)

module _ {t : List ℕ} {count of depth : ℕ} {before : List ℕ} {at : ℕ} where
  -- no level up to `of` itself hangs under it
  pub visited_none : FitTable t count → of ≤ count → Visited t count of depth before at before at of
  visited_none fit inside = record {
    from = omega arith;
    upto = inside;
    stored = rw (gathered_none t count fit (beneath t count depth) of inside) (stored_none before at);
  }

  module _ {output : List ℕ} {next seen : ℕ} (v : Visited t count of depth before at output next seen) where
    -- the output is as long as it was
    pub output_long : length output ≡ length before
    output_long = ap length v.stored.1 ∙ length-sets before at (gathered (beneath t count depth) t of seen)

    -- behind the last level all is listed
    pub listed_all : depth < 4 → count ≤ seen → Stored before at (listed (4 - depth) t count of) output next
    listed_all shallow end =
        let e : count ≡ seen = omega (arith, v.upto) in
        subst (λ (xs : List ℕ). Stored before at xs output next)
        (sym (listed_gathered t count of depth shallow ∙ ap (gathered (beneath t count depth) t of) e)) v.stored

    -- of the level that comes next
    module _ {level : ℕ} (e : level ≡ seen + 1) (inside : level ≤ count) where
      -- behind the last stray all is listed where it is no deeper
      pub listed_ended : depth < 4 → FitTable t count → {stray deep : ℕ} → stray ≡ last_stray t count → depth ≡ depth_of t of
          → deep ≡ depth_in t level → ltb stray level && leb deep depth ≡ true → Stored before at (listed (4 - depth) t count of) output next
      listed_ended shallow fit {stray} {deep} s d is ends =
          let both : T (ltb stray level && leb deep depth) = rw ends tt in
          let past = ltb→lt stray level (first_of (ltb stray level) (leb deep depth) both) in
          let no_deeper = leb→le deep depth (second_of (ltb stray level) (leb deep depth) both) in
          let here : deep ≡ depth_in t (seen + 1) = rw e at is in
          rw (
            listed_gathered t count of depth shallow,
            gathered_ended t count fit (beneath t count depth) of seen v.from (omega arith) (omega arith) (omega arith),
          )
          v.stored

      -- where it is no child, it adds nothing
      pub visited_other : (parent_in t level ≡ of → ⊥) → Visited t count of depth before at output next level
      visited_other other = record {
        from = omega (arith, v.from);
        upto = inside;
        stored = rw e (rw (gathered_other (beneath t count depth) t of seen (rw e at other)) v.stored);
      }

      module _ (child : parent_in t level ≡ of) where
        -- a child and what is beneath it have room
        pub child_room : depth < 4 → at + length (listed (4 - depth) t count of) ≤ length before
            → next + (1 + length (beneath t count depth level)) ≤ length output
        child_room shallow room =
            rw e
            (omega (
              arith,
              output_long,
              v.stored.0,
              ap length (listed_gathered t count of depth shallow),
              gathered_room (beneath t count depth) t of seen count (omega arith) (rw e at child),
            ))

        -- and are listed
        pub visited_child : {output' : List ℕ} {next' : ℕ} → Stored (set output next level) (next + 1) (beneath t count depth level) output' next'
            → Visited t count of depth before at output' next' level
        visited_child s = record {
          from = omega (arith, v.from);
          upto = inside;
          stored =
              rw e
              (rw (gathered_child (beneath t count depth) t of seen (rw e at child))
              (stored_more before at (gathered (beneath t count depth) t of seen) (seen + 1) (beneath t count depth (seen + 1)) v.stored (rw e at s)));
        }
