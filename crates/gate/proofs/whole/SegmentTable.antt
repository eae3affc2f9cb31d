-- What the segment table says of levels: the fourth number of a record counts the HLs up to its segment, and is 0 of the SE; and the level that an HL
-- belongs to is the one that it makes.
-- Assumes nothing.
use Prim.Native.Nat.{ℕ, zero, suc, ◌+◌, ◌*◌, ◌≤◌, ◌<◌}
use mathlib.Core.Path.{◌≡◌, refl, ap, ◌∙◌}
use mathlib.Core.Bool.{Bool, true, false, not}
use mathlib.Core.List.{List, [], ◌∷◌, ◌++◌}
use native.Mathlib.Omega.{arith}
use lib.Dec.{T, eqb→eq}
use lib.ListN.{length, take, drop, get_or, length-append, length-take, length-map}
use borrow.Author.Tests.{eq-eqb, ne_eqb}
use Rattle.std.proofs.Common.{Ok, Err}
use Rattle.text.specs.Bytes.{Bytes}
use Rattle.text.specs.View.{View, view_of}
use Rattle.text.specs.Cut.{Placed}
use Rattle.text.proofs.Bools.{passes, not_passes}
use Rattle.rows.specs.Tags.{tag, tag_number}
use Rattle.levels.specs.Widths.{segment_width}
use Rattle.levels.specs.Levels.{Claim, Level, level_at, levels_of}
use Rattle.levels.proofs.CalledLevel.{levels_length}
use Rattle.gate.specs.Profile.{Profile}
use Rattle.gate.specs.Segments.{tag_in_of, is_hl, is_se, seen, onto, add_claim, claims, levels_in, belongs_to}
use Rattle.gate.specs.Answers.{Answer}
use Rattle.gate.specs.Records.{Tables, segment_records, recorded}
use Rattle.gate.specs.Reads.{Ends, Run, Read}
use Rattle.gate.specs.Conditions.{level_number, SegmentShown}
use Rattle.gate.specs.declared.how.How.{How}
use Rattle.gate.proofs.reading.Laws.{onto_length}
use Rattle.gate.proofs.reading.Passing.{one_each, claim_more}
use Rattle.gate.proofs.whole.AllRules.{claims_count}

-- the fourth number of record k
record_level : (how : How) (h : List View) (gs : List Placed) (rows more : List ℕ) (k : ℕ) → length rows ≡ length gs → k < length gs
    → get_or (segment_records how h gs rows ++ more) (k * segment_width + 3) 0 ≡ belongs_to (onto h (take k (seen how gs))) (get_or (seen how gs) k [])
record_level how h [] rows more k l s = absurd (omega arith)
record_level how h (g ∷ gs) [] more k l s = absurd (omega arith)
record_level how h (g ∷ gs) (r ∷ rows) more zero l s = refl
record_level how h (g ∷ gs) (r ∷ rows) more (suc k) l s =
    let next : suc k * segment_width + 3 ≡ suc (suc (suc (suc (k * segment_width + 3)))) = omega arith in
    rw next (record_level how (view_of how.separators g.segment ∷ h) gs rows more k (omega arith) (omega arith))

-- segment k behind those before it
up_to : (h vs : List View) (k : ℕ) → k < length vs → get_or vs k [] ∷ onto h (take k vs) ≡ onto h (take (suc k) vs)
up_to h [] k l = absurd (omega arith)
up_to h (v ∷ vs) zero l = refl
up_to h (v ∷ vs) (suc k) l = up_to (v ∷ h) vs k (omega arith)

behind : (h vs : List View) (k : ℕ) → onto h vs ≡ onto (onto h (take k vs)) (drop k vs)
behind h vs zero = refl
behind h [] (suc k) = refl
behind h (v ∷ vs) (suc k) = behind (v ∷ h) vs k

-- an HL is no SE
hl_no_se : (v : View) → T (is_hl v) → T (not (is_se v))
unfolding tag_number
hl_no_se v hl = rw (eqb→eq (tag_in_of v) (tag "HL") hl) tt

-- levels behind others leave these as they were
module _ (profile : Profile) where
  abbrev levels_on : List (ℕ × Claim) → List Level
  levels_on cs = levels_of profile.levels cs

  level_stays : (n m : ℕ) (v : View) (cs : List (ℕ × Claim)) (b : Bool) → n ≤ length cs → level_at n (levels_on (add_claim b m v cs)) ≡ level_at n (levels_on cs)
  level_stays n m v cs true l = rw (ne_eqb n (suc (length (levels_on cs))) (λ e. omega (arith, levels_length profile.levels cs)))
  level_stays n m v cs false l = refl

  levels_stay : (n : ℕ) (h vs : List View) → n ≤ length (claims h) → level_at n (levels_on (claims (onto h vs))) ≡ level_at n (levels_on (claims h))
  levels_stay n h [] l = refl
  levels_stay n h (v ∷ vs) l =
      levels_stay n (v ∷ h) vs (omega (arith, claim_more (is_hl v) (suc (length h)) v (claims h)))
      ∙ level_stays n (suc (length h)) v (claims h) (is_hl v) l

  -- the level of an HL that was just added
  latest : (h : List View) (v : View) → is_hl v ≡ true → (level_at (length (claims (v ∷ h))) (levels_on (claims (v ∷ h)))).segment ≡ suc (length h)
  latest h v hl = rw (hl, eq-eqb (suc (length (claims h))) (suc (length (levels_on (claims h)))) (omega (arith, levels_length profile.levels (claims h))))

  -- segment number k + 1 of those that have records
  module _ (how : How) (before : Tables) (gs : List Placed) (rows : List ℕ) (numbered : length rows ≡ length gs) (k : ℕ) (inside : k < length gs) where
    abbrev vs : List View
    vs = seen how gs

    abbrev v : View
    v = get_or vs k []

    abbrev after : Tables
    after = recorded profile how before gs rows

    there : k < length vs
    there = omega (arith, length-map gs (λ (g : Placed). view_of how.separators g.segment))

    level_is : level_number after k ≡ belongs_to (onto [] (take k vs)) v
    level_is = record_level how [] gs rows (drop (length (segment_records how [] gs rows)) before.segments) k numbered inside

    level_counts : T (not (is_se v)) → level_number after k ≡ length (claims (onto [] (take (suc k) vs)))
    level_counts o = level_is ∙ rw (not_passes (is_se v) o) (ap (λ (h : List View). length (claims h)) (up_to [] vs k there))

    own_level : T (is_hl v) → (level_at (level_number after k) (levels_in profile (onto [] vs))).segment ≡ suc k
    unfolding levels_in
    own_level hl =
        let h = onto [] (take k vs) in
        let long : length h ≡ k = onto_length [] (take k vs) ∙ omega (arith, length-take k vs, there) in
        rw (level_counts (hl_no_se v hl), behind [] vs (suc k), ← up_to [] vs k there)
        (ap (λ (l : Level). l.segment) (levels_stay (length (claims (v ∷ h))) (v ∷ h) (drop (suc k) vs) (omega arith))
        ∙ latest h v (passes (is_hl v) hl) ∙ ap suc long)

    pub segment_shown : SegmentShown profile vs after k
    segment_shown = record {
      counts = λ o. level_counts o ∙ claims_count (take (suc k) vs);
      closing = λ c. level_is ∙ rw (passes (is_se v) c);
      own = own_level;
    }

-- so it is of every reading that looks at segments, accepted or refused
module _ {profile : Profile} {how : How} {s : Bytes} {before : Tables} where
  run_numbered : (r : Answer) {kept : List Placed} {numbers : List ℕ} → Run profile how before s r kept numbers → length numbers ≡ length kept
  run_numbered r {kept} {numbers} x = ending r (one_each how x.gs x.rows x.passed.tags) x.ends
    where
      ending : (r : Answer) → length x.rows ≡ length x.gs → Ends profile how before x.gs x.rows x.end x.rest r kept numbers → length numbers ≡ length kept
      ending (Ok a) n e =
          rw (e.kept_is, e.numbers_is, length-append x.rows (e.row ∷ []), length-append x.gs (record { at = x.end; segment = e.segment } ∷ [])) (omega (arith, n))
      ending (Err r) n e = rw (e.kept_is, e.numbers_is) n

  pub read_shown : {r : Answer} {after : Tables} (x : Read profile how s before r after) (k : ℕ) → k < length x.kept → SegmentShown profile (seen how x.kept) after k
  read_shown {r} x k inside = rw x.tables (segment_shown profile how before x.kept x.numbers (run_numbered r x.run) k inside)
