-- The reader from one segment to the next: what it knows at the start, after a segment that is passed, and where it stops.
-- Assumes nothing.
use Prim.Native.Nat.{ℕ, suc, ◌+◌, ◌-◌, ◌*◌, ◌/◌, ◌%◌, ◌≤◌, ◌<◌}
use mathlib.Core.Path.{◌≡◌, refl, sym, ap, ◌∙◌}
use mathlib.Core.Bool.{Bool, true, false, not}
use mathlib.Core.List.{List, [], ◌∷◌, ◌++◌, append_assoc}
use native.Mathlib.Omega.{arith}
use native.Mathlib.Numerals.{add-one}
use lib.Dec.{T, eqb, eqb→eq}
use lib.ListN.{length, take, drop, get_or, length-append, length-drop, length-map}
use lib.Seq.{take_at, drop_at, drop-drop}
use Rattle.text.specs.Bytes.{Bytes}
use Rattle.text.specs.View.{View, view_of}
use Rattle.text.specs.Cut.{Whole, Placed}
use Rattle.text.proofs.Lists.{map-append}
use Rattle.text.specs.Separators.{Fitted}
use Rattle.rows.specs.Tags.{tag}
use Rattle.rows.specs.Following.{last_of, twice}
use Rattle.levels.specs.Levels.{Level, claim_of, record_of, records_of}
use Rattle.finding.specs.internal.Entries.{stored_at}
use Rattle.levels.specs.internal.Everyone.{Everyone}
use Rattle.levels.proofs.Depth.{Within4}
use Rattle.levels.proofs.CalledLevel.{parent_below}
use Rattle.levels.proofs.CodeLetters.{code_small}
use Rattle.gate.specs.Profile.{Profile, profile_of}
use Rattle.levels.specs.Widths.{segment_width, level_width}
use Rattle.gate.specs.Segments.{tag_in_of, is_hl, is_se, seen, onto, levels_in, belongs_to}
use Rattle.gate.specs.Rules.{Sound}
use Rattle.gate.specs.Records.{Tables, segment_record, segment_records, level_records, Room, over}
use Rattle.gate.specs.Reads.{limit, cut_by, skip_by, Passed, Read}
use Rattle.reading.specs.internal.Standing.{Standing}
use Rattle.reading.specs.internal.Between.{skipped_at, start_at}
use Rattle.gate.specs.Answers.{accepted, refused}
use Rattle.gate.specs.declared.how.How.{How}
use Rattle.gate.proofs.reading.Laws.{onto_append, onto_length}
use Rattle.gate.proofs.reading.Once.{Fails}
use Rattle.gate.proofs.reading.Passing.{belongs_se, belongs_hl, belongs_other, levels_few}
use Rattle.gate.proofs.continuing.NotEarly.{leads_few}
use Rattle.reading.proofs.reader.HlSegments.{hl_written, depths}
use Rattle.rows.proofs.Viability.{last_snoc}
use Rattle.gate.proofs.continuing.LevelNames.{levels_hl, levels_other}
use Rattle.gate.proofs.reading.Reference.{passed_none, passed_more}
use Rattle.reading.specs.declared.judging.State.{State}
use Rattle.reading.specs.declared.storing.NewLevel.{NewLevel}
use Rattle.reading.specs.internal.Entering.{levels_with, lasts_with}
use Rattle.reading.specs.internal.Settling.{state_after}
use Rattle.reading.specs.internal.Judgements.{new_level}
use Rattle.finding.specs.internal.Entries.{count_in}
use Rattle.finding.specs.internal.Lists.{lists, place_of}
use Rattle.finding.specs.internal.Notes.{asks_number, note_with, asks_of, code_in, child_met, plain, cleared}
use Rattle.finding.proofs.PlainTable.{plain_long, plain_stored, met_long, plain_met}
use Rattle.finding.proofs.StoredLevels.{holds_none, holds_segment, holds_level, noted_code}
use Rattle.elements.specs.declared.verdict.Reason.{Reason}

-- Tables with records in front
-- a record stored behind the others is one record more in front
pub over_stored : (width : ℕ) (table records : List ℕ) (n : ℕ) (numbers : List ℕ) → length records ≡ n * width → length numbers ≡ width
    → stored_at width (over table records) n numbers ≡ over table (records ++ numbers)
over_stored width table records n numbers l m =
    let front : take (n * width) (over table records) ≡ records = take_at records (drop (length records) table) (n * width) l in
    let back : drop (n * width + width) (over table records) ≡ drop (n * width + width) table =
    sym (drop-drop width (n * width) (over table records))
    ∙ ap (drop width) (drop_at records (drop (length records) table) (n * width) l)
    ∙ ap (drop width) (ap (λ (k : ℕ). drop k table) l) ∙ drop-drop width (n * width) table in
    let long : length (records ++ numbers) ≡ n * width + width = length-append records numbers ∙ omega (arith, l, m) in
    rw (front, back, long) (sym (append_assoc records numbers (drop (n * width + width) table)))

over_long : (table records : List ℕ) → length records ≤ length table → length (over table records) ≡ length table
over_long table records h = simp (length-append, length-drop) (omega arith)

-- one segment more
pub records_more : (how : How) (h : List View) (gs : List Placed) (rows : List ℕ) (g : Placed) (r : ℕ) → length rows ≡ length gs
    → segment_records how h (gs ++ (g ∷ [])) (rows ++ (r ∷ []))
    ≡ segment_records how h gs rows ++ segment_record (onto h (seen how gs)) (view_of how.separators g.segment) g r
records_more how h [] [] g r l = refl
records_more how h [] (x ∷ rows) g r l = absurd (omega arith)
records_more how h (f ∷ gs) [] g r l = absurd (omega arith)
records_more how h (f ∷ gs) (x ∷ rows) g r l =
    let v = view_of how.separators f.segment in
    ap (λ (k : List ℕ). segment_record h v f x ++ k) (records_more how (v ∷ h) gs rows g r (omega arith))

records_long : (how : How) (h : List View) (gs : List Placed) (rows : List ℕ) → length rows ≡ length gs → length (segment_records how h gs rows) ≡ length gs * segment_width
records_long how h [] rows l = refl
records_long how h (g ∷ gs) [] l = absurd (omega arith)
records_long how h (g ∷ gs) (r ∷ rows) l = omega (arith, records_long how (view_of how.separators g.segment ∷ h) gs rows (omega arith))

level_records_long : (ls : List Level) → length (records_of ls) ≡ length ls * level_width
level_records_long [] = refl
level_records_long (l ∷ ls) = length-append (records_of ls) (record_of l) ∙ omega (arith, level_records_long ls)

pub history_long : (how : How) (gs : List Placed) → length (onto [] (seen how gs)) ≡ length gs
history_long how gs = onto_length [] (seen how gs) ∙ omega (arith, length-map gs (λ (g : Placed). view_of how.separators g.segment))

-- one row more
twice_more : (r : ℕ) (already : Bool) (w : List ℕ) (x : ℕ) → twice r already (w ++ (x ∷ [])) ≡ eqb x (last_of r w)
twice_more r already [] x = refl
twice_more r already (y ∷ w) x = twice_more y (eqb y r) w x

-- at the start
pub standing_start : (how : How) (before : Tables) (s : Bytes) (lasts : List ℕ) → length lasts ≡ lists → ((place : ℕ) → place < lists → get_or lasts place 0 ≡ 0)
    → Standing how before s before.segments before.levels lasts 0 (record { count = 0; row = 0; again = false; levels = 0 }) [] []
unfolding levels_in
standing_start how before s lasts long none = record {
  passed = passed_none (profile_of how) how before s;
  segments_are = refl;
  levels_are = refl;
  count_is = refl;
  rows_are = refl;
  row_is = refl;
  again_is = refl;
  counted = refl;
  holds = holds_none s how.separators.element before.segments before.levels lasts long none;
}

module _ {how : How} {before : Tables} {s : Bytes} {segments levels lasts : List ℕ} {at : ℕ} {state : State} {gs : List Placed} {rows : List ℕ}
    (st : Standing how before s segments levels lasts at state gs rows) where
  abbrev profile : Profile
  profile = profile_of how

  abbrev before_views : List View
  before_views = onto [] (seen how gs)

  -- the tables are as long as they were
  pub segments_long : length segments ≡ length before.segments
  segments_long =
      ap length st.segments_are
      ∙ over_long before.segments (segment_records how [] gs rows)
      (omega (arith, records_long how [] gs rows st.rows_are, st.passed.room.segments_fit, history_long how gs))

  pub levels_long : length levels ≡ length before.levels
  levels_long =
      sym (plain_long state.levels levels) ∙ ap length st.levels_are
      ∙ over_long before.levels (level_records profile how gs)
      (omega (arith, level_records_long (levels_in profile before_views), st.passed.room.levels_fit))

  -- without notes the level table has the records
  pub levels_cleared : cleared state.levels levels ≡ over before.levels (level_records profile how gs)
  levels_cleared =
      let all : count_in levels state.levels ≡ state.levels = omega (arith, st.holds.room, st.counted) in
      ap (λ (n : ℕ). plain n levels) all ∙ st.levels_are

  -- a refusal at the next segment
  pub standing_refuses : (n : Reason) (e : ℕ) → Fails profile how before gs rows at (drop at s) n e
      → Read profile how s before (refused n (state.count + 1) at e) (record { segments = segments; levels = cleared state.levels levels })
  standing_refuses n e f = record {
    kept = gs;
    numbers = rows;
    run = record {
      gs = gs;
      rows = rows;
      end = at;
      rest = drop at s;
      passed = st.passed;
      ends = record { reason = n; element = e; cause = f; kept_is = refl; numbers_is = refl; place = cc st.count_is };
    };
    tables = λ i. record { segments = st.segments_are i; levels = levels_cleared i };
  }

  -- the next segment g, which was cut whole
  module _ (g more : Bytes) (cut : cut_by how (drop at s) ≡ Whole g more) (whole : drop at s ≡ g ++ how.separators.terminator ∷ more) where
    abbrev v : View
    v = view_of how.separators g

    abbrev gs' : List Placed
    gs' = gs ++ (record { at = at; segment = g } ∷ [])

    behind : drop (at + length g + 1) s ≡ more
    behind =
        let e : at + length g + 1 ≡ at + (length g + 1) = omega arith in
        let f : drop (length g + 1) (g ++ how.separators.terminator ∷ more) ≡ more =
        ap (drop (length g + 1)) (sym (append_assoc g (how.separators.terminator ∷ []) more))
        ∙ drop_at (g ++ how.separators.terminator ∷ []) more (length g + 1) (length-append g (how.separators.terminator ∷ [])) in
        rw e (sym (drop-drop (length g + 1) at s) ∙ ap (drop (length g + 1)) whole ∙ f)

    history_more : onto [] (seen how gs') ≡ v ∷ before_views
    history_more =
        ap (onto []) (map-append (λ (p : Placed). view_of how.separators p.segment) gs (record { at = at; segment = g } ∷ []))
        ∙ onto_append [] (seen how gs) (v ∷ [])

    -- the segment table with its record
    abbrev stored : ℕ → ℕ → List ℕ
    stored r level = stored_at segment_width segments state.count (at ∷ length g ∷ r ∷ level ∷ [])

    segments_more : (r level : ℕ) → belongs_to before_views v ≡ level → stored r level ≡ over before.segments (segment_records how [] gs' (rows ++ (r ∷ [])))
    segments_more r level belongs =
        let numbers = segment_record before_views v (record { at = at; segment = g }) r in
        rw (← belongs)
        (ap (λ (t : List ℕ). stored_at segment_width t state.count numbers) st.segments_are
        ∙ over_stored segment_width before.segments (segment_records how [] gs rows) state.count numbers
        (records_long how [] gs rows st.rows_are ∙ ap (λ (k : ℕ). k * segment_width) st.count_is) refl
        ∙ ap (over before.segments) (sym (records_more how [] gs rows (record { at = at; segment = g }) r st.rows_are)))

    -- room for a segment, and for one that makes a level
    pub room_other : is_hl v ≡ false → state.count < length segments / segment_width → Room profile before (v ∷ before_views)
    room_other hl l = record {
      segments_fit = omega (arith, segments_long, history_long how gs, st.count_is);
      levels_fit = rw (levels_other how.profile before_views v hl) st.passed.room.levels_fit;
    }

    pub room_level : is_hl v ≡ true → state.count < length segments / segment_width → state.levels < length levels / level_width → Room profile before (v ∷ before_views)
    room_level hl l m = record {
      segments_fit = omega (arith, segments_long, history_long how gs, st.count_is);
      levels_fit = rw (levels_hl how.profile before_views v hl) (omega (arith, levels_long, st.counted));
    }

    -- no room
    pub no_segment_room : length segments / segment_width ≤ state.count → Room profile before (v ∷ before_views) → ⊥
    no_segment_room l r = omega (arith, segments_long, history_long how gs, st.count_is, r.segments_fit)

    pub no_level_room : is_hl v ≡ true → length levels / level_width ≤ state.levels → Room profile before (v ∷ before_views) → ⊥
    no_level_room hl l r =
        let f : suc (length (levels_in profile before_views)) ≤ length before.levels / level_width = rw (levels_hl how.profile before_views v hl) at r.levels_fit in
        omega (arith, levels_long, st.counted, f)

    -- where the next segment starts
    abbrev next : ℕ
    next = start_at how s (at + length g + 1)

    passed_next : (r : ℕ) → Sound profile rows before_views v r → T (not (is_se v)) → Room profile before (v ∷ before_views)
        → Passed profile how before s gs' (rows ++ (r ∷ [])) next (drop next s)
    passed_next r sound o room =
        let p = passed_more profile how before s gs rows at (drop at s) g more st.passed cut r sound o room in
        let e : skipped_at how s (at + length g + 1) ≡ skip_by how more = rw add-one (ap (skip_by how) (rw add-one at behind)) in
        rw (e, ← drop-drop (skip_by how more) (at + length g + 1) s, behind) p

    count_more : length gs' ≡ state.count + 1
    count_more = length-append gs (record { at = at; segment = g } ∷ []) ∙ omega (arith, st.count_is)

    rows_more : (r : ℕ) → length (rows ++ (r ∷ [])) ≡ length gs'
    rows_more r = length-append rows (r ∷ []) ∙ omega (arith, st.rows_are, st.count_is, count_more)

    again_more : (r : ℕ) → twice 0 false (rows ++ (r ∷ [])) ≡ eqb r state.row
    again_more r = twice_more 0 false rows r ∙ ap (eqb r) st.row_is

    -- a segment that makes no level is passed
    pub standing_other : (r : ℕ) → Sound profile rows before_views v r → is_hl v ≡ false → T (not (is_se v))
        → state.count < length segments / segment_width
        → Standing how before s (stored r state.levels) levels lasts next (state_after state r state.levels) gs' (rows ++ (r ∷ []))
    standing_other r sound hl se room =
        let same : levels_in profile (onto [] (seen how gs')) ≡ levels_in profile before_views =
        ap (levels_in profile) history_more ∙ levels_other how.profile before_views v hl in
        let one : suc state.count ≡ state.count + 1 = omega arith in
        record {
          passed = passed_next r sound se (room_other hl room);
          segments_are = segments_more r state.levels (belongs_other profile before_views v se hl ∙ st.counted);
          levels_are = st.levels_are ∙ ap (λ (ls : List Level). over before.levels (records_of ls)) (sym same);
          count_is = count_more;
          rows_are = rows_more r;
          row_is = last_snoc rows 0 r;
          again_is = again_more r;
          counted = rw same st.counted;
          holds = rw (← one, same) (holds_segment st.holds at (length g) (r ∷ state.levels ∷ []) refl (omega arith));
        }

    -- a segment that makes a level is passed
    abbrev new : Level
    new = new_level profile rows before_views v

    -- what its record has and its level's
    module _ (level : NewLevel) (is : suc (length before_views) ∷ level.parent ∷ level.depth ∷ level.code ∷ [] ≡ record_of new)
        (asks : level.asks ≡ asks_of new.mark) (place : level.place ≡ place_of new.id) where
      number_is : state.count + 1 ≡ suc (length before_views)
      number_is = omega (arith, history_long how gs, st.count_is)

      parent_is : level.parent ≡ new.parent
      parent_is = ap (λ (r : List ℕ). get_or r 1 0) is

      depth_is : level.depth ≡ new.depth
      depth_is = ap (λ (r : List ℕ). get_or r 2 0) is

      code_is : level.code ≡ new.code
      code_is = ap (λ (r : List ℕ). get_or r 3 0) is

      early : new.parent ≤ length (levels_in profile before_views)
      early = parent_below (claim_of v) (levels_in profile before_views)

      coded : new.code < 8
      coded = code_small profile.levels (claim_of v).code

      -- without notes it is one record more
      levels_more : state.levels < length levels / level_width
          → plain (suc state.levels) (levels_with levels lasts state.levels (state.count + 1) level) ≡ over before.levels (records_of (new ∷ levels_in profile before_views))
      levels_more room =
          let n = state.levels in
          let note = note_with level.code level.asks (get_or lasts (level.place % lists) 0) in
          let fits : n < length (child_met levels level.parent) / level_width = rw (met_long levels level.parent) room in
          let own : code_in note ≡ level.code = noted_code level.code (asks_number level.asks) (get_or lasts (level.place % lists) 0) (rw code_is coded) in
          plain_stored n (child_met levels level.parent) (state.count + 1) level.parent level.depth note fits
          ∙ rw (plain_met n levels level.parent (omega (arith, parent_is, early, st.counted)), own, number_is, st.levels_are)
          (over_stored level_width before.levels (level_records profile how gs) n (suc (length before_views) ∷ level.parent ∷ level.depth ∷ level.code ∷ [])
          (level_records_long (levels_in profile before_views) ∙ ap (λ (k : ℕ). k * level_width) st.counted) refl
          ∙ ap (λ (r : List ℕ). over before.levels (records_of (levels_in profile before_views) ++ r)) is)

      -- there are few
      few : length s ≤ limit → suc (length (levels_in profile before_views)) < 4294967296
      few short =
          let inside : length g + 1 ≤ length s - at = omega (arith, ap length whole ∙ length-append g (how.separators.terminator ∷ more), length-drop at s) in
          omega (arith, levels_few profile before_views, history_long how gs, leads_few how 0 s gs at (drop at s) st.passed.leads, inside)

      pub standing_level : Fitted how.separators → length s ≤ limit → (r : ℕ) → Sound profile rows before_views v r → is_hl v ≡ true → T (not (is_se v))
          → state.count < length segments / segment_width → state.levels < length levels / level_width
          → Standing how before s (stored r (state.levels + 1)) (levels_with levels lasts state.levels (state.count + 1) level) (lasts_with lasts state.levels level) next
          (state_after state r (state.levels + 1)) gs' (rows ++ (r ∷ []))
      standing_level fit short r sound hl se room level_room =
          let p = passed_next r sound se (room_level hl room level_room) in
          let more-levels : levels_in profile (onto [] (seen how gs')) ≡ new ∷ levels_in profile before_views =
          ap (levels_in profile) history_more ∙ levels_hl how.profile before_views v hl in
          let one : suc state.count ≡ state.count + 1 = omega arith in
          let two : suc state.levels ≡ state.levels + 1 = omega arith in
          let deep : Everyone Within4 (new ∷ levels_in profile before_views) = rw more-levels at (depths how.profile (seen how gs') p.kept) in
          let written = hl_written how.profile how.separators fit s at g more whole sound.kept.elements (eqb→eq (tag_in_of v) (tag "HL") (rw hl tt)) in
          record {
            passed = p;
            segments_are = segments_more r (state.levels + 1) (belongs_hl profile before_views v se hl ∙ omega (arith, st.counted));
            levels_are = rw (← two, more-levels) (levels_more level_room);
            count_is = count_more;
            rows_are = rows_more r;
            row_is = last_snoc rows 0 r;
            again_is = again_more r;
            counted = rw more-levels (omega (arith, st.counted));
            holds = rw (← one, ← two, ← st.counted, more-levels, parent_is, depth_is, code_is, asks, place)
                (holds_level st.holds at (length g) (r ∷ suc (length (levels_in profile before_views)) ∷ []) refl (omega arith) new (omega (arith, history_long how gs, st.count_is)) deep.0.1
                coded early (rw st.counted level_room) (few short) written);
          }

    -- the SE closes the transaction
    pub standing_closes : (r : ℕ) → Sound profile rows before_views v r → is_hl v ≡ false → T (is_se v) → state.count < length segments / segment_width
        → Read profile how s before (accepted (state.count + 1) state.levels (at + length g + 1))
        (record { segments = stored r 0; levels = cleared state.levels levels })
    standing_closes r sound hl se room =
        let same : levels_in profile (onto [] (seen how gs')) ≡ levels_in profile before_views =
        ap (levels_in profile) history_more ∙ levels_other how.profile before_views v hl in
        let are : cleared state.levels levels ≡ over before.levels (level_records profile how gs') =
        levels_cleared ∙ ap (λ (ls : List Level). over before.levels (records_of ls)) (sym same) in
        record {
          kept = gs';
          numbers = rows ++ (r ∷ []);
          run = record {
            gs = gs;
            rows = rows;
            end = at;
            rest = drop at s;
            passed = st.passed;
            ends = record {
              segment = g;
              row = r;
              keeping = record { more = more; next = cut; sound = sound };
              last = se;
              room = room_other hl room;
              kept_is = refl;
              numbers_is = refl;
              counts = cc (count_more, ap length same ∙ st.counted);
            };
          };
          tables = λ i. record { segments = segments_more r 0 (belongs_se profile before_views v se) i; levels = are i };
        }
