-- The reader from the first segment to its answer: what holds at the start, after each segment, and at each end.
-- Assumes nothing.
use Prim.Native.Nat.{ℕ, ◌+◌, ◌-◌, ◌/◌, ◌≤◌, ◌<◌}
use mathlib.Core.Path.{◌≡◌, ap, subst, ◌∙◌}
use mathlib.Core.Logic.{inl, inr}
use mathlib.Core.Bool.{Bool, false}
use mathlib.Core.List.{List, [], ◌∷◌}
use native.Mathlib.Omega.{arith}
use Rattle.std.specs.Prelude.{Result, Ok, Err}
use native.Mathlib.Nat.{add-sub_cancel_left}
use lib.ListN.{length, take, drop, get_or, length-append, length-drop}
use lib.Seq.{take-append_seam}
use Rattle.text.specs.Bytes.{Bytes}
use Rattle.text.specs.View.{plain_view, view_of}
use Rattle.text.specs.Separators.{Fitted}
use Rattle.text.specs.declared.separators.Separators.{Separators}
use Rattle.elements.specs.Checks.{first_broken}
use Rattle.elements.specs.Rules.{data_checks, byte_checks}
use Rattle.gate.specs.Profile.{profile_of}
use Rattle.gate.specs.Segments.{seen, onto}
use Rattle.levels.specs.Widths.{segment_width, level_width}
use Rattle.gate.specs.Records.{Tables}
use Rattle.gate.specs.Reads.{limit, Read}
use Rattle.reading.specs.internal.Cutting.{cut_out, Cuts, BadSegment, GoodSegment}
use Rattle.reading.specs.internal.Judgements.{Judged, Inside, JudgesNext}
use Rattle.reading.specs.internal.Settling.{Step, refused_by, uncut_refused, UncutWithin, InRoom, Stands, Settles, SettlesBy}
use Rattle.reading.specs.internal.SpecialBytes.{SpecialTable}
use Rattle.reading.specs.internal.Queue.{Ready}
use Rattle.reading.specs.internal.Between.{start_at, Starts}
use Rattle.reading.specs.internal.Loop.{Going}
use Rattle.gate.specs.Answers.{Answer, refused}
use Rattle.gate.specs.declared.how.How.{How}
use Rattle.elements.proofs.FirstBroken.{keeps_holds}
use Rattle.elements.specs.declared.layout.Layout.{Layout}
use Rattle.reading.specs.declared.judging.State.{State}
use Rattle.std.specs.declared.ops.ControlFlow.TheVariants.{Continue, Break}
use Rattle.reading.specs.declared.cutting.Onward.{Onward}
use Rattle.reading.specs.declared.cutting.Left.{Left}
use Rattle.reading.specs.declared.cutting.Cut.{Cut}
use Rattle.reading.specs.declared.cutting.Uncut.{Uncut}
use Rattle.reading.specs.declared.cutting.Uncut.TheVariants.{Open, Bad, Broken}
use Rattle.reading.proofs.reader.RuleOrder.{bad_bytes}
use Rattle.reading.proofs.cut.Facts.{ready_none, bytes_plain, plain_of, end_inside}
use Rattle.finding.specs.internal.Lists.{lists}
use Rattle.finding.specs.internal.Notes.{cleared}
use Rattle.reading.proofs.reader.JudgeSteps.{verdict_cases}
use Rattle.reading.proofs.reader.Standings.{standing_start, standing_refuses, segments_long, levels_long, history_long}
use Rattle.elements.specs.declared.verdict.Reason.TheVariants.{Unended, Unfit}

-- at the start
pub going_start : (how : How) (s : Bytes) (specials : List Bool) (before : Tables) (lasts queue starts : List ℕ) → length lasts ≡ lists → ((place : ℕ) → place < lists → get_or lasts place 0 ≡ 0)
    → length queue ≡ 72 → length starts ≡ 33
    → Going how s specials before before.segments before.levels lasts queue starts 0 (record { head = 0; tail = 0; seen = 0 }) (record { count = 0; row = 0; again = false; levels = 0 })
going_start how s specials before lasts queue starts long none q r = record {
  stands = let z : 0 ≡ 0 + 0 = omega arith in rw (← z) (record { gs = []; rows = []; standing = standing_start how before s lasts long none });
  ready = ready_none specials s 0 queue (omega arith) q;
  room = r;
}

-- past the line end the reader stands where the next segment starts, and the queue serves the cut there
module _ {how : How} {s : Bytes} {specials : List Bool} {before : Tables} {segments levels lasts queue starts : List ℕ} {behind : ℕ} {left : Left}
    {state : State} (going : Going how s specials before segments levels lasts queue starts behind left state) {r : Onward} (past : Starts how s behind left r) where
  pub onward_stands : Stands how before s segments levels lasts r.at state
  onward_stands = rw past.start going.stands

  pub onward_ready : SpecialTable how.separators specials → Ready specials s r.at queue r.left.head r.left.tail r.left.seen
  onward_ready table = past.ready specials queue table going.ready

  pub onward_forward : behind ≤ r.at
  onward_forward = omega (arith, past.start)

module _ {how : How} {s : Bytes} {before : Tables} {segments levels lasts : List ℕ} {at : ℕ} {state : State}
    (stands : Stands how before s segments levels lasts at state) where
  -- no more records are counted than there is room for
  pub segments_within : state.count ≤ length segments / segment_width
  segments_within =
      omega (arith, segments_long stands.standing, history_long how stands.gs, stands.standing.count_is, stands.standing.passed.room.segments_fit)

  pub segments_few : state.count ≤ length before.segments / segment_width
  segments_few = omega (arith, history_long how stands.gs, stands.standing.count_is, stands.standing.passed.room.segments_fit)

  levels_within : state.levels ≤ length levels / level_width
  levels_within = omega (arith, levels_long stands.standing, stands.standing.counted, stands.standing.passed.room.levels_fit)

  -- the tables are as long as they were
  pub segments_same : length segments ≡ length before.segments
  segments_same = segments_long stands.standing

  pub levels_same : length levels ≡ length before.levels
  levels_same = levels_long stands.standing

  -- 3
  pub open_refuses : (next : Result Cut Uncut) (queue starts : List ℕ) (specials : List Bool) → Cuts how.separators specials s at queue starts next → next ≡ Err Open
      → Read (profile_of how) how s before (refused Unended (state.count + 1) at 0) (record { segments = segments; levels = cleared state.levels levels })
  open_refuses next queue starts specials cuts is =
      let c = subst (λ (n : Result Cut Uncut). Cuts how.separators specials s at queue starts n) is cuts in
      standing_refuses stands.standing Unended 0 (inl (record { upto = c.upto; more = c.more; stops = c.stops }))

  -- 10, of a BIN
  pub broken_refuses : (next : Result Cut Uncut) (queue starts : List ℕ) (specials : List Bool) → Cuts how.separators specials s at queue starts next
      → (element : ℕ) → next ≡ Err (Broken element)
      → Read (profile_of how) how s before (refused Unfit (state.count + 1) at element) (record { segments = segments; levels = cleared state.levels levels })
  broken_refuses next queue starts specials cuts element is =
      let c = subst (λ (n : Result Cut Uncut). Cuts how.separators specials s at queue starts n) is cuts in
      standing_refuses stands.standing Unfit element (inl (record { upto = c.upto; more = c.more; stops = c.stops }))

  -- 5
  bad_place : {end : ℕ} (b : BadSegment how.separators s at end) → cut_out s at end ≡ b.segment
  bad_place {end} b =
      let e : end - at ≡ length b.segment = ap (λ (x : ℕ). x - at) b.spoilt.place ∙ add-sub_cancel_left at (length b.segment) in
      rw e (ap (take (length b.segment)) b.spoilt.whole ∙ take-append_seam b.segment (how.separators.terminator ∷ b.more))

  pub bad_within : (next : Result Cut Uncut) (queue starts : List ℕ) (specials : List Bool) → Cuts how.separators specials s at queue starts next → (end : ℕ) → next ≡ Err (Bad end)
      → (at ≤ end) × (end ≤ length s)
  bad_within next queue starts specials cuts end is =
      let b = subst (λ (n : Result Cut Uncut). Cuts how.separators specials s at queue starts n) is cuts in
      (omega (arith, b.spoilt.place), omega (arith, b.spoilt.place, length-drop at s, ap length b.spoilt.whole ∙ length-append b.segment (how.separators.terminator ∷ b.more)))

  pub bad_refuses : (next : Result Cut Uncut) (queue starts : List ℕ) (specials : List Bool) → Cuts how.separators specials s at queue starts next → (end : ℕ) → next ≡ Err (Bad end)
      → Fitted how.separators → (r : Answer) → r ≡ refused_by (first_broken (data_checks (plain_view how.separators (cut_out s at end)))) state.count at
      → Read (profile_of how) how s before r (record { segments = segments; levels = cleared state.levels levels })
  bad_refuses next queue starts specials cuts end is fit r says =
      let b = subst (λ (n : Result Cut Uncut). Cuts how.separators specials s at queue starts n) is cuts in
      let v = view_of how.separators b.segment in
      rw (says, bad_place b, ← bytes_plain how.separators fit b.segment (plain_of how.separators fit (drop at s) b.segment b.more b.cut b.plain))
      (verdict_cases (first_broken (byte_checks v))
      (λ e. absurd (b.spoilt.broken ((keeps_holds (byte_checks v)).0 e)))
      (λ n k e.
      rw e
      (standing_refuses stands.standing n k (inr (inl (record {
        segment = b.segment;
        more = b.more;
        next = b.cut;
        first = bad_bytes (profile_of how) stands.rows (onto [] (seen how stands.gs)) v n k e;
      }))))))

  -- any of these
  pub uncut_within : (next : Result Cut Uncut) (queue starts : List ℕ) (specials : List Bool) → Cuts how.separators specials s at queue starts next
      → (uncut : Uncut) → next ≡ Err uncut → UncutWithin s at uncut
  uncut_within next queue starts specials cuts Open is = tt
  uncut_within next queue starts specials cuts (Bad end) is = bad_within next queue starts specials cuts end is
  uncut_within next queue starts specials cuts (Broken element) is = tt

  pub uncut_refuses : (next : Result Cut Uncut) (queue starts : List ℕ) (specials : List Bool) → Cuts how.separators specials s at queue starts next
      → (uncut : Uncut) → next ≡ Err uncut → Fitted how.separators → (r : Answer) → r ≡ uncut_refused how s at state.count uncut
      → Read (profile_of how) how s before r (record { segments = segments; levels = cleared state.levels levels })
  uncut_refuses next queue starts specials cuts Open is fit r says = rw says (open_refuses next queue starts specials cuts is)
  uncut_refuses next queue starts specials cuts (Bad end) is fit r says = bad_refuses next queue starts specials cuts end is fit r says
  uncut_refuses next queue starts specials cuts (Broken element) is fit r says = rw says (broken_refuses next queue starts specials cuts element is)

-- a segment that was cut and has data bytes
module _ {q : Separators} {s : Bytes} {specials : List Bool} {queue starts : List ℕ} {at : ℕ} where
  pub cut_good : (next : Result Cut Uncut) → Cuts q specials s at queue starts next
      → {cut : Cut} → next ≡ Ok cut → GoodSegment q specials s at queue starts cut.layout cut.left
  cut_good next cuts is = subst (λ (n : Result Cut Uncut). Cuts q specials s at queue starts n) is cuts

  module _ {layout : Layout} {left : Left} (good : GoodSegment q specials s at queue starts layout left) where
    pub good_forward : at ≤ layout.end
    good_forward = omega (arith, good.cut_as.laid.place, good.at_is)

    pub good_within : layout.end < length s
    good_within = end_inside good.cut_as

    pub good_inside : Inside s layout
    good_inside = record { forward = omega (arith, good.cut_as.laid.place); within = omega (arith, good_within) }

module _ {how : How} {s : Bytes} {specials : List Bool} {queue starts : List ℕ} {at : ℕ} {layout : Layout} {left : Left}
    (good : GoodSegment how.separators specials s at queue starts layout left) where
  module _ {before : Tables} {segments levels lasts : List ℕ} {state : State} (stands : Stands how before s segments levels lasts at state) where
    pub in_room : length s ≤ 1048576 → InRoom segments levels layout state
    in_room l = record {
      forward = omega (arith, good.cut_as.laid.place);
      short = omega (arith, good_within good);
      segments_fit = segments_within stands;
      levels_fit = levels_within stands;
    }

    -- `settle` on what `judge` said
    module _ (fit : Fitted how.separators) (j : Judged) (short : length s ≤ limit) (judged : JudgesNext how s starts layout state segments levels lasts j)
        (segments' levels' lasts' : List ℕ) (r : Step) (settles : SettlesBy j layout state segments levels lasts segments' levels' lasts' r) where
      settled : Settles how before s layout state.levels segments' levels' lasts' r
      settled =
          let here : Stands how before s segments levels lasts layout.at state = rw good.at_is stands in
          settles how before s here.gs here.rows good.segment good.more (record {
            fit = fit;
            standing = here.standing;
            short = short;
            cut = good.cut_as.cut;
            whole = good.cut_as.laid.whole;
            place = good.cut_as.laid.place;
            right = judged before here.gs here.rows good.segment good.more fit good.cut_as here.standing;
          })

      -- the answer
      pub settled_done : (a : Answer) → r ≡ Break a → Read (profile_of how) how s before a (record { segments = segments'; levels = cleared state.levels levels' })
      settled_done a e = subst (λ (x : Step). Settles how before s layout state.levels segments' levels' lasts' x) e settled

      -- the next place
      pub settled_passed : (after : State) → r ≡ Continue after → Stands how before s segments' levels' lasts' (start_at how s (layout.end + 1)) after
      settled_passed after e = subst (λ (x : Step). Settles how before s layout state.levels segments' levels' lasts' x) e settled
