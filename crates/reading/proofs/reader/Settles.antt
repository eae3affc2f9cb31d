-- What `settle` answers in each of its cases is right.
-- Assumes nothing.
use Prim.Native.Nat.{ℕ, ◌+◌, ◌-◌, ◌/◌, ◌≤◌, ◌<◌}
use mathlib.Core.Path.{◌≡◌, refl, sym, ap, subst, ◌∙◌}
use mathlib.Core.Logic.{inl, inr}
use mathlib.Core.Bool.{Bool, true, false, not}
use mathlib.Core.List.{List, [], ◌∷◌, ◌++◌}
use native.Mathlib.Omega.{arith}
use Rattle.std.specs.Prelude.{Ok, Err}
use native.Mathlib.Nat.{add-sub_cancel_left}
use lib.Dec.{T, ltb}
use lib.ListN.{length}
use borrow.Author.Tests.{ltb-true, ltb-false}
use Rattle.text.specs.Bytes.{Bytes}
use Rattle.text.specs.View.{View, view_of}
use Rattle.text.specs.Cut.{Placed}
use Rattle.gate.specs.Profile.{profile_of}
use Rattle.levels.specs.Widths.{segment_width, level_width}
use Rattle.gate.specs.Segments.{seen, onto}
use Rattle.gate.specs.Records.{Tables, Room}
use Rattle.reading.specs.internal.Judgements.{Judged, Judges}
use Rattle.reading.specs.internal.Between.{start_at}
use Rattle.reading.specs.internal.Settling.{Step, state_after, refused_at, accepted_at, Settling, Stands, Settles}
use Rattle.gate.specs.declared.how.How.{How}
use Rattle.reading.specs.internal.Entering.{levels_with, lasts_with}
use Rattle.finding.specs.internal.Entries.{stored_at}
use Rattle.elements.specs.declared.verdict.Fault.{Fault}
use Rattle.reading.specs.declared.judging.Judgement.TheVariants.{Other, Level, Last}
use Rattle.elements.specs.declared.layout.Layout.{Layout}
use Rattle.reading.specs.declared.judging.State.{State}
use Rattle.reading.specs.declared.storing.NewLevel.{NewLevel}
use Rattle.gate.specs.Rules.{Sound}
use Rattle.reading.proofs.reader.Standings.{standing_refuses, no_segment_room, no_level_room, standing_other, standing_level, standing_closes}
use Rattle.elements.specs.declared.verdict.Reason.TheVariants.{NoRoom}

-- what a test of room says
pub room : (b : Bool) (n m : ℕ) → b ≡ ltb n m → not b ≡ false → n < m
room true n m e l = ltb-true n m (sym e)
room false n m e l = absurd (subst T l tt)

pub no_room : (b : Bool) (n m : ℕ) → b ≡ ltb n m → not b ≡ true → m ≤ n
no_room true n m e l = absurd (subst T (sym l) tt)
no_room false n m e l = ltb-false n m (sym e)

module _ {how : How} {before : Tables} {s : Bytes} {segments levels lasts : List ℕ} {layout : Layout} {state : State} {gs : List Placed} {rows : List ℕ}
    {g more : Bytes} {j : Judged} (t : Settling how before s segments levels lasts layout state gs rows g more j) where
  abbrev v : View
  v = view_of how.separators g

  abbrev h : List View
  h = onto [] (seen how gs)

  -- the same for what the judgement is
  pub judged_so : (k : Judged) → j ≡ k → Settling how before s segments levels lasts layout state gs rows g more k
  judged_so k q = subst (λ (x : Judged). Settling how before s segments levels lasts layout state gs rows g more x) q t

  -- what the judgement says
  says : (k : Judged) → j ≡ k → Judges (profile_of how) rows h v k
  says k q = subst (λ (x : Judged). Judges (profile_of how) rows h v x) q t.right

  -- how long the segment is
  long : layout.end - layout.at ≡ length g
  long = ap (λ (x : ℕ). x - layout.at) t.place ∙ add-sub_cancel_left layout.at (length g)

  -- the place behind its terminator
  next_at : layout.at + length g + 1 ≡ layout.end + 1
  next_at = omega (arith, t.place)

  -- 4 to 16, and 24
  pub settles_broken : (fault : Fault) → j ≡ Err fault → (r : Step) → r ≡ refused_at fault.reason layout state fault.element
      → Settles how before s layout state.levels segments levels lasts r
  settles_broken fault q r is =
      rw is
      (standing_refuses t.standing fault.reason fault.element
      (inr (inl (record { segment = g; more = more; next = t.cut; first = says (Err fault) q }))))

  -- 17
  full : (row : ℕ) → Sound (profile_of how) rows h v row → (Room (profile_of how) before (v ∷ h) → ⊥) → (r : Step) → r ≡ refused_at NoRoom layout state 0
      → Settles how before s layout state.levels segments levels lasts r
  full row sound none r is =
      rw is
      (standing_refuses t.standing NoRoom 0 (inr (inr (record {
        segment = g;
        row = row;
        keeping = record { more = more; next = t.cut; sound = sound };
        no_room = none;
        reason_is = refl;
        element_is = refl;
      }))))

  pub full_other : (row : ℕ) → j ≡ Ok (Other row) → length segments / segment_width ≤ state.count → (r : Step) → r ≡ refused_at NoRoom layout state 0
      → Settles how before s layout state.levels segments levels lasts r
  full_other row q l = full row (says (Ok (Other row)) q).0 (no_segment_room t.standing g more t.cut t.whole l)

  pub full_level : (row : ℕ) (level : NewLevel) → j ≡ Ok (Level row level) → length segments / segment_width ≤ state.count → (r : Step)
      → r ≡ refused_at NoRoom layout state 0 → Settles how before s layout state.levels segments levels lasts r
  full_level row level q l =
      full row (says (Ok (Level row level)) q).0 (no_segment_room t.standing g more t.cut t.whole l)

  pub full_levels : (row : ℕ) (level : NewLevel) → j ≡ Ok (Level row level) → length levels / level_width ≤ state.levels → (r : Step)
      → r ≡ refused_at NoRoom layout state 0 → Settles how before s layout state.levels segments levels lasts r
  full_levels row level q l =
      let p = says (Ok (Level row level)) q in
      full row p.0 (no_level_room t.standing g more t.cut t.whole p.1 l)

  pub full_last : (row : ℕ) → j ≡ Ok (Last row) → length segments / segment_width ≤ state.count → (r : Step) → r ≡ refused_at NoRoom layout state 0
      → Settles how before s layout state.levels segments levels lasts r
  full_last row q l = full row (says (Ok (Last row)) q).0 (no_segment_room t.standing g more t.cut t.whole l)

  -- passed
  pub settles_other : (row : ℕ) → j ≡ Ok (Other row) → state.count < length segments / segment_width → (segments' : List ℕ) (level : ℕ)
      → segments' ≡ stored_at segment_width segments state.count (layout.at ∷ (layout.end - layout.at) ∷ row ∷ level ∷ []) → level ≡ state.levels
      → (after : State) → after ≡ state_after state row state.levels → Stands how before s segments' levels lasts (start_at how s (layout.end + 1)) after
  settles_other row q room segments' level stored latest after is =
      let p = says (Ok (Other row)) q in
      rw (stored, latest, is, long, ← next_at) (record {
        gs = gs ++ (record { at = layout.at; segment = g } ∷ []);
        rows = rows ++ (row ∷ []);
        standing = standing_other t.standing g more t.cut t.whole row p.0 p.1 p.2 room;
      })

  pub settles_level : (row : ℕ) (level : NewLevel) → j ≡ Ok (Level row level) → state.count < length segments / segment_width → state.levels < length levels / level_width
      → (segments' : List ℕ) → segments' ≡ stored_at segment_width segments state.count (layout.at ∷ (layout.end - layout.at) ∷ row ∷ (state.levels + 1) ∷ []) → (levels' : List ℕ)
      → levels' ≡ levels_with levels lasts state.levels (state.count + 1) level → (lasts' : List ℕ) → lasts' ≡ lasts_with lasts state.levels level → (after : State)
      → after ≡ state_after state row (state.levels + 1) → Stands how before s segments' levels' lasts' (start_at how s (layout.end + 1)) after
  settles_level row level q room level_room segments' stored levels' stored' lasts' listed after is =
      let p = says (Ok (Level row level)) q in
      rw (stored, stored', listed, is, long, ← next_at) (record {
        gs = gs ++ (record { at = layout.at; segment = g } ∷ []);
        rows = rows ++ (row ∷ []);
        standing = standing_level t.standing g more t.cut t.whole level p.3 p.4 p.5 t.fit t.short row p.0 p.1 p.2 room level_room;
      })

  -- accepted
  pub settles_last : (row : ℕ) → j ≡ Ok (Last row) → state.count < length segments / segment_width → (segments' : List ℕ) (level : ℕ)
      → segments' ≡ stored_at segment_width segments state.count (layout.at ∷ (layout.end - layout.at) ∷ row ∷ level ∷ []) → level ≡ 0
      → (r : Step) → r ≡ accepted_at layout state → Settles how before s layout state.levels segments' levels lasts r
  settles_last row q room segments' level stored none r is =
      let p = says (Ok (Last row)) q in
      rw (is, stored, none, long, ← next_at)
      (standing_closes t.standing g more t.cut t.whole row p.0 p.1 p.2 room)
