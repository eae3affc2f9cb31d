-- The segments written again are as long; where no data byte is a new separator they are cut at the same places, and their views are the same.
-- Assumes nothing.
use Prim.Native.Nat.{ℕ, suc, ◌+◌}
use mathlib.Core.Path.{◌≡◌, refl}
use mathlib.Core.List.{List, [], ◌∷◌, ◌++◌, map}
use native.Mathlib.Omega.{arith}
use lib.Dec.{T}
use lib.ListN.{length, length-append}
use Rattle.std.specs.Prelude.{Option, None, Err}
use Rattle.text.specs.Bytes.{Bytes, every}
use Rattle.text.specs.Pieces.{closed}
use Rattle.text.specs.View.{View, view_of, written, empty, inspected}
use Rattle.text.specs.Cut.{cut_of, Placed, Whole}
use Rattle.text.specs.declared.separators.Separators.{Separators}
use Rattle.text.proofs.SeenAlike.{written_length, part_alike, bytes_alike, elements_alike}
use Rattle.text.proofs.Writable.{Writable, cut_writable, writable_cut, writable_seen, writable_again}
use Rattle.text.specs.Separators.{Fitted}
use Rattle.elements.specs.Checks.{Verdict, Holds, first_broken}
use Rattle.rows.specs.declared.profile.ProfileName.{ProfileName}
use Rattle.gate.specs.Records.{segment_records}
use Rattle.gate.specs.Conditions.{used_by}
use Rattle.elements.proofs.FirstBroken.{each_every}
use Rattle.rewriting.specs.internal.CutOff.{LedStrictly}
use Rattle.rewriting.specs.Lookups.{FoundAlike, AllFoundAlike}
use Rattle.rewriting.specs.Rewrites.{strictly, views_by, rewritten, apart_from, collision_checks, or_later, collision}
use Rattle.rewriting.specs.declared.collisions.Clash.{Clash}
use Rattle.rewriting.proofs.SegmentBytes.{texts}
use Rattle.elements.specs.declared.verdict.Reason.TheVariants.{Collision}

-- no collision in a segment, and none in those behind it
silent : (v : Verdict) (n byte : ℕ) (later : Option Clash) → or_later v n byte later ≡ None → (v ≡ Holds) × (later ≡ None)
silent Holds n byte later e = (refl, e)
silent (Err fault) n byte later e = absurd (cc)

-- where no test fails, no new separator stands in what is looked into
apart_everywhere : (new : Separators) (v : View) → first_broken (collision_checks new v) ≡ Holds → T (every (apart_from new) (inspected v))
unfolding collision_checks
apart_everywhere new v h = each_every Collision (apart_from new) empty (inspected v) h

-- as many bytes as before
pub rewritten_length : (old new : Separators) (gs : List Placed) → length (rewritten old new gs) ≡ length (closed old.terminator (texts gs))
rewritten_length old new [] = refl
rewritten_length old new (g ∷ gs) = simp length-append (omega (arith, written_length old new g.segment, rewritten_length old new gs))

module _ (old new : Separators) (old_fit : Fitted old) (new_fit : Fitted new) where
  -- a segment with its view written again, at the same place
  abbrev pub renewed : Placed → Placed
  renewed g = record { at = g.at; segment = written new (view_of old g.segment) }

  abbrev pub again : List Placed → List Placed
  again gs = map renewed gs

  -- what the segments have where they do not collide
  pub record StaysSame (g : Placed) : Type 0 where
    pub view : view_of new (written new (view_of old g.segment)) ≡ view_of old g.segment
    pub cut : (rest : Bytes) → cut_of new (written new (view_of old g.segment) ++ new.terminator ∷ rest)
        ≡ Whole (written new (view_of old g.segment)) rest
    pub long : length (written new (view_of old g.segment)) ≡ length g.segment

  abbrev pub AllKeep : List Placed → Type 0
  AllKeep [] = Unit {0}
  AllKeep (g ∷ gs) = StaysSame g × AllKeep gs

  pub all_keep : (n at : ℕ) (s : Bytes) (gs : List Placed) (end : ℕ) (rest : Bytes)
      → LedStrictly old at s gs end rest → collision old new n gs ≡ None → AllKeep gs
  all_keep n at s [] end rest l e = tt
  all_keep n at s (g ∷ gs) end rest l e =
      let v = view_of old g.segment in
      let i = silent (first_broken (collision_checks new v)) n g.at (collision old new (suc n) gs) e in
      let w : Writable new v =
      writable_again old new v (cut_writable old old_fit s g.segment l.0 l.1) (apart_everywhere new v i.0) in (
        record {
          view = writable_seen new new_fit v w;
          cut = writable_cut new new_fit v w;
          long = written_length old new g.segment;
        },
        all_keep (suc n) (at + length g.segment + 1 + 0) l.0 gs end rest l.3 i.1,
      )

  -- the same views
  pub same_views : (gs : List Placed) → AllKeep gs → views_by new (again gs) ≡ views_by old gs
  same_views [] k = refl
  same_views (g ∷ gs) k = rw (k.0.view, same_views gs k.1)

  -- the same places, and nothing behind them
  pub same_places : (at : ℕ) (s : Bytes) (gs : List Placed) (end : ℕ) (rest : Bytes) → AllKeep gs → LedStrictly old at s gs end rest
      → LedStrictly new at (rewritten old new gs) (again gs) end []
  same_places at s [] end rest k l = (l.0, refl)
  same_places at s (g ∷ gs) end rest k l = (
    rewritten old new gs,
    k.0.cut (rewritten old new gs),
    l.2,
    rw k.0.long (same_places (at + length g.segment + 1 + 0) l.0 gs end rest k.1 l.3),
  )

  pub same_used : (gs : List Placed) → AllKeep gs → used_by (again gs) ≡ used_by gs
  same_used [] k = refl
  same_used (g ∷ []) k = rw k.0.long
  same_used (g ∷ (h ∷ gs)) k = same_used (h ∷ gs) k.1

  -- the same records
  pub same_records : (profile : ProfileName) (h : List View) (gs : List Placed) (rows : List ℕ) → AllKeep gs
      → segment_records (strictly profile new) h (again gs) rows ≡ segment_records (strictly profile old) h gs rows
  same_records profile h [] rows k = refl
  same_records profile h (g ∷ gs) [] k = refl
  same_records profile h (g ∷ gs) (r ∷ rows) k = rw (k.0.view, k.0.long, same_records profile (view_of old g.segment ∷ h) gs rows k.1)

  -- and every lookup finds the same
  found_alike : (g : Placed) → StaysSame g → FoundAlike old g.segment new (written new (view_of old g.segment))
  found_alike g k =
      let h = written new (view_of old g.segment) in
      record {
        place = part_alike new old h g.segment k.view;
        component = bytes_alike new old h g.segment k.view;
        element = elements_alike new old h g.segment k.view;
      }

  pub same_lookups : (gs : List Placed) → AllKeep gs → AllFoundAlike old gs new (again gs)
  same_lookups [] k = tt
  same_lookups (g ∷ gs) k = (refl, found_alike g k.0, same_lookups gs k.1)
