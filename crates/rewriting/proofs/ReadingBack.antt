-- What a successful rewriting has written: it holds the same report, a lookup finds the same in it, it is read to the same answer and tables, it is as long as what was read, and
-- with the old separators it is the same bytes.
-- Assumes nothing.
use Prim.Native.Nat.{ℕ, ◌≤◌}
use mathlib.Core.Path.{◌≡◌, refl, sym, ap, ◌∙◌}
use mathlib.Core.List.{List, [], ◌∷◌}
use native.Mathlib.Omega.{arith}
use lib.ListN.{length, take, drop, length-map, length-append}
use lib.Seq.{take_at, drop_at}
use Rattle.text.specs.Bytes.{Bytes}
use Rattle.text.specs.Pieces.{closed}
use Rattle.text.specs.Cut.{Placed}
use Rattle.text.specs.declared.separators.Separators.{Separators}
use Rattle.text.proofs.View.{fitted}
use Rattle.text.proofs.BinView.{written_view}
use Rattle.text.specs.Separators.{Fitted}
use Rattle.rows.specs.declared.profile.ProfileName.{ProfileName}
use Rattle.gate.specs.Profile.{profile_named}
use Rattle.gate.specs.Segments.{seen, onto, levels_in}
use Rattle.gate.specs.Answers.{accepted}
use Rattle.gate.specs.Records.{Tables, recorded}
use Rattle.gate.specs.Reads.{limit, Reads}
use Rattle.gate.specs.Conditions.{Numbering, used_by, Shows, HasRoom}
use Rattle.gate.proofs.conditions.Conditions.{accepted_numbered, accepted_proper, meets_accepted, numbering_once}
use Rattle.rewriting.specs.Rewrites.{strictly, rewritten}
use Rattle.rewriting.specs.internal.CutOff.{LedStrictly}
use Rattle.rewriting.specs.Conditions.{SameReport, ReadsTo, WritesExactly}
use Rattle.rewriting.specs.Lookups.{LookedUpAlike}
use Rattle.rewriting.proofs.SegmentBytes.{texts, spelt, used_length, used_taken}
use Rattle.rewriting.proofs.WrittenSegments.{rewritten_length, again, AllKeep, all_keep, same_views, same_places, same_used, same_records, same_lookups}
use Rattle.rewriting.proofs.AcceptedTable.{bytes_of}
use Rattle.rewriting.proofs.SuccessFacts.{Success}

module _ (profile : ProfileName) (old new : Separators) (s : Bytes) (before : Tables) (output : Bytes) (a l b : ℕ) (tables : Tables) (after : Bytes)
    (x : Success profile old new s before output a l b tables after) where
  abbrev old_fitted : Fitted old
  old_fitted = fitted old x.old_fit

  abbrev new_fitted : Fitted new
  new_fitted = fitted new x.new_fit

  abbrev n : Numbering (strictly profile old) s x.gs x.rows
  n = x.numbering

  -- the segments as they stand in the output, and its bytes
  abbrev renewed : List Placed
  renewed = again old new old_fitted new_fitted x.gs

  abbrev out : Bytes
  out = rewritten old new x.gs

  keep : AllKeep old new old_fitted new_fitted x.gs
  keep = all_keep old new old_fitted new_fitted 1 0 s x.gs n.end n.rest n.leads x.apart

  -- the reading of the old bytes
  abbrev short : length s ≤ limit
  short = (accepted_proper (strictly profile old) s before a l b tables x.reads).short

  room : HasRoom (strictly profile old) before x.gs
  room =
      let m = accepted_numbered (strictly profile old) s before a l b tables x.reads in
      rw (numbering_once (strictly profile old) s x.gs m.gs x.rows m.rows n m.numbering).0 m.room

  shows : Shows (strictly profile old) before x.gs x.rows (accepted a l b) tables
  shows = meets_accepted (strictly profile old) s before x.gs x.rows x.old_fit short n room (accepted a l b) tables x.reads

  pub used : b ≡ used_by x.gs
  used = ap bytes_of shows.answer

  -- the new bytes are as many
  long : length out ≡ b
  long = rewritten_length old new x.gs ∙ sym (used_length old s x.gs n.end n.rest n.leads) ∙ sym used

  pub taken_again : take b after ≡ out
  taken_again = ap (take b) x.output_is ∙ take_at out (drop (length out) output) b long

  pub writes_used : WritesExactly b output after
  writes_used = record {
    room = x.room;
    written = ap length taken_again ∙ long;
    kept = ap (drop b) x.output_is ∙ drop_at out (drop (length out) output) b long ∙ ap (λ (k : ℕ). drop k output) long;
  }

  -- the same report
  views : seen (strictly profile new) renewed ≡ seen (strictly profile old) x.gs
  views = same_views old new old_fitted new_fitted x.gs keep

  leads_again : LedStrictly new 0 out renewed n.end []
  leads_again = same_places old new old_fitted new_fitted 0 s x.gs n.end n.rest keep n.leads

  numbering_again : Numbering (strictly profile new) out renewed x.rows
  numbering_again = record { end = n.end; rest = []; leads = leads_again; meets = rw views n.meets }

  pub same_report : SameReport profile old s new (take b after)
  same_report = record {
    rows = x.rows;
    old_segments = x.gs;
    new_segments = renewed;
    old_numbering = n;
    new_numbering = rw taken_again numbering_again;
    elements = views;
  }

  -- in which a lookup finds the same
  pub looked_up : LookedUpAlike profile old s new (take b after)
  unfolding same_report
  looked_up = record { report = same_report; alike = same_lookups old new old_fitted new_fitted x.gs keep }

  -- read to the same answer and tables
  room_again : HasRoom (strictly profile new) before renewed
  room_again = rw views room

  answer_again : accepted a l b ≡ accepted (length renewed) (length (levels_in (profile_named profile) (onto [] (seen (strictly profile new) renewed)))) (used_by renewed)
  answer_again = shows.answer ∙ rw (views, same_used old new old_fitted new_fitted x.gs keep, length-map)

  tables_again : recorded (profile_named profile) (strictly profile new) before renewed x.rows ≡ tables
  tables_again = rw (views, same_records old new old_fitted new_fitted profile [] x.gs x.rows keep) (sym shows.tables)

  short_again : length out ≤ limit
  short_again = omega (
    arith,
    long,
    used,
    used_length old s x.gs n.end n.rest n.leads,
    ap length (spelt old 0 s x.gs n.end n.rest n.leads) ∙ length-append (closed old.terminator (texts x.gs)) n.rest,
    short,
  )

  pub reads_back : ReadsTo (strictly profile new) (take b after) before (accepted a l b) tables
  reads_back r t y =
      let z : Reads (strictly profile new) out before r t = rw taken_again at y in
      let w = meets_accepted (strictly profile new) out before renewed x.rows x.new_fit short_again numbering_again room_again r t z in
      (w.answer ∙ sym answer_again, w.tables ∙ tables_again)

-- with the old separators
module _ (profile : ProfileName) (old : Separators) (s : Bytes) (before : Tables) (output : Bytes) (a l b : ℕ) (tables : Tables) (after : Bytes)
    (x : Success profile old old s before output a l b tables after) where
  written_same : (gs : List Placed) → rewritten old old gs ≡ closed old.terminator (texts gs)
  written_same [] = refl
  written_same (g ∷ gs) = rw (written_view old g.segment, written_same gs)

  pub same_again : take b after ≡ take b s
  same_again =
      let n = x.numbering in
      taken_again profile old old s before output a l b tables after x
      ∙ written_same x.gs
      ∙ sym (used_taken old s x.gs n.end n.rest n.leads)
      ∙ ap (λ (k : ℕ). take k s) (sym (used profile old old s before output a l b tables after x))
