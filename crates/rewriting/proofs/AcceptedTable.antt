-- The segment table of an accepted reading names its segments.
-- Assumes nothing.
use Prim.Native.Nat.{ℕ}
use mathlib.Core.Path.{◌≡◌, refl, sym, ap, subst, ◌∙◌}
use mathlib.Core.List.{List, []}
use lib.ListN.{length, drop}
use Rattle.std.specs.Prelude.{Ok, Err}
use Rattle.text.specs.Bytes.{Bytes}
use Rattle.text.specs.Cut.{Placed}
use Rattle.text.specs.declared.separators.Separators.{Separators}
use Rattle.text.proofs.View.{fitted}
use Rattle.rows.specs.declared.profile.ProfileName.{ProfileName}
use Rattle.gate.specs.Answers.{Answer, accepted}
use Rattle.gate.specs.Records.{Tables, segment_records}
use Rattle.gate.specs.Reads.{Reads}
use Rattle.gate.specs.Conditions.{Numbering, Shows, used_by}
use Rattle.gate.proofs.reading.Passing.{one_each}
use Rattle.gate.proofs.conditions.Conditions.{accepted_numbered, accepted_proper, condition_2}
use Rattle.rewriting.specs.Rewrites.{strictly, OutcomeOf, AfterAcceptance}
use Rattle.rewriting.specs.internal.SegmentTable.{segments_from, NamesFrom}
use Rattle.rewriting.specs.internal.CutOff.{CutOff}
use Rattle.rewriting.proofs.TableRecords.{stored}

-- the numbers of an acceptance
abbrev pub bytes_of : Answer → ℕ
bytes_of (Ok a) = a.bytes
bytes_of (Err r) = 0

abbrev segments_told : Answer → ℕ
segments_told (Ok a) = a.segments
segments_told (Err r) = 0

module _ (profile : ProfileName) (old : Separators) (s : Bytes) (before : Tables) (a l b : ℕ) (tables : Tables) (reads : Reads (strictly profile old) s before (accepted a l b) tables) where
  -- the segments of the reading
  pub record AcceptedAs : Type 0 where
    pub gs : List Placed
    pub rows : List ℕ
    pub numbering : Numbering (strictly profile old) s gs rows
    pub shows : Shows (strictly profile old) before gs rows (accepted a l b) tables

  kept : AcceptedAs
  kept =
      let m = accepted_numbered (strictly profile old) s before a l b tables reads in
      record {
        gs = m.gs;
        rows = m.rows;
        numbering = m.numbering;
        shows = condition_2.shown (strictly profile old) s before (accepted a l b) tables reads tt m.gs m.rows m.numbering;
      }

  abbrev gs : List Placed
  gs = kept.gs

  abbrev n : Numbering (strictly profile old) s gs kept.rows
  n = kept.numbering

  -- each has a row
  numbered : length kept.rows ≡ length gs
  numbered = one_each (strictly profile old) gs kept.rows n.meets.tags

  named : (segments_from s tables.segments 0 a ≡ gs) × NamesFrom s tables.segments 0 a
  named =
      let records = segment_records (strictly profile old) [] gs kept.rows in
      subst (λ (c : ℕ). (segments_from s tables.segments 0 c ≡ gs) × NamesFrom s tables.segments 0 c) (sym (ap segments_told kept.shows.answer))
      (stored profile old s tables.segments 0 0 [] gs kept.rows s n.end n.rest (drop (length records) before.segments) numbered
      (ap (λ (t : Tables). t.segments) kept.shows.tables) refl n.leads)

  pub accepted_names : NamesFrom s tables.segments 0 a
  accepted_names = named.1

  -- they use as many bytes as the answer says
  pub accepted_bytes : b ≡ used_by (segments_from s tables.segments 0 a)
  accepted_bytes = ap bytes_of kept.shows.answer ∙ ap used_by (sym named.0)

  -- and were cut off by separators that are fit
  pub accepted_cut : CutOff old s (segments_from s tables.segments 0 a)
  accepted_cut = record {
    fit = fitted old (accepted_proper (strictly profile old) s before a l b tables reads).fit;
    end = n.end;
    rest = n.rest;
    leads = rw named.0 n.leads;
  }

  -- the outcome over the segments that the table names is the one that the promise asks
  pub accepting : (new : Separators) (output : Bytes) (r : Answer) (after : Bytes)
      → OutcomeOf old new (segments_from s tables.segments 0 a) (accepted a l b) b output r after
      → AfterAcceptance profile old new s (accepted a l b) b output r after
  accepting new output r after x = record { gs = gs; rows = kept.rows; numbering = n; outcome = rw named.0 at x }
