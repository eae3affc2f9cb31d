-- A reading whose segments stand at other places, by another choice of line ends: where they lead to the same rest, the same is said of what
-- comes next.
-- Assumes nothing.
use Prim.Native.Nat.{ℕ}
use mathlib.Core.Path.{◌≡◌, refl, ap}
use mathlib.Core.Logic.{inl, inr}
use mathlib.Core.List.{List, [], ◌∷◌, ◌++◌}
use Rattle.text.specs.Bytes.{Bytes}
use Rattle.text.specs.View.{View, view_of}
use Rattle.text.specs.Cut.{Placed, Leads}
use Rattle.text.specs.declared.lines.LineEnds.{LineEnds}
use Rattle.text.specs.declared.separators.Separators.{Separators}
use Rattle.rows.specs.declared.profile.ProfileName.{ProfileName}
use Rattle.elements.specs.declared.verdict.Reason.{Reason}
use Rattle.gate.specs.Profile.{Profile}
use Rattle.gate.specs.Segments.{seen}
use Rattle.gate.specs.Records.{Tables, segment_record, segment_records, level_records, over, recorded}
use Rattle.gate.specs.Reads.{cut_by, skip_by, Passed, Keeping, RoomWith}
use Rattle.gate.specs.declared.how.How.{How}
use Rattle.gate.proofs.reading.Once.{Fails}

-- by this profile, with these separators and this choice of line ends
abbrev pub reading : ProfileName → Separators → LineEnds → How
reading name q lines = record { separators = q; lines = lines; profile = name }

-- the records of segments hang on neither choice
pub records_same : (name name' : ProfileName) (q : Separators) (lines lines' : LineEnds) (h : List View) (gs : List Placed) (rows : List ℕ)
    → segment_records (reading name q lines) h gs rows ≡ segment_records (reading name' q lines') h gs rows
records_same name name' q lines lines' h [] rows = refl
records_same name name' q lines lines' h (g ∷ gs) [] = refl
records_same name name' q lines lines' h (g ∷ gs) (r ∷ rows) =
    ap (λ (l : List ℕ). segment_record h (view_of q g.segment) g r ++ l) (records_same name name' q lines lines' (view_of q g.segment ∷ h) gs rows)

pub recorded_same : (profile : Profile) (name : ProfileName) (q : Separators) (lines lines' : LineEnds) (t : Tables) (gs : List Placed) (rows : List ℕ)
    → recorded profile (reading name q lines) t gs rows ≡ recorded profile (reading name q lines') t gs rows
recorded_same profile name q lines lines' t gs rows = λ i. record {
  segments = over t.segments (records_same name name q lines lines' [] gs rows i);
  levels = over t.levels (level_records profile (reading name q lines) gs);
}

module _ (profile : Profile) (name : ProfileName) (q : Separators) (lines lines' : LineEnds) (t : Tables) (gs gs' : List Placed) (rows : List ℕ) (end end' : ℕ) (rest : Bytes)
    (same : seen (reading name q lines') gs' ≡ seen (reading name q lines) gs) where
  abbrev how : How
  how = reading name q lines

  abbrev how' : How
  how' = reading name q lines'

  pub passed_moved : (s s' : Bytes) → Leads (cut_by how') (skip_by how') 0 s' gs' end' rest → Passed profile how t s gs rows end rest
      → Passed profile how' t s' gs' rows end' rest
  passed_moved s s' leads p = record {
    leads = leads;
    viable = p.viable;
    admitted = p.admitted;
    tags = rw same p.tags;
    kept = rw same p.kept;
    ongoing = rw same p.ongoing;
    room = rw same p.room;
  }

  pub room_moved : (g : Bytes) → RoomWith profile how t gs rows end rest g → RoomWith profile how' t gs' rows end' rest g
  room_moved g x = rw same x

  room_back : (g : Bytes) → RoomWith profile how' t gs' rows end' rest g → RoomWith profile how t gs rows end rest g
  room_back g x = rw same at x

  pub keeping_moved : (g : Bytes) (row : ℕ) → Keeping profile how t gs rows end rest g row → Keeping profile how' t gs' rows end' rest g row
  keeping_moved g row k = record { more = k.more; next = k.next; sound = rw same k.sound }

  pub fails_moved : (n : Reason) (e : ℕ) → Fails profile how t gs rows end rest n e → Fails profile how' t gs' rows end' rest n e
  fails_moved n e (inl x) = inl (record { upto = x.upto; more = x.more; stops = x.stops })
  fails_moved n e (inr (inl x)) = inr (inl (record { segment = x.segment; more = x.more; next = x.next; first = rw same x.first }))
  fails_moved n e (inr (inr x)) =
      inr (inr (record {
        segment = x.segment;
        row = x.row;
        keeping = keeping_moved x.segment x.row x.keeping;
        no_room = λ r. x.no_room (room_back x.segment r);
        reason_is = x.reason_is;
        element_is = x.element_is;
      }))
