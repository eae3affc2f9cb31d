-- What rewriting knows of an accepted reading.
-- Assumes nothing.
use Rattle.std.specs.Prelude.{◌≡◌, List, Option}
use Rattle.text.specs.Bytes.{Bytes}
use Rattle.text.specs.Separators.{Fitted}
use Rattle.text.specs.Cut.{Placed}
use Rattle.gate.specs.Conditions.{used_by}
use Rattle.rewriting.specs.Rewrites.{rewritten, collision}
use Rattle.rewriting.specs.declared.collisions.Clash.{Clash}
use Rattle.rewriting.specs.declared.table.Reading.{Reading}
use Rattle.rewriting.specs.internal.SegmentTable.{segments_from, NamesFrom}
use Rattle.rewriting.specs.internal.CutOff.{CutOff}

-- its segments
abbrev pub segments_of : Reading → List Placed
segments_of r = segments_from r.bytes.now r.segments.now 0 r.accepted.segments

-- the first place where one of its data bytes equals a new separator
abbrev pub first_clash : Reading → Option Clash
first_clash r = collision r.change.old r.change.new 1 (segments_of r)

-- its segments with the new separators
abbrev pub bytes_again : Reading → Bytes
bytes_again r = rewritten r.change.old r.change.new (segments_of r)

-- its records name them; they were cut off its bytes and take as many as it says; and the new separators are fit
pub record Rewritable (r : Reading) : Type 0 where
  pub names_from : NamesFrom r.bytes.now r.segments.now 0 r.accepted.segments
  pub cut_off : CutOff r.change.old r.bytes.now (segments_of r)
  pub fitted : Fitted r.change.new
  pub used_value : r.accepted.bytes ≡ used_by (segments_of r)
