-- `pass_other` meets its contract: where there is room the reader stands behind the segment.
-- Assumes nothing.
use Prim.Native.Nat.{◌/◌, ◌<◌}
use mathlib.Core.Path.{refl, ap}
use mathlib.Core.Bool.{not}
use native.Mathlib.Omega.{arith}
use lib.ListN.{length}
use Rattle.levels.specs.Widths.{segment_width}
use Rattle.reading.proofs.reader.Settles.{room, no_room, full_other, settles_other}
use Rattle.reading.proofs.settling.pass_other.Goals as goal
use Rattle.reading.proofs.settling.pass_other.Goals.{Else-not-segment_room}

-- behind the test there is room
fits : (c : Else-not-segment_room) → c.args.state.count < length c.args.segments.now / segment_width
fits c = room c.segment_room.result _ _ c.segment_room.ensures (ap not c.if-not-segment_room.false)

pub returns-then-not-segment_room : goal.returns-then-not-segment_room
returns-then-not-segment_room c = λ levels lasts how before s gs rows g more t.
    let asked = c.segment_room in
    full_other t _ refl (no_room asked.result _ _ asked.ensures (ap not c.if-not-segment_room.true)) _ c.no_room.ensures

pub put_segment-requires : goal.put_segment-requires
put_segment-requires c = record { at_le_end = c.requires.at_le_end; n_in_bounds = fits (goal.at.put_segment-requires c).Else-not-segment_room }

pub returns : goal.returns
returns c = λ levels lasts how before s gs rows g more t.
    settles_other t _ refl (fits (goal.at.returns c).Else-not-segment_room) _ _ c.put_segment.ensures (omega arith) _ c.after.ensures
