-- `pass_level` meets its contract: where there is room in both tables the reader stands behind the segment.
-- Assumes nothing.
use Prim.Native.Nat.{ℕ, ◌/◌, ◌<◌}
use mathlib.Core.Path.{refl, ap}
use mathlib.Core.Bool.{not}
use native.Mathlib.Omega.{arith}
use lib.ListN.{length}
use Rattle.levels.specs.Widths.{segment_width, level_width}
use Rattle.reading.proofs.reader.Settles.{room, no_room, full_level, full_levels, settles_level}
use Rattle.reading.proofs.settling.pass_level.Goals as goal
use Rattle.reading.proofs.settling.pass_level.Goals.{Else-not-level_room, Else-not-segment_room, Start}

-- behind the test of the segment table there is room in it
segment-fits : (c : Else-not-segment_room) → c.args.state.count < length c.args.segments.now / segment_width
segment-fits c = room c.segment_room.result _ _ c.segment_room.ensures (ap not c.if-not-segment_room.false)

-- and behind that of the level table in that one
level-fits : (c : Else-not-level_room) → c.args.state.levels < length c.args.levels.now / level_width
level-fits c = room c.level_room.result _ _ c.level_room.ensures (ap not c.if-not-level_room.false)

-- no table has room for more records
small : (c : Start) (n : ℕ) → n < length c.args.segments.now / segment_width → n < 9000000000000000000
small c n room = omega arith

pub returns-then-not-segment_room : goal.returns-then-not-segment_room
returns-then-not-segment_room c = λ how before s gs rows g more t. full_level t _ _ refl (no_room c.segment_room.result _ _ c.segment_room.ensures (ap not c.if-not-segment_room.true)) _ c.no_room.ensures

pub returns-then-not-level_room : goal.returns-then-not-level_room
returns-then-not-level_room c = λ how before s gs rows g more t. full_levels t _ _ refl (no_room c.level_room.result _ _ c.level_room.ensures (ap not c.if-not-level_room.true)) _ c.no_room-then-not-level_room.ensures

pub overflow_add-number : goal.overflow_add-number
overflow_add-number c = omega (arith, level-fits (goal.at.overflow_add-number c).Else-not-level_room)

pub put_segment-requires : goal.put_segment-requires
put_segment-requires c =
    record { at_le_end = c.requires.forward; n_in_bounds = segment-fits (goal.at.put_segment-requires c).Else-not-segment_room }

pub put_level-requires : goal.put_level-requires
put_level-requires c = level-fits (goal.at.put_level-requires c).Else-not-level_room

pub after-requires : goal.after-requires
after-requires c =
    small (goal.at.after-requires c).Start _ (segment-fits (goal.at.after-requires c).Else-not-segment_room)

pub returns : goal.returns
returns c = λ how before s gs rows g more t.
    settles_level t _ _ refl (segment-fits (goal.at.returns c).Else-not-segment_room) (level-fits (goal.at.returns c).Else-not-level_room) _ c.put_segment.ensures _
    c.put_level.ensures.0 _ c.put_level.ensures.1 _ c.after.ensures
