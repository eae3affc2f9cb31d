-- `read_on` meets its contract: each answer of a cut, of a judgement and of a settlement ends the reading or keeps the invariant, as `Going` says.
-- Assumes nothing.
use mathlib.Core.Path.{refl}
use native.Mathlib.Omega.{arith}
use lib.ListN.{get_or-replicate}
use Rattle.finding.specs.internal.Lists.{lists}
use borrow.Author.Rules.{rules}
use Rattle.reading.proofs.reader.Going.{going_start, onward_stands, onward_ready, onward_forward, segments_few, segments_same, levels_same, uncut_within, uncut_refuses, cut_good, good_forward, good_within, good_inside, in_room, settled_done, settled_passed}
use Rattle.reading.proofs.reading.read_on.Goals as goal

pub loop-cut-init : goal.loop-cut-init
loop-cut-init c = going_start _ _ _ _ _ _ _ refl (λ place h. get_or-replicate lists place 0 0 h) refl refl

pub next_start-onward-requires : goal.next_start-onward-requires
next_start-onward-requires c = c.requires.s_len_bound

pub next_segment-requires : goal.next_segment-requires
next_segment-requires c =
    let started = c.next_start-onward.ensures in
    record {
      special_table = c.requires.special_table;
      fitted = c.requires.fitted;
      serves = onward_ready c.loop-cut.invariant started c.requires.special_table;
      bin_value = started.bin_told;
      starts_len = c.loop-cut.invariant.room;
    }

pub uncut_refused-requires : goal.uncut_refused-requires
uncut_refused-requires c =
    let stands = onward_stands c.loop-cut.invariant c.next_start-onward.ensures in
    record { within = uncut_within stands _ _ _ _ c.next_segment.ensures _ c.in-Err.is; count_bound = omega (arith, segments_few stands) }

pub shape_of-segments-in-Err : goal.shape_of-segments-in-Err
shape_of-segments-in-Err c = segments_same c.loop-cut.invariant.stands

pub shape_of-levels-in-Err : goal.shape_of-levels-in-Err
shape_of-levels-in-Err c = levels_same c.loop-cut.invariant.stands

pub returns-in-Err : goal.returns-in-Err
returns-in-Err c =
    let stands = onward_stands c.loop-cut.invariant c.next_start-onward.ensures in
    uncut_refuses stands _ _ _ _ c.next_segment.ensures _ c.in-Err.is c.requires.fitted _ c.uncut_refused.ensures

pub judge-judged-requires : goal.judge-judged-requires
judge-judged-requires c =
    let told = c.next_segment in
    record { next_table = c.requires.next_table; inside = good_inside (cut_good told.result told.ensures c.in-Ok.is) }

pub settle-requires : goal.settle-requires
settle-requires c =
    let told = c.next_segment in
    in_room (cut_good told.result told.ensures c.in-Ok.is)
    (onward_stands c.loop-cut.invariant c.next_start-onward.ensures) c.requires.s_len_bound

pub shape_of-segments-in-Break : goal.shape_of-segments-in-Break
shape_of-segments-in-Break c =
    search (rules, segments_same c.loop-cut.invariant.stands)

pub shape_of-levels-in-Break : goal.shape_of-levels-in-Break
shape_of-levels-in-Break c =
    search (rules, levels_same c.loop-cut.invariant.stands)

pub returns-in-Break : goal.returns-in-Break
returns-in-Break c =
    let told = c.next_segment in
    settled_done (cut_good told.result told.ensures c.in-Ok.is)
    (onward_stands c.loop-cut.invariant c.next_start-onward.ensures) c.requires.fitted _ c.requires.s_len_bound c.judge-judged.ensures _ _ _ _
    c.settle.ensures _ c.in-Break.is

pub overflow_add-behind : goal.overflow_add-behind
overflow_add-behind c =
    let told = c.next_segment in
    omega (arith, good_within (cut_good told.result told.ensures c.in-Ok.is), c.requires.s_len_bound)

pub loop-cut-smaller : goal.loop-cut-smaller
loop-cut-smaller c =
    let told = c.next_segment in
    let good = cut_good told.result told.ensures c.in-Ok.is in
    let forward = onward_forward c.loop-cut.invariant c.next_start-onward.ensures in
    omega (arith, good_within good, good_forward good, forward)

pub loop-cut-preserved : goal.loop-cut-preserved
loop-cut-preserved c =
    let told = c.next_segment in
    let good = cut_good told.result told.ensures c.in-Ok.is in
    let stands = onward_stands c.loop-cut.invariant c.next_start-onward.ensures in
    record {
      stands = settled_passed good stands c.requires.fitted _ c.requires.s_len_bound c.judge-judged.ensures _ _ _ _ c.settle.ensures _ c.in-Continue.is;
      ready = good.ready;
      room = good.cut_as.laid.room;
    }
