-- `next_plain` meets its contract: each special place keeps the walk or ends it, as `Walk` and `Exits` say.
-- Assumes nothing.
use native.Mathlib.Omega.{arith}
use Rattle.reading.proofs.cut.Walk.{walk_none, count_small, inside, on_element, on_component, on_refill}
use Rattle.reading.proofs.cut.Exits.{at_end, at_bad, at_last}
use Rattle.reading.proofs.cutting.next_plain.Goals as goal

pub loop-head-init : goal.loop-head-init
loop-head-init c =
    walk_none c.args.starts.now c.requires.special_table c.requires.fitted c.requires.ready c.requires.starts_len

pub bounds-s-place : goal.bounds-s-place
bounds-s-place c = inside c.loop-head-2.invariant c.loop-head-2-test.true

pub overflow_add-count : goal.overflow_add-count
overflow_add-count c = omega (arith, count_small c.loop-head-2.invariant)

pub overflow_add-start : goal.overflow_add-start
overflow_add-start c = record {
  fits = omega (arith, inside c.loop-head-2.invariant c.loop-head-2-test.true);
}

pub loop-head-2-preserved-then-byte-separators : goal.loop-head-2-preserved-then-byte-separators
loop-head-2-preserved-then-byte-separators c =
    rw c.keep_start.ensures
    (on_element c.loop-head-2.invariant c.loop-head-2-test.true
    c.if-byte-separators.true)

pub returns-then-byte-separators-2 : goal.returns-then-byte-separators-2
returns-then-byte-separators-2 c =
    rw c.layout_of-layout.ensures (at_end c.loop-head-2.invariant c.loop-head-2-test.true c.if-byte-separators-2.true)

pub stop-requires : goal.stop-requires
stop-requires c = omega (arith, inside c.loop-head-2.invariant c.loop-head-2-test.true)

pub returns-then-byte-separators-3 : goal.returns-then-byte-separators-3
returns-then-byte-separators-3 c =
    at_bad c.loop-head-2.invariant
    c.loop-head-2-test.true c.if-byte-separators.false
    c.if-byte-separators-3.true c.if-byte-separators-2.false c.stop.result c.stop.ensures

pub overflow_add-behind : goal.overflow_add-behind
overflow_add-behind c = record {
  fits = omega (
    arith,
    inside c.loop-head-2.invariant
        c.loop-head-2-test.true,
  );
}

pub loop-head-2-preserved : goal.loop-head-2-preserved
loop-head-2-preserved c =
    on_component c.loop-head-2.invariant
    c.loop-head-2-test.true c.if-byte-separators-3.false

pub returns-then-s-seen : goal.returns-then-s-seen
returns-then-s-seen c = at_last c.loop-head-2.invariant c.loop-head-2-test.false c.if-s-seen.true

pub loop-head-preserved : goal.loop-head-preserved
loop-head-preserved c =
    on_refill c.loop-head-2.invariant c.loop-head-2-test.false _ _ _ c.index-tail.ensures
