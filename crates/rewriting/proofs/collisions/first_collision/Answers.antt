-- The goals of `first_collision`: record by record, up to the first that collides.
-- Assumes nothing.
use native.Mathlib.Omega.{arith}
use Rattle.rewriting.proofs.HarmlessBytes.{as_cut}
use Rattle.rewriting.proofs.RecordByRecord.{ahead_next, apart_start, apart_next}
use Rattle.rewriting.proofs.collisions.first_collision.Goals as goal

pub loop-k-init : goal.loop-k-init
loop-k-init c = apart_start _ _ _ _ _ c.requires.names_from c.requires.cut_off

pub segment_collision-requires-clause-as_cut : goal.segment_collision-requires-clause-as_cut
segment_collision-requires-clause-as_cut c =
    let next = ahead_next _ _ _ _ c.loop-k.invariant.ahead c.loop-k-test.true in
    rw c.segment.ensures (as_cut _ c.requires.cut_off.fit _ _ _ next.cut)

pub loop-k-preserved : goal.loop-k-preserved
loop-k-preserved c =
    apart_next _ _ _ _ _ c.loop-k.invariant c.segment.result.now _ c.loop-k-test.true c.segment.ensures
    c.segment_collision.ensures c.in_default.is

pub start-byte-requires : goal.start-byte-requires
start-byte-requires c =
    let named = (ahead_next _ _ _ _ c.loop-k.invariant.ahead c.loop-k-test.true).named in
    omega (arith, named.there)
