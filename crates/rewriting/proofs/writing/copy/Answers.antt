-- The goals of `copy`: byte by byte, as they are.
-- Assumes nothing.
use mathlib.Core.Path.{ap, ◌∙◌}
use mathlib.Core.List.{map-id}
use Rattle.text.specs.Bytes.{Bytes}
use Rattle.rewriting.specs.internal.Output.{put_at, stretch}
use Rattle.rewriting.proofs.OutputSoFar.{so_far_length}
use Rattle.rewriting.proofs.ByteByByte.{written_none, written_inside, written_more, written_all}
use Rattle.rewriting.proofs.writing.copy.Goals as goal

pub loop-i-init : goal.loop-i-init
loop-i-init c = written_none _ _ _ _ _ c.requires.from_le_to c.requires.to_in_bounds c.requires.to_in_bounds_2

pub bounds-output-i : goal.bounds-output-i
bounds-output-i c = written_inside _ _ _ _ _ c.loop-i.invariant c.loop-i-test.true

pub loop-i-preserved : goal.loop-i-preserved
loop-i-preserved c = written_more _ _ _ _ _ c.loop-i.invariant c.loop-i-test.true

pub shape_of-output : goal.shape_of-output
shape_of-output c = so_far_length c.loop-i.invariant.so_far

pub returns : goal.returns
returns c =
    let a = c.args in
    written_all _ _ _ _ _ c.loop-i.invariant c.loop-i-test.false ∙ ap (λ (x : Bytes). put_at a.from x a.output.now) (map-id (stretch a.from a.to a.s.now))
