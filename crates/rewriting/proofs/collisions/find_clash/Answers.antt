-- `find_clash` meets its contract: where one of the quick tests says yes, nothing collides.
-- Assumes nothing.
use mathlib.Core.Path.{sym, ◌∙◌}
use Prim.Native.Nat.{◌≤◌}
use lib.ListN.{length}
use lib.Seq.{length-take-le}
use Rattle.rewriting.proofs.SegmentBytes.{used_within}
use Rattle.rewriting.proofs.HarmlessBytes.{harmless_used}
use Rattle.rewriting.proofs.collisions.find_clash.Goals as goal
use Rattle.rewriting.proofs.collisions.find_clash.Goals.{then-harmless-via-then-harmless, then-harmless-via-else-harmless+then-harmless_runs}

pub slice_bounds-harmless-end : goal.slice_bounds-harmless-end
slice_bounds-harmless-end c =
    let r = c.args.reading in
    let within : r.accepted.bytes ≤ length r.bytes.now = rw c.requires.used_value (used_within _ _ _ c.requires.cut_off) in
    sym (length-take-le r.accepted.bytes r.bytes.now within)

pub returns-then-harmless : goal.returns-then-harmless
returns-then-harmless c =
    let known = c.requires in
    elim c.then-harmless.branch [
      | then-harmless-via-then-harmless w ↦
          sym (harmless_used _ _ _ _ known.cut_off known.fitted _ known.used_value (sym c.harmless.ensures ∙ w.if-harmless.true))
      | then-harmless-via-else-harmless+then-harmless_runs w ↦ sym (w.harmless_runs.ensures w.if-harmless_runs.true)
    ]
