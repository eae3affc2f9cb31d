-- `write_accepted` meets its contract.
-- Assumes nothing.
use mathlib.Core.Path.{sym, ◌∙◌}
use Rattle.rewriting.proofs.Outcomes.{collided, too_short, put}
use Rattle.rewriting.proofs.rewriting.write_accepted.Goals as goal

pub returns-in-Some : goal.returns-in-Some
returns-in-Some c =
    let r = c.args.reading in
    collided r.change.old r.change.new r.bytes.now r.segments.now r.accepted c.args.output.now c.in-Some.clash
    (sym c.in-Some.is ∙ c.find_clash.ensures)

pub returns-then-output-reading : goal.returns-then-output-reading
returns-then-output-reading c =
    let r = c.args.reading in
    rw c.refused.ensures
    (too_short r.change.old r.change.new r.bytes.now r.segments.now r.accepted c.args.output.now
    (sym c.in_default.is ∙ c.find_clash.ensures) c.if-output-reading.true)

pub returns : goal.returns
returns c =
    let r = c.args.reading in
    put r.change.old r.change.new r.bytes.now r.segments.now r.accepted c.args.output.now
    (sym c.in_default.is ∙ c.find_clash.ensures) c.if-output-reading.false _ c.write_segments.ensures
