-- `next_segment` meets its contract: what begins like a BIN is cut by its count, all else at the next terminator.
-- Assumes nothing.
use mathlib.Core.Path.{sym, ◌∙◌}
use Rattle.reading.proofs.cut.Facts.{plain_cuts, bin_cuts}
use Rattle.reading.proofs.cutting.next_segment.Goals as goal

pub returns-then-onward : goal.returns-then-onward
returns-then-onward c =
    let a = c.args in
    bin_cuts a.separators a.s.now a.onward.at _ a.specials.now a.queue.now c.requires.serves.size c.next_bin.result c.next_bin.ensures

pub returns : goal.returns
returns c =
    let a = c.args in
    plain_cuts a.separators c.requires.fitted a.s.now a.onward.at (sym c.requires.bin_value ∙ c.if-onward.false) _ _ _ c.next_plain.result c.next_plain.ensures
