-- `next_bin` meets its contract: the count, and the jump behind it, as `BinCuts` says.
-- Assumes nothing.
use native.Mathlib.Omega.{arith}
use Rattle.reading.proofs.cut.BinCuts.{marked_inside, count_open, count_broken, attached_low, attached_high, counted_cuts}
use Rattle.reading.proofs.cutting.next_bin.Goals as goal

pub overflow_add-at : goal.overflow_add-at
overflow_add-at c =
    let a = c.args in
    omega (arith, marked_inside a.separators a.s.now a.at c.requires.t)

pub overflow_add-count : goal.overflow_add-count
overflow_add-count c =
    let a = c.args in
    omega (arith, attached_high a.separators a.s.now a.at c.requires.t _ c.count.ensures _ _ c.in-Ok.is)

pub next_counted-requires : goal.next_counted-requires
next_counted-requires c =
    let a = c.args in
    let marked = c.requires.t in
    record {
      starts_len = c.requires.starts_len;
      at_bound = attached_low a.separators a.s.now a.at marked _ c.count.ensures _ _ c.in-Ok.is;
      attached_in_bounds = attached_high a.separators a.s.now a.at marked _ c.count.ensures _ _ c.in-Ok.is;
    }

pub returns-in-Ok : goal.returns-in-Ok
returns-in-Ok c =
    let a = c.args in
    counted_cuts a.separators a.s.now a.at c.requires.t _ c.count.ensures _ _ c.in-Ok.is _ _ c.requires.starts_len c.next_counted.result c.next_counted.ensures

pub returns-in-Err-Open : goal.returns-in-Err-Open
returns-in-Err-Open c =
    let a = c.args in
    count_open a.separators a.s.now a.at c.requires.t _ c.count.ensures (rw c.in-Err-Open.field-0-is at c.in-Err-Open.is)

pub returns-in-Err-Broken : goal.returns-in-Err-Broken
returns-in-Err-Broken c =
    let a = c.args in
    count_broken a.separators a.s.now a.at c.requires.t _ c.count.ensures (rw c.in-Err-Broken.field-0-is at c.in-Err-Broken.is)
