-- `read` meets its contract: 1 and 2, then what the segments say.
-- Assumes nothing.
use native.Mathlib.Omega.{arith}
use Rattle.text.proofs.View.{fitted}
use Rattle.reading.proofs.reader.FirstTests.{segments_answer}
use Rattle.reading.proofs.reading.read.Goals as goal

pub read_on-ended-requires : goal.read_on-ended-requires
read_on-ended-requires c =
    record {
      fitted = fitted _ (grind arith);
      s_len_bound = omega arith;
      special_table = c.set_special.ensures;
      next_table = c.next_table-table.ensures;
    }

pub returns : goal.returns
returns c =
    let a = c.args in
    segments_answer a.how a.s.now _ (grind arith) (omega arith) _ _ (rw c.clear.ensures c.read_on-ended.ensures)
