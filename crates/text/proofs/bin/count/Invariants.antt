-- `count` meets its contract: the loop stands behind some digits, and they write a small number.
-- Assumes nothing.
use Rattle.text.proofs.Counting.{Counting}
use Rattle.text.proofs.bin.count.Given as goal

abbrev pub invariant-loop-digits : goal.invariant-loop-digits
invariant-loop-digits l = Counting l.rest l.element l.from l.digits l.number
