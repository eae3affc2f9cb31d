-- `value_from` meets its contract: the digits so far write `n` behind the first number.
-- Assumes nothing.
use Rattle.types.proofs.Figures.{Figured}
use Rattle.types.proofs.digits.value_from.Given as goal

abbrev pub invariant-loop-digit : goal.invariant-loop-digit
invariant-loop-digit l = Figured l.first l.digits l.digit-index l.n
