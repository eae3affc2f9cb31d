-- `find` meets its contract: where a byte differs, the level has another HL01.
-- Assumes nothing.
use native.Mathlib.Omega.{arith}
use Rattle.finding.proofs.FirstPiece.{starts_other_byte}
use Rattle.finding.proofs.LevelSearch.{sought_miss}
use Rattle.finding.proofs.search.find.Goals as goal

pub levels-preserved : goal.levels-preserved
levels-preserved c = grind (arith, starts_other_byte, sought_miss)
