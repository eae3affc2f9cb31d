-- What holds of every level of a list.
-- Assumes nothing.
use Rattle.std.specs.Prelude.{List, [], ◌∷◌}
use Rattle.levels.specs.Levels.{Level}

abbrev pub Everyone : (Level → Type 0) → List Level → Type 0
Everyone P [] = Unit {0}
Everyone P (l ∷ ls) = P l × Everyone P ls
