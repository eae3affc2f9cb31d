-- Lists of levels whose HL01s fall together.
-- Assumes nothing.
use Rattle.std.specs.Prelude.{ℕ, suc, ◌+◌, ◌*◌, ◌%◌, cond, List, [], ◌∷◌, eqb, length}
use Rattle.text.specs.Bytes.{Bytes}
use Rattle.levels.specs.Levels.{Level}

-- how many lists there are
abbrev pub lists : ℕ
lists = 512

-- the list that an HL01 belongs to
abbrev pub place_from : ℕ → Bytes → ℕ
place_from n [] = n
place_from n (b ∷ s) = place_from ((n * 37 + b) % lists) s

unfoldable pub place_of : Bytes → ℕ
place_of id = place_from 0 id

-- the last level of a list; 0 for none
abbrev pub last_in : ℕ → List Level → ℕ
last_in place [] = 0
last_in place (l ∷ ls) = cond (eqb (place_of l.id) place) (suc (length ls)) (last_in place ls)
