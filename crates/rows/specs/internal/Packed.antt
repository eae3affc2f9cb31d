-- A tag's bytes as one number, by which it is looked up.
-- Assumes nothing.
use Rattle.std.specs.Prelude.{ℕ, suc, ◌+◌, ◌*◌, cond, List, [], ◌∷◌, map, eqb}
use Rattle.text.specs.Bytes.{Bytes}
use Rattle.rows.specs.Tags.{tags}

-- the bytes in one number, the first lowest, and a 1 above the last
abbrev pub packed : Bytes → ℕ
packed [] = 1
packed (b ∷ s) = b + 256 * packed s

-- the place of a number in a list, from 0; the list's length where it does not stand in it
abbrev pub place_of : List ℕ → ℕ → ℕ
place_of [] n = 0
place_of (k ∷ ks) n = cond (eqb k n) 0 (suc (place_of ks n))

-- the tag number for packed bytes
unfoldable pub packed_number : ℕ → ℕ
packed_number n = place_of (map packed tags) n
