-- What is found of levels in lent bytes and tables. Any bytes and tables give an answer; where they hold the levels so far (`TablesHold`), it is right.
-- Assumes nothing.
use Rattle.std.specs.Prelude.{ℕ, zero, suc, ◌+◌, ◌%◌, min, Bool, true, false, not, cond, ◌&&◌, List, [], ◌∷◌, eqb, drop, get_or, Option, None, Some}
use Rattle.text.specs.Bytes.{Bytes}
use Rattle.text.specs.Pieces.{pieces}
use Rattle.levels.specs.declared.judging.Parent.{Parent}
use Rattle.finding.specs.internal.Entries.{start_of, level_entry, deepest}
use Rattle.finding.specs.internal.Lists.{lists}
use Rattle.finding.specs.internal.Notes.{code_in, asks_in, is_shut, is_owing, link_in}

-- the HL01 of the segment that starts there: behind `HL` and a separator, up to the next separator
abbrev pub id_at : Bytes → ℕ → ℕ → Bytes
id_at s separator start = get_or (pieces separator (drop (start + 3) s)) 0 []

-- whether bytes begin with an HL01: it stands there, and a separator follows or they end
abbrev pub starts_with : ℕ → Bytes → Bytes → Bool
starts_with separator [] [] = true
starts_with separator [] (b ∷ s) = eqb b separator
starts_with separator (c ∷ id) [] = false
starts_with separator (c ∷ id) (b ∷ s) = eqb b c && starts_with separator id s

-- whether the HL01 calls level n: the level's segment has it behind `HL` and a separator
abbrev pub calls : Bytes → ℕ → (segments levels : List ℕ) → ℕ → Bytes → Bool
calls s separator segments levels n id = starts_with separator id (drop (start_of segments (level_entry levels n 0) + 3) s)

-- the level that has the HL01, of level n and those before it in its list, `steps` at most; none where none has
abbrev pub sought_from : Bytes → ℕ → (segments levels : List ℕ) → Bytes → ℕ → ℕ → Option ℕ
sought_from s separator segments levels id zero n = None
sought_from s separator segments levels id (suc steps) zero = None
sought_from s separator segments levels id (suc steps) (suc n) =
    cond (calls s separator segments levels (suc n) id) (Some (suc n))
    (sought_from s separator segments levels id steps (min (link_in (level_entry levels (suc n) 3)) n))

-- of a whole list, whose levels have lesser and lesser numbers
unfoldable pub sought : Bytes → ℕ → (segments levels lasts : List ℕ) → ℕ → Bytes → Option ℕ
sought s separator segments levels lasts place id =
    sought_from s separator segments levels id (get_or lasts (place % lists) 0) (get_or lasts (place % lists) 0)

-- the level of that number, which is none for 0
abbrev pub level_of_number : ℕ → Option ℕ
level_of_number zero = None
level_of_number (suc n) = Some (suc n)

-- level n as a parent
unfoldable pub parent_in : List ℕ → ℕ → Parent
parent_in levels n = record {
  number = n;
  code = code_in (level_entry levels n 3);
  shut = is_shut (asks_in (level_entry levels n 3));
  below = min deepest (level_entry levels n 2) + 1;
}

-- whether none of the first n levels owes a child
abbrev pub none_owes : List ℕ → ℕ → Bool
none_owes levels zero = true
none_owes levels (suc n) = not (is_owing (asks_in (level_entry levels (suc n) 3))) && none_owes levels n
