-- Notes: what the fourth number of a level's record holds while a report is read.
-- Assumes nothing.
use Rattle.std.specs.Prelude.{ℕ, zero, suc, ◌+◌, ◌-◌, ◌*◌, ◌/◌, ◌%◌, Bool, true, false, cond, List, ◌++◌, map, length, take, drop, set}
use Rattle.text.specs.Bytes.{Bytes, bytes, between, same}
use Rattle.levels.specs.Widths.{level_width}
use Rattle.finding.specs.declared.notes.Asks.{Asks}
use Rattle.finding.specs.declared.notes.Asks.TheVariants.{Nothing, Shut, Owes}
use Rattle.finding.specs.internal.Entries.{level_entry, count_in}

-- what a mark asks, as a note has it
abbrev pub asks_number : Asks → ℕ
asks_number Nothing = 0
asks_number Shut = 1
asks_number Owes = 2

-- the code, which is below 8, what the mark still asks, and the level before it in its list
abbrev pub note_of : ℕ → ℕ → ℕ → ℕ
note_of code asks before = code % 8 + asks % 4 * 8 + before % 4294967296 * 32

abbrev pub note_with : ℕ → Asks → ℕ → ℕ
note_with code asks before = note_of code (asks_number asks) before

abbrev pub code_in : ℕ → ℕ
code_in note = note % 8

abbrev pub asks_numbered : ℕ → Asks
asks_numbered zero = Nothing
asks_numbered (suc zero) = Shut
asks_numbered (suc (suc zero)) = Owes
asks_numbered (suc (suc (suc n))) = Nothing

abbrev pub asks_in : ℕ → Asks
asks_in note = asks_numbered (note / 8 % 4)

abbrev pub is_shut : Asks → Bool
is_shut Nothing = false
is_shut Shut = true
is_shut Owes = false

abbrev pub is_owing : Asks → Bool
is_owing Nothing = false
is_owing Shut = false
is_owing Owes = true

abbrev pub link_in : ℕ → ℕ
link_in note = note / 32

-- what a mark asks: that no level hangs under this one, that one does, or nothing
abbrev pub asks_of : Bytes → Asks
asks_of mark = cond (same mark (bytes "0")) Shut (cond (same mark (bytes "1")) Owes Nothing)

-- a note once a child was met: none is owed any more
abbrev pub answered : ℕ → ℕ
answered note = cond (is_owing (asks_in note)) (note - 16) note

-- a level table once a child of that parent was met
abbrev pub child_met : List ℕ → ℕ → List ℕ
child_met levels parent =
    cond (between 1 (length levels / level_width) parent) (set levels ((parent - 1) * level_width + 3) (answered (level_entry levels parent 3))) levels

-- a level table with the codes alone in its first n records, as its caller sees it
abbrev pub plain : ℕ → List ℕ → List ℕ
plain zero t = t
plain (suc n) t = take 3 t ++ (map code_in (take 1 (drop 3 t)) ++ plain n (drop level_width t))

-- in as many as there are, where those are the count or all
abbrev pub cleared : ℕ → List ℕ → List ℕ
cleared count levels = plain (count_in levels count) levels
