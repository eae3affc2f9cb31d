-- A level that is entered behind the first n.
-- Assumes nothing.
use Rattle.std.specs.Prelude.{ℕ, ◌+◌, ◌%◌, List, [], ◌∷◌, get_or, set}
use Rattle.levels.specs.Widths.{level_width}
use Rattle.finding.specs.internal.Entries.{stored_at}
use Rattle.finding.specs.internal.Lists.{lists}
use Rattle.finding.specs.internal.Notes.{note_with, child_met}
use Rattle.reading.specs.declared.storing.NewLevel.{NewLevel}

-- the level table: its record, with a note that names the level before it in its list, and in its parent's note that a child was met
abbrev pub levels_with : (levels lasts : List ℕ) → ℕ → ℕ → NewLevel → List ℕ
levels_with levels lasts n segment level =
    stored_at level_width (child_met levels level.parent) n
    (segment ∷ level.parent ∷ level.depth ∷ note_with level.code level.asks (get_or lasts (level.place % lists) 0) ∷ [])

-- the last levels of the lists
abbrev pub lasts_with : List ℕ → ℕ → NewLevel → List ℕ
lasts_with lasts n level = set lasts (level.place % lists) ((n + 1) % 4294967296)
