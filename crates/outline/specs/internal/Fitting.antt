-- What the tests of a table say.
-- Assumes nothing.
use Rattle.std.specs.Prelude.{ℕ, ◌<◌, ◌≤◌, ◌≡◌, ◌⊎◌, Bool, true, false, List, Option, Some, None, Result, Ok, Err}
use Rattle.outline.specs.Walks.{Fit, FitTable, room_of}
use Rattle.outline.specs.declared.answer.Reason.TheVariants.{UnfitTable, ShortOutput}
use Rattle.outline.specs.declared.answer.Unlisted.{Unlisted}

-- yes where it is so, no where it is not
abbrev pub Decides : Bool → Type 0 → Type 0
Decides true P = P
Decides false P = P → ⊥

-- the first unfit of the levels 1 to count; none where all are fit
abbrev pub FirstUnfit : List ℕ → ℕ → Option ℕ → Type 0
FirstUnfit t count None = FitTable t count
FirstUnfit t count (Some k) = (1 ≤ k) × (k ≤ count) × ((j : ℕ) → 1 ≤ j → j < k → Fit t j) × (Fit t k → ⊥)

module _ (t : List ℕ) (count places : ℕ) where
  -- why levels are refused before anything is listed: the table has no room for so many, or a level is unfit, or the places are fewer
  abbrev pub Unlistable : Unlisted → Type 0
  Unlistable u =
      ((room_of t < count) × (u ≡ record { reason = UnfitTable; level = 0 }))
      ⊎ (((count ≤ room_of t) × FirstUnfit t count (Some u.level) × (u.reason ≡ UnfitTable))
      ⊎ ((count ≤ room_of t) × FitTable t count × (places < count) × (u ≡ record { reason = ShortOutput; level = 0 })))

  -- what the tests of a table, a count and a number of places tell
  abbrev pub Listable : Result (Unit {0}) Unlisted → Type 0
  Listable (Ok _) = (count ≤ room_of t) × FitTable t count × (count ≤ places)
  Listable (Err u) = Unlistable u
