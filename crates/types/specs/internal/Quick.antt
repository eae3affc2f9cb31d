-- The usual values of each type, which a few comparisons tell. What fits quickly fits (`quickly_fits`); what does not may fit all the same.
-- Assumes nothing.
use Rattle.std.specs.Prelude.{ℕ, Bool, true, ◌&&◌, leb, eqb, length}
use Rattle.text.specs.Bytes.{Bytes, between}
use Rattle.types.specs.Types.{is_id, is_number, figures, is_time, is_of}
use Rattle.types.specs.declared.kind.Kind.{Kind}
use Rattle.types.specs.declared.kind.Kind.TheVariants.{AN, ID, Set842, N0, R, DT, TM}

-- an ID of up to three bytes
unfoldable pub is_short_id : Bytes → Bool
is_short_id s = leb (length s) 3 && is_id s

-- a date with a day up to the 28th
unfoldable pub is_early_date : Bytes → Bool
is_early_date s = eqb (length s) 8 && is_number s && between 1 12 (figures 4 2 s) && between 1 28 (figures 6 2 s)

-- a time in hours and minutes
unfoldable pub is_short_time : Bytes → Bool
is_short_time s = eqb (length s) 4 && is_time s

-- a usual value of the type; an R of up to fifteen digits alone
abbrev pub is_quick : Kind → Bytes → Bool
is_quick AN s = true
is_quick ID s = is_short_id s
is_quick Set842 s = is_of Set842 s
is_quick N0 s = is_number s
is_quick R s = leb (length s) 15 && is_number s
is_quick DT s = is_early_date s
is_quick TM s = is_short_time s

-- it has a byte, and the least and the most length
unfoldable pub is_sized : ℕ → ℕ → Bytes → Bool
is_sized least most s = leb 1 (length s) && leb least (length s) && leb (length s) most

unfoldable pub fits_quickly : Kind → ℕ → ℕ → Bytes → Bool
fits_quickly kind least most s = is_sized least most s && is_quick kind s
