-- Where a piece may end.
-- Assumes nothing.
use Rattle.std.specs.Prelude.{ℕ, Bool, true, Option, None, Some, eqb}

-- whether a piece may end before that byte, or where there is none: the bytes end with it, or the separator follows
abbrev pub ends_by : ℕ → Option ℕ → Bool
ends_by separator None = true
ends_by separator (Some b) = eqb b separator
