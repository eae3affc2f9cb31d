-- The components of one element, one after the other.
-- Assumes nothing.
use Rattle.std.specs.Prelude.{ℕ, Bool, ◌||◌, eqb, length, get_or}
use Rattle.text.specs.Bytes.{Bytes}
use Rattle.types.specs.Types.{fits}
use Rattle.types.specs.declared.kind.Kind.TheVariants.{AN}
use Rattle.elements.specs.Data.{Value, value, unit_values}

abbrev pub none : Value
none = value AN 0 0

-- component j of NCA05 is empty, or fits
abbrev pub fits_unit : ℕ → Bytes → Bool
fits_unit j s = eqb (length s) 0 || fits (get_or unit_values j none).kind (get_or unit_values j none).least (get_or unit_values j none).most s
