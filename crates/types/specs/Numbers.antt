-- The number that the check of type R hands back. Document 02, Item 6.
-- Assumes nothing.
use Rattle.std.specs.Prelude.{ℕ, Bool, cond, ℤ, pos, neg_ℤ, Option, Some, None}
use Rattle.text.specs.Bytes.{Bytes, value_of}
use Rattle.types.specs.Reals.{is_negative, unsigned, digits, places, is_written, exponent_text}
use Rattle.types.specs.Types.{fits}
use Rattle.types.specs.declared.kind.Kind.TheVariants.{R}
use Rattle.types.specs.declared.numbers.Number.{Number}

-- a number by its sign and its size; 0 has no sign
abbrev pub signed : Bool → ℕ → ℤ
signed negative size = cond negative (neg_ℤ (pos size)) (pos size)

-- "the signed digits as one whole number"
abbrev pub value_in : Bytes → ℤ
value_in s = signed (is_negative s) (value_of (digits s))

-- a whole number: a minus or none, and digits
abbrev pub whole_in : Bytes → ℤ
whole_in t = signed (is_negative t) (value_of (unsigned t))

-- the exponent as a number; 0 where none is written
abbrev pub exponent_in : Bytes → ℤ
exponent_in s = whole_in (exponent_text s)

-- what a text that fits writes; an exponent only where one is written
abbrev pub number_in : Bytes → Number
number_in s = record { value = value_in s; places = places s; exponent = cond (is_written s) (Some (exponent_in s)) None }

-- the check: of a text that fits, with the least and the most digits, its number, and of any other nothing
unfoldable pub checked : ℕ → ℕ → Bytes → Option Number
checked least most s = cond (fits R least most s) (Some (number_in s)) None
