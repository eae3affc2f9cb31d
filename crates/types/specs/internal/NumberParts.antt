-- The parts of a text of type R, as they are passed one behind the other.
-- Assumes nothing.
use Rattle.std.specs.Prelude.{◌+◌, ◌≤◌, ◌≡◌, Bool, true, cond, [], ◌∷◌, ◌++◌, eqb, length, ℤ, Option, Some, None, option_map}
use Rattle.text.specs.Bytes.{Bytes, byte, value_of}
use Rattle.text.specs.Separators.{is_digit}
use Rattle.types.specs.Reals.{is_exponent}
use Rattle.types.specs.Numbers.{signed, whole_in}
use Rattle.types.specs.Types.{is_number}
use Rattle.types.specs.declared.numbers.Number.{Number}

-- the digits that the text begins with
abbrev pub first_digits : Bytes → Bytes
first_digits [] = []
first_digits (b ∷ s) = cond (is_digit b) (b ∷ first_digits s) []

-- digits before and behind the point, fifteen at most
pub record Digits (whole fraction : Bytes) : Type 0 where
  pub before : is_number whole ≡ true
  pub behind : is_number fraction ≡ true
  pub few : length whole + length fraction ≤ 15

-- the exponent that a text writes; None where it writes none
abbrev pub exponent_written : Bytes → Option ℤ
exponent_written t = cond (is_exponent t) (Some (whole_in t)) None

-- what stands behind the digits: no exponent, or `E` and one; None where it belongs to no number
abbrev pub exponent_of_in : Bytes → Option (Option ℤ)
exponent_of_in [] = Some None
exponent_of_in (b ∷ t) = cond (eqb b (byte "E")) (option_map Some (exponent_written t)) None

-- the number that digits before and behind the point write, with a sign and an exponent
abbrev pub number_of : Bool → Bytes → Bytes → Option ℤ → Number
number_of negative whole fraction exponent = record {
  value = signed negative (value_of (whole ++ fraction));
  places = length fraction;
  exponent = exponent;
}
