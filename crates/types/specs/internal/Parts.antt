-- Digits whose number is asked for.
-- Assumes nothing.
use Rattle.std.specs.Prelude.{ℕ, ◌+◌, ◌*◌, ◌^◌, ◌≤◌, ◌≡◌, true, length}
use Rattle.text.specs.Bytes.{Bytes}
use Rattle.types.specs.Types.{is_number}

-- digits that write a number below ten to the fifteenth behind a first one
pub record Valued (first : ℕ) (s : Bytes) : Type 0 where
  pub digits : is_number s ≡ true
  pub small : (first + 1) * 10 ^ length s ≤ 10 ^ 15

-- up to ten digits stand from `from` on
pub record Written (s : Bytes) (from count : ℕ) : Type 0 where
  pub inside : from + count ≤ length s
  pub few : count ≤ 10
  pub digits : is_number s ≡ true
