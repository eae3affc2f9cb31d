-- What a search for a byte finds.
-- Assumes nothing.
use Rattle.std.specs.Prelude.{ℕ, ◌+◌, ◌≡◌, [], ◌∷◌, ◌++◌, length, drop, Option, Some, None}
use Rattle.text.specs.Bytes.{Bytes}

-- the byte does not stand in the bytes
abbrev pub Free : ℕ → Bytes → Type 0
Free byte [] = Unit {0}
Free byte (b ∷ s) = (b ≡ byte → ⊥) × Free byte s

-- from `from` on, s is a gap without the byte, then the byte at the place j, then the rest
pub record FirstAt (s : Bytes) (from byte j : ℕ) : Type 0 where
  pub gap : Bytes
  pub rest : Bytes
  pub whole : drop from s ≡ gap ++ byte ∷ rest
  pub free : Free byte gap
  pub place : j ≡ from + length gap

abbrev pub Finds : Bytes → ℕ → ℕ → Option ℕ → Type 0
Finds s from byte (Some j) = FirstAt s from byte j
Finds s from byte None = Free byte (drop from s)
