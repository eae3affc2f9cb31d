-- The promises of the functions that other languages call: what each writes into the numbers that the caller lends.
-- Assumes nothing.
use Rattle.std.specs.Prelude.{ℕ, ◌/◌, ◌%◌, ◌≡◌, Bool, cond, List, [], ◌∷◌, eqb, ℤ, pos, Option, Some, None, is_some, Ok, Err}
use Rattle.std.specs.Option.{unwrap_or}
use Rattle.text.specs.Bytes.{Bytes}
use Rattle.text.specs.Lookup.{part_span}
use Rattle.text.specs.declared.lines.LineEnds.{LineEnds}
use Rattle.text.specs.declared.lines.LineEnds.TheVariants.{Skipped, Strict}
use Rattle.text.specs.declared.lookup.Span.{Span}
use Rattle.text.specs.declared.separators.Separators.{Separators}
use Rattle.rows.specs.declared.profile.ProfileName.{ProfileName}
use Rattle.rows.specs.declared.profile.ProfileName.TheVariants.{Report, Reply}
use Rattle.types.specs.declared.numbers.Number.{Number}
use Rattle.gate.specs.Answers.{Answer, numbers_of}
use Rattle.gate.specs.Records.{Tables}
use Rattle.gate.specs.Reads.{Reads}
use Rattle.gate.specs.declared.how.How.{How}
use Rattle.rewriting.specs.Rewrites.{Rewrites}
use Rattle.outline.specs.Walks.{Walked, number_of, Walks}

-- three bytes as separators
abbrev pub separators_of : ℕ → ℕ → ℕ → Separators
separators_of element component terminator = record { element = element; component = component; terminator = terminator }

-- what a sum of flags says of line ends: strict with the flag 1, the lowest bit, else they are skipped
abbrev pub lines_of : ℕ → LineEnds
lines_of how = cond (eqb (how % 2) 1) Strict Skipped

-- and of the profile: storage-quality replies with the flag 2, the next bit, else nonconformance reports. No other bit is looked at
abbrev pub profile_in : ℕ → ProfileName
profile_in how = cond (eqb (how / 2 % 2) 1) Reply Report

-- all of it together
abbrev pub how_of : ℕ → ℕ → ℕ → ℕ → How
how_of element component terminator how =
    record { separators = separators_of element component terminator; lines = lines_of how; profile = profile_in how }

-- the two lent tables
abbrev pub tables_of : List ℕ → List ℕ → Tables
tables_of segments levels = record { segments = segments; levels = levels }

-- a reading, told by the four numbers of its answer
pub record Told (how : How) (s : Bytes) (before after : Tables) (four : List ℕ) : Type 0 where
  pub answer : Answer
  pub reads : Reads how s before answer after
  pub numbers : four ≡ numbers_of answer

-- a rewriting, told by the four numbers of its answer
pub record ToldAgain (profile : ProfileName) (old new : Separators) (s : Bytes) (before : Tables) (output : Bytes) (after : Tables) (written : Bytes) (four : List ℕ) : Type 0 where
  pub answer : Answer
  pub rewrites : Rewrites profile old new s before output answer after written
  pub numbers : four ≡ numbers_of answer

-- the two numbers of a walk's answer: 0 with the count of levels, or the refusal with the level
abbrev pub walk_numbers : Walked → List ℕ
walk_numbers (Ok levels) = 0 ∷ levels ∷ []
walk_numbers (Err u) = number_of u.reason ∷ u.level ∷ []

-- a walk, told by the two numbers of its answer
pub record ToldWalk (levels : List ℕ) (count : ℕ) (before after : List ℕ) (two : List ℕ) : Type 0 where
  pub answer : Walked
  pub walks : Walks levels count before answer after
  pub numbers : two ≡ walk_numbers answer

-- the two numbers of a part: where it starts, and how long it is
abbrev pub span_numbers : Span → List ℕ
span_numbers p = p.start ∷ p.len ∷ []

-- a part of a segment, told by its two numbers; no terminator has a say in it
abbrev pub ToldPart : (element component : ℕ) → Bytes → (number part : ℕ) → List ℕ → Type 0
ToldPart element component segment number part two =
    (terminator : ℕ) → two ≡ span_numbers (part_span (separators_of element component terminator) segment number part)

-- 1 for yes and 0 for no
abbrev pub bit_of : Bool → ℤ
bit_of told = cond told (pos 1) (pos 0)

-- the five numbers of a number check: fit or unfit, the value, how many digits stand behind the point, the exponent, 0 where none is written, and
-- whether one is written
abbrev pub number_numbers : Option Number → List ℤ
number_numbers None = pos 0 ∷ pos 0 ∷ pos 0 ∷ pos 0 ∷ pos 0 ∷ []
number_numbers (Some n) = pos 1 ∷ n.value ∷ pos n.places ∷ unwrap_or n.exponent (pos 0) ∷ bit_of (is_some n.exponent) ∷ []
