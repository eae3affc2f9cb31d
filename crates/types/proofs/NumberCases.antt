-- Worked numbers: what texts hand back, of document 02's Item 6 and of the points that are easily read in two ways, as one table.
-- Assumes nothing.
use Prim.Native.Nat.{ℕ}
use Prim.Native.String.{String}
use mathlib.Core.Path.{◌≡◌, refl}
use mathlib.Core.List.{List, [], ◌∷◌, map}
use lib.IntN.{ℤ, pos, neg_ℤ}
use Rattle.std.specs.Prelude.{Option, Some, None}
use Rattle.text.specs.Bytes.{bytes}
use Rattle.types.specs.Reals.{is_real}
use Rattle.types.specs.Numbers.{checked}
use Rattle.types.specs.Types.{fits}
use Rattle.types.specs.Worth.{worth_at}
use Rattle.types.specs.declared.numbers.Number.{Number}

-- a number without an exponent, and one with it
abbrev plain : ℤ → ℕ → Option Number
plain value places = Some (record { value = value; places = places; exponent = None })

abbrev raised : ℤ → ℕ → ℤ → Option Number
raised value places exponent = Some (record { value = value; places = places; exponent = Some exponent })

-- no number
abbrev unfit : Option Number
unfit = None

-- -n
abbrev less : ℕ → ℤ
less n = neg_ℤ (pos n)

abbrev texts : List (String × Option Number)
texts =
    ("-0.50", plain (less 50) 2) ∷ ("-0", plain (pos 0) 0) ∷ ("0", plain (pos 0) 0) ∷ ("12", plain (pos 12) 0) ∷ ("5.", plain (pos 5) 0)
    ∷ (".5", plain (pos 5) 1) ∷ ("-.5", plain (less 5) 1) ∷ ("007.250", plain (pos 7250) 3) ∷ ("999999999999999", plain (pos 999999999999999) 0)
    ∷ ("-.000000000000001", plain (less 1) 15)
    -- with an exponent, whose digits do not count
    ∷ ("5.E1", raised (pos 5) 0 (pos 1)) ∷ ("-1.5E-07", raised (less 15) 1 (less 7)) ∷ ("5E-0", raised (pos 5) 0 (pos 0)) ∷ ("5E00", raised (pos 5) 0 (pos 0))
    ∷ ("123456789012345E99", raised (pos 123456789012345) 0 (pos 99)) ∷ ("0.5E-99", raised (pos 5) 1 (less 99))
    -- no digit where one is needed, or too many
    ∷ ("", unfit) ∷ (".", unfit) ∷ ("-", unfit) ∷ ("-.", unfit) ∷ ("E5", unfit) ∷ (".E1", unfit) ∷ ("-E1", unfit) ∷ ("5E", unfit) ∷ ("5E-", unfit)
    ∷ ("5E123", unfit) ∷ ("1234567890123456", unfit) ∷ ("1234567890.123456", unfit) ∷ ("0000000000000000", unfit)
    -- other bytes, or bytes elsewhere
    ∷ ("+1", unfit) ∷ ("5E+1", unfit) ∷ ("5e1", unfit) ∷ ("1.2.3", unfit) ∷ ("--5", unfit) ∷ ("5-", unfit) ∷ ("5E1E1", unfit) ∷ ("5E1.0", unfit) ∷ ("5E--1", unfit)
    ∷ (" 5", unfit) ∷ ("1,5", unfit) ∷ []

pub numbers_told : map (λ (x : String × Option Number). checked 1 15 (bytes x.0)) texts ≡ map (λ (x : String × Option Number). x.1) texts
unfolding checked fits is_real
numbers_told = refl

-- the digits alone count for the least and the most
pub bounds_told : checked 1 1 (bytes "-.5E-10") ≡ raised (less 5) 1 (less 10)
unfolding checked fits is_real
bounds_told = refl

pub one_too_many : checked 1 1 (bytes "05") ≡ unfit
unfolding checked fits is_real
one_too_many = refl

pub one_too_few : checked 2 3 (bytes "5") ≡ unfit
unfolding checked fits is_real
one_too_few = refl

-- one half, in thousandths: written in three ways, of which the last has its point moved by the exponent
pub halves : (worth_at 3 (bytes "0.50") ≡ pos 500) × (worth_at 3 (bytes ".5") ≡ pos 500) × (worth_at 2 (bytes "5E-1") ≡ pos 500)
halves = (refl, refl, refl)
