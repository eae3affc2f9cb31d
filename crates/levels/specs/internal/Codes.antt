-- The numbers of codes.
-- Assumes nothing.
use Rattle.std.specs.Prelude.{ℕ, zero, suc, Option, None, Some}
use Rattle.levels.specs.declared.codes.Code.{Code}
use Rattle.levels.specs.declared.codes.Code.TheVariants.{Report, Item, Component, Characteristic, Serial, Response}

abbrev pub number : Code → ℕ
number Report = 1
number Item = 2
number Component = 3
number Characteristic = 4
number Serial = 5
number Response = 6

-- 0 where there is no code
abbrev pub number_or_0 : Option Code → ℕ
number_or_0 None = 0
number_or_0 (Some code) = number code

-- the code with that number
abbrev pub numbered : ℕ → Option Code
numbered zero = None
numbered (suc zero) = Some Report
numbered (suc (suc zero)) = Some Item
numbered (suc (suc (suc zero))) = Some Component
numbered (suc (suc (suc (suc zero)))) = Some Characteristic
numbered (suc (suc (suc (suc (suc zero))))) = Some Serial
numbered (suc (suc (suc (suc (suc (suc zero)))))) = Some Response
numbered (suc (suc (suc (suc (suc (suc (suc n))))))) = None
