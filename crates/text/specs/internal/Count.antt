-- What the count of a BIN comes to, digit by digit.
-- Assumes nothing.
use Rattle.std.specs.Prelude.{ℕ, suc, ◌+◌, ◌-◌, ◌*◌, cond, ◌&&◌, [], ◌∷◌, leb, eqb, Result, Ok, Err}
use Rattle.text.specs.Bytes.{Bytes, byte}
use Rattle.text.specs.Separators.{is_digit}
use Rattle.text.specs.Cut.{may_count}
use Rattle.text.specs.declared.bin.Counted.{Counted}
use Rattle.text.specs.declared.bin.Uncounted.{Uncounted}
use Rattle.text.specs.declared.bin.Uncounted.TheVariants.{Open, Broken}

-- a count is told, with the place of the separator behind it
abbrev pub told : (number end : ℕ) → Result Counted Uncounted
told number end = Ok (record { number = number; end = end })

-- behind k digits that write n, from `place` on
abbrev pub count_from : (e k n place : ℕ) → Bytes → Result Counted Uncounted
count_from e k n place [] = Err Open
count_from e k n place (b ∷ s) =
    cond (eqb b e) (cond (leb 1 n) (told n place) (Err Broken))
    (cond (is_digit b && may_count (suc k) (n * 10 + (b - byte "0")))
    (count_from e (suc k) (n * 10 + (b - byte "0")) (suc place) s)
    (Err Broken))
