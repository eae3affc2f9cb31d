-- Bytes from one place up to another, what a function that writes leaves in the lent output, and what it writes for a byte.
-- Assumes nothing.
use Rattle.std.specs.Prelude.{ℕ, ◌+◌, ◌-◌, cond, ◌++◌, eqb, length, take, drop}
use Rattle.text.specs.Bytes.{Bytes}
use Rattle.text.specs.declared.separators.Separators.{Separators}

-- the bytes from one place up to another
abbrev pub stretch : ℕ → ℕ → Bytes → Bytes
stretch from to s = take (to - from) (drop from s)

-- the bytes stand in the output from `at` on; all else is as it was
abbrev pub put_at : ℕ → Bytes → Bytes → Bytes
put_at at bytes output = take at output ++ (bytes ++ drop (at + length bytes) output)

-- what a byte becomes that does not stand in BIN02
abbrev pub byte_again : Separators → Separators → ℕ → ℕ
byte_again old new b =
    cond (eqb b old.element) new.element
    (cond (eqb b old.component) new.component (cond (eqb b old.terminator) new.terminator b))
