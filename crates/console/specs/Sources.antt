-- What is said of a source.
-- Assumes nothing.
use Rattle.std.specs.Prelude.{ℕ, List, ⊤}
use Rattle.console.specs.declared.input.Source.{Source}
use Rattle.console.specs.declared.input.Source.TheVariants.{Standard, File}

-- this holds of the name that comes with a file; standard input has none
abbrev pub IfNamed : {F : Type 0} → Source F → (List ℕ → Type 0) → Type 0
IfNamed Standard P = ⊤
IfNamed (File file name) P = P name.now
