-- A quick test of bytes that tells of most readings that nothing in them collides.
-- Assumes nothing.
use Rattle.std.specs.Prelude.{ℕ, Bool, not, ◌||◌}
use Rattle.text.specs.Separators.{is_separator}
use Rattle.text.specs.declared.separators.Separators.{Separators}

-- a byte that collides nowhere: no new separator, or an old one too, which no data byte is
abbrev pub harmless_byte : Separators → Separators → ℕ → Bool
harmless_byte old new b = not (is_separator new b) || is_separator old b
