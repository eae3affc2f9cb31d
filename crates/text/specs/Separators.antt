-- The three separators of document 01, "Bytes, separators, segments", and which bytes are data.
-- Assumes nothing.
use Rattle.std.specs.Prelude.{ℕ, Bool, not, ◌&&◌, ◌||◌, ◌≡◌, T, eqb}
use Rattle.text.specs.Bytes.{byte, bytes, between, among}
use Rattle.text.specs.declared.separators.Separators.{Separators}

abbrev pub is_digit : ℕ → Bool
is_digit b = between (byte "0") (byte "9") b

abbrev pub is_capital : ℕ → Bool
is_capital b = between (byte "A") (byte "Z") b

-- a capital or a digit
abbrev pub is_id_byte : ℕ → Bool
is_id_byte b = is_capital b || is_digit b

abbrev pub is_small : ℕ → Bool
is_small b = between (byte "a") (byte "z") b

-- which bytes may serve: 1 to 126, and none that values are mostly made of (letters, digits, space, `.`, `-`)
unfoldable pub may_serve : ℕ → Bool
may_serve b = between 1 126 b && not (is_capital b || is_small b || is_digit b || among (bytes " .-") b)

-- three such bytes, no two the same
abbrev pub fit_separators : Separators → Bool
fit_separators q =
    may_serve q.element && may_serve q.component && may_serve q.terminator
    && not (eqb q.element q.component) && not (eqb q.element q.terminator) && not (eqb q.component q.terminator)

-- the same, part by part
pub record Fitted (q : Separators) : Type 0 where
  pub element_serves : T (may_serve q.element)
  pub component_serves : T (may_serve q.component)
  pub terminator_serves : T (may_serve q.terminator)
  pub element_component : q.element ≡ q.component → ⊥
  pub element_terminator : q.element ≡ q.terminator → ⊥
  pub component_terminator : q.component ≡ q.terminator → ⊥

-- the standard set
abbrev pub standard : Separators
standard = record { element = byte "*"; component = byte ":"; terminator = byte "~" }

abbrev pub is_separator : Separators → ℕ → Bool
is_separator q b = eqb b q.element || eqb b q.component || eqb b q.terminator

-- a byte that can be data: 32 to 126. Data bytes are those of them that are no separator; where the separators are cut away, as in a view, the
-- data bytes are just these
abbrev pub printable : ℕ → Bool
printable b = between 32 126 b
