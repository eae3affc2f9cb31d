-- Bytes cut at a separator into pieces, and pieces written with it again.
-- Assumes nothing.
use Rattle.std.specs.Prelude.{ℕ, Bool, true, false, List, [], ◌∷◌, ◌++◌, eqb}
use Rattle.text.specs.Bytes.{Bytes}

-- the byte before pieces that are cut already: a cut where it is the separator, else one byte more of the first piece
abbrev pub before : Bool → ℕ → List Bytes → List Bytes
before true b ps = [] ∷ ps
before false b [] = (b ∷ []) ∷ []
before false b (p ∷ ps) = (b ∷ p) ∷ ps

-- the bytes cut at every separator: one piece more than there are separators
abbrev pub pieces : ℕ → Bytes → List Bytes
pieces sep [] = [] ∷ []
pieces sep (b ∷ s) = before (eqb b sep) b (pieces sep s)

-- the pieces with a separator between each two
abbrev pub joined : ℕ → List Bytes → Bytes
joined sep [] = []
joined sep (p ∷ []) = p
joined sep (p ∷ (q ∷ ps)) = p ++ sep ∷ joined sep (q ∷ ps)

-- the pieces with a separator after each
abbrev pub closed : ℕ → List Bytes → Bytes
closed sep [] = []
closed sep (p ∷ ps) = p ++ sep ∷ closed sep ps
